-- Values that are printed after others.
use Rattle.cdl_print.proofs.Prelude.{◌≡◌, ℤ, ◌+◌, List, [], ◌++◌, length, sym, ◌∙◌, ap, refl, subst, arith, append_assoc, length-append, append-nil, rules, Look, later-append, later_none, SinkView, appended_then, appended_partway, values_after, IsAfterNext, AppendedNext, FailedInNext, Progress}
use Rattle.cdl_print.proofs.Begun.{appended_none}

-- ---- no value

pub after_none : (look : Look) (p : Progress) → IsAfterNext (values_after look p []) p
after_none look p = search (rules, append-nil)

pub none_appended : (look : Look) (p : Progress) (s : SinkView) → AppendedNext (values_after look p []) s s
none_appended look p s = grind (arith, later_none look, appended_none s)

-- ---- values after others

pub after_then : (look : Look) (ys zs : List ℤ) (p q r : Progress) → IsAfterNext (values_after look p ys) q → IsAfterNext (values_after look q zs) r → IsAfterNext (values_after look p (ys ++ zs)) r
after_then look ys zs p q r first second = grind (arith, length-append ys zs, append_assoc)

pub next_appended : (look : Look) (ys zs : List ℤ) (p q : Progress) (s t u : SinkView)
    → IsAfterNext (values_after look p ys) q → AppendedNext (values_after look p ys) s t → AppendedNext (values_after look q zs) t u → AppendedNext (values_after look p (ys ++ zs)) s u
next_appended look ys zs p q s t u after first second = grind (arith, later-append look, appended_then s t u)

-- the sink failed after the values ys, inside the text of zs, and ws were to come
next_failed : (look : Look) (ys zs ws : List ℤ) (p q : Progress) (s t u : SinkView)
    → IsAfterNext (values_after look p ys) q → AppendedNext (values_after look p ys) s t → FailedInNext (values_after look q zs) t u → FailedInNext (values_after look p (ys ++ (zs ++ ws))) s u
next_failed look ys zs ws p q s t u after first failed = grind (arith, later-append look, appended_partway s t u)

-- ---- the loop over values

-- of all values, those done are printed, and the others are to come
pub record IsUnderway (look : Look) (p q : Progress) (old now : SinkView) (others all : List ℤ) : Type 0 where
  pub done : List ℤ
  pub after : IsAfterNext (values_after look p done) q
  pub appended : AppendedNext (values_after look p done) old now
  pub joined : done ++ others ≡ all

pub underway_at_first : (look : Look) (p : Progress) (s : SinkView) (all : List ℤ) → IsUnderway look p p s s all all
underway_at_first look p s all = record { done = []; after = after_none look p; appended = none_appended look p s; joined = refl }

pub underway_next : (look : Look) (p q r : Progress) (s t u : SinkView) (others next later all : List ℤ)
    → IsUnderway look p q s t others all → others ≡ next ++ later → IsAfterNext (values_after look q next) r → AppendedNext (values_after look q next) t u → IsUnderway look p r s u later all
underway_next look p q r s t u others next later all underway is after appended = record {
  done = underway.done ++ next;
  after = after_then look underway.done next p q r underway.after after;
  appended = next_appended look underway.done next p q s t u underway.after underway.appended appended;
  joined = append_assoc underway.done next later ∙ ap (λ (x : List ℤ). underway.done ++ x) (sym is) ∙ underway.joined;
}

pub underway_failed : (look : Look) (p q : Progress) (s t u : SinkView) (others next later all : List ℤ)
    → IsUnderway look p q s t others all → others ≡ next ++ later → FailedInNext (values_after look q next) t u → FailedInNext (values_after look p all) s u
underway_failed look p q s t u others next later all underway is failed =
    subst (λ (ys : List ℤ). FailedInNext (values_after look p ys) s u) (ap (λ (x : List ℤ). underway.done ++ x) (sym is) ∙ underway.joined) (next_failed look underway.done next later p q s t u underway.after underway.appended failed)

done_is_all : (look : Look) (p q : Progress) (s t : SinkView) (all : List ℤ) (underway : IsUnderway look p q s t [] all) → underway.done ≡ all
done_is_all look p q s t all underway = sym (append-nil underway.done) ∙ underway.joined

pub underway_after : (look : Look) (p q : Progress) (s t : SinkView) (all : List ℤ) → IsUnderway look p q s t [] all → IsAfterNext (values_after look p all) q
underway_after look p q s t all underway = subst (λ (ys : List ℤ). IsAfterNext (values_after look p ys) q) (done_is_all look p q s t all underway) underway.after

pub underway_appended : (look : Look) (p q : Progress) (s t : SinkView) (all : List ℤ) → IsUnderway look p q s t [] all → AppendedNext (values_after look p all) s t
underway_appended look p q s t all underway = subst (λ (ys : List ℤ). AppendedNext (values_after look p ys) s t) (done_is_all look p q s t all underway) underway.appended

-- no more are to come than the variable has
pub underway_within : (look : Look) (p q : Progress) (s t : SinkView) (others all : List ℤ) → IsUnderway look p q s t others all
    → q.position + length others ≡ p.position + length all
underway_within look p q s t others all underway = omega (arith, underway.after.position, length-append underway.done others, ap length underway.joined)
