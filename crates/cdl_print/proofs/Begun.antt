-- A text that is written from the prefix on, with what is left of it.
use Rattle.cdl_print.proofs.Prelude.{◌≡◌, ℕ, List, [], ◌++◌, sym, subst, append_assoc, ap, ◌∙◌, refl, arith, append-nil, OnTrue_from, SinkView, Appended, FailedPartway, append-none, appended_then, appended_partway}

-- the sink has taken the whole text but for the rest
pub record IsBegun (old now : SinkView) (rest whole : List ℕ) : Type 0 where
  pub done : List ℕ
  pub appended : Appended old now done
  pub joined : done ++ rest ≡ whole

-- nothing is written
pub appended_none : (s : SinkView) → Appended s s []
appended_none s = record { failures = refl; taken = OnTrue_from _ _ (λ _. sym (append-none s)) }

pub begun_at_first : (s : SinkView) (whole : List ℕ) → IsBegun s s whole whole
begun_at_first s whole = record { done = []; appended = appended_none s; joined = refl }

pub begun_next : (s t u : SinkView) (rest piece rest' whole : List ℕ) → IsBegun s t rest whole → rest ≡ piece ++ rest' → Appended t u piece → IsBegun s u rest' whole
begun_next s t u rest piece rest' whole begun is appended =
    grind (arith, appended_then s t u begun.done piece begun.appended appended, append_assoc begun.done piece rest')

pub begun_partway : (s t u : SinkView) (rest piece rest' whole : List ℕ) → IsBegun s t rest whole → rest ≡ piece ++ rest' → FailedPartway t u piece → FailedPartway s u whole
begun_partway s t u rest piece rest' whole begun is partway =
    subst (FailedPartway s u) (ap (λ (x : List ℕ). begun.done ++ x) (sym is) ∙ begun.joined) (appended_partway s t u begun.done piece rest' begun.appended partway)

pub begun_all : (s t : SinkView) (whole : List ℕ) → IsBegun s t [] whole → Appended s t whole
begun_all s t whole begun = subst (Appended s t) (sym (append-nil begun.done) ∙ begun.joined) begun.appended
