-- Writing one text after another.
use Rattle.std.proofs.Common.{◌≡◌, ℕ, ◌+◌, ◌-◌, ◌<◌, ◌≤◌, List, [], ◌∷◌, ◌++◌, length, take, drop, refl, sym, ap, ◌∙◌, append_assoc, arith, subst, Option, Some, None, Result, Ok, Err, take-add, map, get_or, suc, take-suc, is_some, option_map, unwrap_or}
use Rattle.std.proofs.lemmas.List.{append-nil, take-append-drop, length-take, length-drop, length-append, map-append, take_more, take_all}
use Rattle.std.proofs.lemmas.Bool.{OnTrue_at, OnTrue_from}
use Rattle.nc_types.specs.Bytes.{concat_parts}
use Rattle.devices.specs.Failures.{HasFailed}
use Rattle.devices.specs.Sinks.{SinkView, append, taken_len, IsPrefix, IsPrefixIf, IsCut, StoppedShort, is_transparent, Appended, FailedPartway}
use Rattle.devices.specs.code.SinkWrites.{AcceptedSome, Written}

pub append-++ : (s : SinkView) (a b : List ℕ) → append s (a ++ b) ≡ append (append s a) b
unfolding append
append-++ s a b = ap (λ (x : Option (List ℕ)). record { taken = x; failures = s.failures }) (elim s.taken as (λ t. option_map (λ prefix. prefix ++ (a ++ b)) t ≡ option_map (λ prefix. prefix ++ b) (option_map (λ prefix. prefix ++ a) t)) [ None ↦ refl | Some bytes ↦ ap Some (sym (append_assoc bytes a b)) ])

pub append-none : (s : SinkView) → append s [] ≡ s
unfolding append
append-none s = ap (λ (x : Option (List ℕ)). record { taken = x; failures = s.failures }) (elim s.taken as (λ t. option_map (λ prefix. prefix ++ []) t ≡ t) [ None ↦ refl | Some bytes ↦ ap Some (append-nil bytes) ])

pub append-parts : (s : SinkView) (piece : List ℕ) (pieces : List (List ℕ)) → append s (concat_parts (piece ∷ pieces)) ≡ append (append s piece) (concat_parts pieces)
unfolding concat_parts
append-parts s piece pieces = append-++ s piece (concat_parts pieces)

pub append-parts_none : (s : SinkView) → append s (concat_parts []) ≡ s
unfolding concat_parts
append-parts_none s = append-none s

prefix_append : (now wanted : Option (List ℕ)) (a : List ℕ) → IsPrefixIf now wanted → IsPrefixIf now (option_map (λ prefix. prefix ++ a) wanted)
prefix_append (Some prefix) (Some whole) a h = record { rest = h.rest ++ a; joined = sym (append_assoc prefix h.rest a) ∙ ap (λ (x : List ℕ). x ++ a) h.joined }
prefix_append None None a h = tt
prefix_append (Some prefix) None a h = absurd h
prefix_append None (Some whole) a h = absurd h

-- what broke off falls short of the longer text too
pub cut-append : (u s : SinkView) (a : List ℕ) → IsCut u s → IsCut u (append s a)
unfolding append IsCut
cut-append u s a cut = prefix_append u.taken s.taken a cut

pub count-append : (s : SinkView) (a : List ℕ) → taken_len s ≤ taken_len (append s a)
unfolding append taken_len
count-append s a = elim s.taken as (λ t. length (unwrap_or t []) ≤ length (unwrap_or (option_map (λ prefix. prefix ++ a) t) [])) [ None ↦ omega arith | Some bytes ↦ omega (arith, length-append bytes a) ]

pub transparent-append : (s : SinkView) (a : List ℕ) → is_transparent (append s a) ≡ is_transparent s
unfolding append is_transparent
transparent-append s a = elim s.taken as (λ t. is_some (option_map (λ prefix. prefix ++ a) t) ≡ is_some t) [ None ↦ refl | Some bytes ↦ refl ]

pub ruleset writes = (append-++, append-none, append-parts, append-parts_none, cut-append, count-append, transparent-append)

-- one text after another
pub appended_then : (s t u : SinkView) (a b : List ℕ) → Appended s t a → Appended t u b → Appended s u (a ++ b)
appended_then s t u a b first second = record {
  failures = second.failures ∙ first.failures;
  taken = OnTrue_from _ _ (λ transparent.
      let e = OnTrue_at {P = t ≡ append s a} transparent first.taken in
      let f = OnTrue_at {P = u ≡ append t b} (ap is_transparent e ∙ transparent-append s a ∙ transparent) second.taken in
      f ∙ ap (λ (v : SinkView). append v b) e ∙ sym (append-++ s a b));
}

-- the second broke off, and more was to come
pub appended_partway : (s t u : SinkView) (a b c : List ℕ) → Appended s t a → FailedPartway t u b → FailedPartway s u (a ++ (b ++ c))
appended_partway s t u a b c first partway = record {
  failures = subst (λ n. HasFailed n u.failures) first.failures partway.failures;
  taken = OnTrue_from _ _ (λ transparent.
      let e = OnTrue_at {P = t ≡ append s a} transparent first.taken in
      let f = OnTrue_at {P = StoppedShort t u (append t b)} (ap is_transparent e ∙ transparent-append s a ∙ transparent) partway.taken in
      let whole : append (append t b) c ≡ append s (a ++ (b ++ c)) = ap (λ (v : SinkView). append (append v b) c) e ∙ sym (append-++ (append s a) b c) ∙ sym (append-++ s a (b ++ c)) in
      record {
        cut = subst (IsCut u) whole (cut-append u (append t b) c f.cut);
        no_less = omega (arith, f.no_less, count-append s a, ap (λ (v : SinkView). taken_len v) e);
      });
}

-- one text after another, where the second may have broken off
pub wrote_then : {X E : Type 0} {s t : SinkView} {a : List ℕ} (u : SinkView) (b : List ℕ) (r : Result X E) → Appended s t a → Written t u b r → Written s u (a ++ b) r
wrote_then u b (Ok x) first second = appended_then _ _ u _ b first second
wrote_then {s = s} {t = t} {a = a} u b (Err e) first partway = subst (λ text. FailedPartway s u (a ++ text)) (append-nil b) (appended_partway s t u a b [] first partway)

pub wrote_end : {X E : Type 0} (s t : SinkView) (a : List ℕ) (r : Result X E) → Written s t a r → Written s t (a ++ []) r
wrote_end s t a r wrote = subst (λ text. Written s t text r) (sym (append-nil a)) wrote

-- a device that took none of what is left
pub stops : (s t u : SinkView) (text : List ℕ) (n : ℕ) → FailedPartway t u [] → Appended s t (take n text) → FailedPartway s u text
stops s t u text n partway so_far = subst (FailedPartway s u) (take-append-drop n text) (appended_partway s t u (take n text) [] (drop n text) so_far partway)

pub moves : (s t u : SinkView) (text : List ℕ) (n k : ℕ) → n ≤ length text → Appended s t (take n text) → AcceptedSome t u (drop n text) k
    → record { within : n + k ≤ length text; so_far : Appended s u (take (n + k) text) }
moves s t u text n k le so_far some = record {
  within = omega (arith, some.within, length-drop n text);
  so_far = subst (Appended s u) (sym (take-add n k text)) (appended_then s t u (take n text) (take k (drop n text)) so_far some.appended);
}

-- ---- one text for each element of a list

parts-++ : (a b : List (List ℕ)) → concat_parts (a ++ b) ≡ concat_parts a ++ concat_parts b
unfolding concat_parts
parts-++ [] b = refl
parts-++ (piece ∷ a) b = ap (λ (x : List ℕ). piece ++ x) (parts-++ a b) ∙ sym (append_assoc piece (concat_parts a) (concat_parts b))

parts-one : (piece : List ℕ) → concat_parts (piece ∷ []) ≡ piece
unfolding concat_parts
parts-one piece = append-nil piece

-- the invariant of a loop that writes one text for each element
abbrev pub IsWritten : {X : Type 0} → SinkView → SinkView → (X → List ℕ) → List X → ℕ → Type 0
IsWritten old now f xs i = Appended old now (concat_parts (map f (take i xs)))

up_to_next : {X : Type 0} (f : X → List ℕ) (xs : List X) (i : ℕ) (x : X) → i < length xs → x ≡ get_or xs i x → concat_parts (map f (take (i + 1) xs)) ≡ concat_parts (map f (take i xs)) ++ f x
up_to_next f xs i x lt is = rw (take_more xs i x lt, map-append, parts-++, ← is) (ap (λ (y : List ℕ). concat_parts (map f (take i xs)) ++ y) (parts-one (f x)))

-- one more element is written
pub wrote_next : {X : Type 0} (s t u : SinkView) (f : X → List ℕ) (xs : List X) (i : ℕ) (x : X) → i < length xs → x ≡ get_or xs i x → IsWritten s t f xs i → Appended t u (f x) → IsWritten s u f xs (i + 1)
wrote_next s t u f xs i x lt is so_far wrote = subst (Appended s u) (sym (up_to_next f xs i x lt is)) (appended_then s t u (concat_parts (map f (take i xs))) (f x) so_far wrote)

-- the loop ends in an element's text
pub partway_next : {X : Type 0} (s t u : SinkView) (f : X → List ℕ) (xs : List X) (i : ℕ) (x : X) → i < length xs → x ≡ get_or xs i x → IsWritten s t f xs i → FailedPartway t u (f x) → FailedPartway s u (concat_parts (map f xs))
partway_next {X = X} s t u f xs i x lt is so_far partway =
    let rest = concat_parts (map f (drop (i + 1) xs)) in
    let all : concat_parts (map f (take (i + 1) xs)) ++ rest ≡ concat_parts (map f xs) = sym (parts-++ (map f (take (i + 1) xs)) (map f (drop (i + 1) xs))) ∙ ap concat_parts (sym (map-append f (take (i + 1) xs) (drop (i + 1) xs))) ∙ ap (λ (ys : List X). concat_parts (map f ys)) (take-append-drop (i + 1) xs) in
    let whole : concat_parts (map f (take i xs)) ++ (f x ++ rest) ≡ concat_parts (map f xs) = sym (append_assoc (concat_parts (map f (take i xs))) (f x) rest) ∙ ap (λ (y : List ℕ). y ++ rest) (sym (up_to_next f xs i x lt is)) ∙ all in
    subst (FailedPartway s u) whole (appended_partway s t u (concat_parts (map f (take i xs))) (f x) rest so_far partway)

-- ---- what a device proves of itself

pub prefix_of_itself : (bytes : List ℕ) → IsPrefix bytes bytes
prefix_of_itself bytes = record { rest = []; joined = append-nil bytes }

pub take_all_of : (bytes : List ℕ) → take (length bytes) bytes ≡ bytes
take_all_of bytes = take_all (length bytes) bytes (omega arith)

pub ruleset devices = (prefix_of_itself, append-nil, take_all_of)

-- ---- a sink that broke off has taken a prefix of the text

pub split_prefix : (old text now rest : List ℕ) → now ++ rest ≡ old ++ text → length old ≤ length now → (prefix : List ℕ) × (now ≡ old ++ prefix) × (prefix ++ rest ≡ text)
split_prefix [] text now rest e le = (now, refl, e)
split_prefix (b ∷ old) text [] rest e le = absurd (omega arith)
split_prefix (b ∷ old) text (c ∷ now) rest e le =
    let inner = split_prefix old text now rest (cc) (omega arith) in
    (inner.0, cc (inner.1), inner.2)
