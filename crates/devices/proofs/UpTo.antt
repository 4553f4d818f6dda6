-- A text that is written from its start: what a loop keeps, whatever it goes over. A loop needs only that what is left is a
-- piece and the rest.
use Rattle.std.proofs.Common.{◌≡◌, ℕ, ◌+◌, ◌<◌, ◌≤◌, List, [], ◌++◌, length, get_or, drop, refl, sym, ◌∙◌, ap, subst, append_assoc, Result, Ok, Err}
use Rattle.std.specs.List.{flat_map}
use Rattle.std.proofs.lemmas.Bool.{OnTrue_from}
use Rattle.std.proofs.lemmas.List.{append-nil, drop_more, drop_all}
use Rattle.devices.specs.Sinks.{SinkView, Appended, FailedPartway}
use Rattle.devices.specs.code.SinkWrites.{Written}
use Rattle.devices.proofs.Writes.{append-none, appended_then, appended_partway}

pub appended-nothing : (s : SinkView) → Appended s s []
appended-nothing s = record { failures = refl; taken = OnTrue_from _ _ (λ transparent. sym (append-none s)) }

-- of the whole text all but the rest is written
pub record UpTo (old now : SinkView) (whole rest : List ℕ) : Type 0 where
  pub prefix : List ℕ
  pub is : whole ≡ prefix ++ rest
  pub appended : Appended old now prefix

-- nothing is written yet
pub up-start : (s : SinkView) (whole : List ℕ) → UpTo s s whole whole
up-start s whole = record { prefix = []; is = refl; appended = appended-nothing s }

-- one more piece
pub up-next : (s t u : SinkView) (whole rest piece more : List ℕ) → rest ≡ piece ++ more → UpTo s t whole rest → Appended t u piece → UpTo s u whole more
up-next s t u whole rest piece more is up appended = record {
  prefix = up.prefix ++ piece;
  is = up.is ∙ ap (λ (x : List ℕ). up.prefix ++ x) is ∙ sym (append_assoc up.prefix piece more);
  appended = appended_then s t u up.prefix piece up.appended appended;
}

-- the next piece broke off
pub up-partway : (s t u : SinkView) (whole rest piece more : List ℕ) → rest ≡ piece ++ more → UpTo s t whole rest → FailedPartway t u piece → FailedPartway s u whole
up-partway s t u whole rest piece more is up partway =
    subst (FailedPartway s u) (sym (up.is ∙ ap (λ (x : List ℕ). up.prefix ++ x) is)) (appended_partway s t u up.prefix piece more up.appended partway)

-- nothing is left
pub up-all : (s t : SinkView) (whole rest : List ℕ) → rest ≡ [] → UpTo s t whole rest → Appended s t whole
up-all s t whole rest none up = subst (Appended s t) (sym (up.is ∙ ap (λ (x : List ℕ). up.prefix ++ x) none ∙ append-nil up.prefix)) up.appended

-- the first part is written, and then the call that writes the other one has ended
pub up-then : {X E : Type 0} (s t u : SinkView) (whole first second : List ℕ) → whole ≡ first ++ second → Appended s t first → (result : Result X E) → Written t u second result → Written s u whole result
up-then s t u whole first second is appended (Ok done) wrote = subst (Appended s u) (sym is) (appended_then s t u first second appended wrote)
up-then s t u whole first second is appended (Err failure) wrote =
    subst (FailedPartway s u) (ap (λ (x : List ℕ). first ++ x) (append-nil second) ∙ sym is) (appended_partway s t u first second [] appended wrote)

-- ---- a loop over a list, whose elements have a text each

-- what is left is the text of an element and the rest
pub each-left : {X : Type 0} (f : X → List ℕ) (xs : List X) (i : ℕ) (x : X) → i < length xs → x ≡ get_or xs i x → flat_map f (drop i xs) ≡ f x ++ flat_map f (drop (i + 1) xs)
each-left {X = X} f xs i x lt at = ap (flat_map f) (drop_more xs i x lt) ∙ ap (λ (y : X). f y ++ flat_map f (drop (i + 1) xs)) (sym at)

-- nothing is left
pub each-none : {X : Type 0} (f : X → List ℕ) (xs : List X) (i : ℕ) → length xs ≤ i → flat_map f (drop i xs) ≡ []
each-none f xs i le = ap (flat_map f) (drop_all i xs le)
