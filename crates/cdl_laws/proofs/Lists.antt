-- Two tests in one, and lists, one element at a time.
use Rattle.std.proofs.Common.{ℕ, ◌*◌, List, [], ◌∷◌, arith, ◌++◌, ◌≡◌, Bool, true, false, ◌||◌, length, refl, map}
use Rattle.std.specs.List.{list_all, prefix_len}
use Rattle.cdl_statements.proofs.Each.{Each, each_of}
use Rattle.cdl_statements.proofs.Meanings.{IsByte}
use Rattle.nc_types.specs.Bytes.{AreBytes}
use Rattle.std.proofs.lemmas.Grind.{get_or_default_zero}
use Rattle.nc_base.proofs.Tests.{and_left, and_right}

pub or_left : (a b : Bool) → (a || b) ≡ false → a ≡ false
or_left a b h = grind arith

pub or_right : (a b : Bool) → (a || b) ≡ false → b ≡ false
or_right a b h = grind arith

pub all_mono : (p q : ℕ → Bool) → ((b : ℕ) → p b ≡ true → q b ≡ true) → (bs : List ℕ) → list_all p bs ≡ true → list_all q bs ≡ true
all_mono p q more [] h = refl
all_mono p q more (b ∷ bs) h = grind (arith, more b, and_left, all_mono p q more bs (and_right (p b) (list_all p bs) h))

pub map_none : {X Y : Type 0} (f : X → Y) (xs : List X) → map f xs ≡ [] → xs ≡ []
map_none f [] h = refl
map_none f (x ∷ xs) h = cc

pub nothing : {X : Type 0} (xs : List X) (m size : ℕ) → length xs ≡ m * size → m ≡ 0 → xs ≡ []
nothing [] m size h z = refl
nothing (x ∷ xs) m size h z = grind arith

pub bytes_each : (bs : List ℕ) → AreBytes bs → Each IsByte bs
bytes_each bs h = each_of IsByte bs (λ k d within. rw (get_or_default_zero bs k d within) (h k))

-- what all bytes pass, and none of what follows
pub prefix_all : (p : ℕ → Bool) (w rest : List ℕ) → list_all p w ≡ true → prefix_len p rest ≡ 0 → prefix_len p (w ++ rest) ≡ length w
prefix_all p [] rest all h = h
prefix_all p (b ∷ w) rest all h = grind (arith, and_left (p b) (list_all p w) all, prefix_all p w rest (and_right (p b) (list_all p w) all) h)

-- P holds of each element after what f makes of those before it
abbrev pub EachAfter : {X Y : Type 0} → (X → Y) → (List Y → X → Type 0) → List Y → List X → Type 0
EachAfter f P done [] = Unit {0}
EachAfter f P done (x ∷ xs) = P done x × EachAfter f P (done ++ f x ∷ []) xs
