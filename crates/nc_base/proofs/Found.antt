-- What is found at an index.
use Rattle.nc_base.proofs.Prelude.{◌≡◌, ℕ, List, subst, Option, Some, slice_get, IfSome, All, arith, All-get_or}
use Rattle.std.proofs.lemmas.Option.{get_or_from_slice_get, slice_get_within}

-- one fact of what is found gives another
pub if-some : {X : Type 0} (P Q : X → Type 0) (o : Option X) → ((x : X) → o ≡ Some x → P x → Q x) → IfSome o P → IfSome o Q
if-some P Q o h h2 = grind arith

-- what holds of all elements holds of the one at an index
pub all-at : {X : Type 0} (P : X → Type 0) (xs : List X) (i : ℕ) (x : X) → All P xs → slice_get xs i ≡ Some x → P x
all-at P xs i x all is = subst P (get_or_from_slice_get xs i x x is) (All-get_or P xs i x (slice_get_within xs i x is) all)
