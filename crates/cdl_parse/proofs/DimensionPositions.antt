-- The dimension of a name is the one at the name's position.
use Rattle.cdl_parse.proofs.Prelude.{◌≡◌, ℕ, ◌+◌, List, [], ◌∷◌, refl, sym, ap, ◌∙◌, Option, Some, if◌then◌else◌, position, position_from, bytes_eq, Dim, position_of, dim_names}
use Rattle.std.proofs.lemmas.Iterator.Adapters.{position_from-zero}

from_names : (i : ℕ) (dims : List Dim) (name : List ℕ) → position_from (λ other. bytes_eq other name) i (dim_names dims) ≡ position_from (λ (d : Dim). bytes_eq d.name name) i dims
from_names i [] name = refl
from_names i (d ∷ dims) name = ap (λ (rest : Option ℕ). if bytes_eq d.name name then Some i else rest) (from_names (i + 1) dims name)

pub position_is : (dims : List Dim) (name : List ℕ) → position_of (dim_names dims) name ≡ position (λ (d : Dim). bytes_eq d.name name) dims
position_is dims name = from_names 0 dims name ∙ sym (position_from-zero (λ (d : Dim). bytes_eq d.name name) dims)
