-- For contracts. Names in a list, and an index of them.
use Rattle.std.specs.Prelude.{ℕ, ◌≡◌, ◌+◌, ◌*◌, ◌%◌, ◌^◌, ◌==◌, Bool, List, [], ◌∷◌, ◌++◌, if◌then◌else◌, Option, None, Some, not, is_some, map}
use Rattle.std.specs.List.{position_from}
use Rattle.std.specs.BTreeMap.{get, get_by}
use Rattle.std.specs.Cmp.Lexicographic.{slice_cmp}
use Rattle.std.specs.Ordering.{nat_cmp}
use Rattle.std.specs.Str.{bytes_eq}
use Rattle.nc_base.specs.declared.header.Var.{Var}
use Rattle.cdl_values.specs.declared.name_index.NameIndex.{NameIndex}

-- the position of the first of these names that is this one
abbrev pub position_of : List (List ℕ) → List ℕ → Option ℕ
position_of names name = position_from (λ other. bytes_eq other name) 0 names

-- the name has this position
abbrev pub IsPosition : List (List ℕ) → List ℕ → ℕ → Type 0
IsPosition names name position = position_of names name ≡ Some position

-- no one of these names is this one
abbrev pub is_new : List (List ℕ) → List ℕ → Bool
is_new names name = not (is_some (position_of names name))

-- the hash, taken on over these bytes
unfoldable pub hash_on : ℕ → List ℕ → ℕ
hash_on hash [] = hash
hash_on hash (b ∷ bs) = hash_on ((hash * 1099511628211 % 2 ^ 64 + b) % 2 ^ 64) bs

-- the hash of a name
abbrev pub hash_of : List ℕ → ℕ
hash_of name = hash_on 0 name

-- the position of the first of these names that has the hash
abbrev pub first_with_hash : ℕ → List (List ℕ) → Option ℕ
first_with_hash hash names = position_from (λ name. hash_of name == hash) 0 names

-- a position, if it isn't the first one
abbrev pub unless_first : Option ℕ → Option ℕ → Option ℕ
unless_first None first = None
unless_first (Some position) None = Some position
unless_first (Some position) (Some first) = if position == first then None else Some position

-- the position of the name, if an earlier one of these names has its hash
abbrev pub later_position : List (List ℕ) → List ℕ → Option ℕ
later_position names name = unless_first (position_of names name) (first_with_hash (hash_of name) names)

-- the index is one of these names
pub record IsIndex (index : NameIndex) (names : List (List ℕ)) : Type 0 where
  pub firsts : (hash : ℕ) → get nat_cmp index.first_of_hash hash ≡ first_with_hash hash names
  pub others : (name : List ℕ) → get_by (λ k. slice_cmp nat_cmp name k.items) index.others ≡ later_position names name

-- the index is one of these names, with this one at their end if it was added
abbrev pub IsIndexWith : NameIndex → List (List ℕ) → List ℕ → Bool → Type 0
IsIndexWith index names name added = IsIndex index (if added then names ++ name ∷ [] else names)

-- the names of these variables
abbrev pub var_names : List Var → List (List ℕ)
var_names vars = map (λ (v : Var). v.name) vars
