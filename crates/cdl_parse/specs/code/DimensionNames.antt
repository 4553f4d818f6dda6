-- For contracts. The names of dimensions.
use Rattle.std.specs.Prelude.{ℕ, Bool, List, [], ◌∷◌, ◌++◌, map, if◌then◌else◌, Result, Ok}
use Rattle.std.specs.List.{list_any}
use Rattle.std.specs.Str.{bytes_eq}
use Rattle.nc_base.specs.declared.header.Dim.{Dim}
use Rattle.cdl_statements.specs.declared.{fault.CdlKind.CdlKind, fault.CdlKind.TheVariants.DuplicateName}
use Rattle.cdl_statements.specs.State.{when, ◌>>=◌}

abbrev pub dim_names : List Dim → List (List ℕ)
dim_names dims = map (λ (d : Dim). d.name) dims

-- one of the dimensions has the name
abbrev pub is_dimension_name : List ℕ → List Dim → Bool
is_dimension_name name dims = list_any (λ (d : Dim). bytes_eq d.name name) dims

-- the dimensions, with this one at their end if it was added
abbrev pub with_dim : Bool → List Dim → Dim → List Dim
with_dim added dims dim = if added then dims ++ dim ∷ [] else dims

-- the dimensions with a new one at their end
abbrev pub with_new_dim : List Dim → List ℕ → ℕ → Result (List Dim) CdlKind
with_new_dim dims name len = do
  _ ← when (is_dimension_name name dims) DuplicateName
  Ok (dims ++ record { name = name; len = len } ∷ [])
