-- For contracts. Arrays whose last values are owed: they are the fill value, and don't stand in memory.
use Rattle.std.specs.Prelude.{ℕ, ◌≡◌, ◌-◌, ◌*◌, ◌/◌, ◌≤◌, List, [], ◌∷◌, ◌++◌, length, replicate}
use Rattle.std.specs.List.{flat_map}
use Rattle.nc_base.specs.declared.{header.Dim.Dim, header.Var.Var}
use Rattle.nc_base.specs.Fill.{fill_value}
use Rattle.nc_base.specs.Sizes.{value_count}
use Rattle.nc_base.specs.Numbers.{bytes_of_number}
use Rattle.nc_types.specs.Types.{size_of}

-- how many values these bytes lack of those that a variable has over n records
abbrev pub owed_count : List Dim → ℕ → Var → List ℕ → ℕ
owed_count dims n var listed = value_count dims var n - length listed / size_of var.ty

-- `count` fill values of a variable
abbrev pub fills : Var → ℕ → List ℕ
fills var count = flat_map (bytes_of_number var.ty) (replicate count (fill_value var))

-- the whole array of a variable over n records: the listed bytes, and the fill values that are owed
abbrev pub whole_array : List Dim → ℕ → Var → List ℕ → List ℕ
whole_array dims n var listed = listed ++ fills var (owed_count dims n var listed)

-- those of all variables
abbrev pub whole_arrays : List Dim → ℕ → List Var → List (List ℕ) → List (List ℕ)
whole_arrays dims n (var ∷ vars) (listed ∷ others) = whole_array dims n var listed ∷ whole_arrays dims n vars others
whole_arrays dims n _ _ = []

-- these bytes are the first values of a variable over n records, or all of them
pub record IsListed (dims : List Dim) (n : ℕ) (var : Var) (listed : List ℕ) : Type 0 where
  pub count : ℕ
  pub within : count ≤ value_count dims var n
  pub whole : length listed ≡ count * size_of var.ty

-- one list of bytes for each variable
abbrev pub AreListed : List Dim → ℕ → List Var → List (List ℕ) → Type 0
AreListed dims n [] [] = Unit {0}
AreListed dims n [] (listed ∷ others) = ⊥
AreListed dims n (var ∷ vars) [] = ⊥
AreListed dims n (var ∷ vars) (listed ∷ others) = IsListed dims n var listed × AreListed dims n vars others
