-- For contracts. How many values the variables of a text lack.
use Rattle.std.specs.Prelude.{ℕ, ◌≡◌, ◌<◌, ◌≤◌, ◌^◌, List, Option, SomeIff, length}
use Rattle.nc_base.specs.code.OwedValues.{owed_count}
use Rattle.nc_base.specs.Sizes.{slab_limit, slab_len}
use Rattle.nc_base.specs.declared.{header.Dim.Dim, header.Var.Var}

-- a slab of the variable is within its limit
abbrev pub HasSmallSlab : List Dim → Var → Type 0
HasSmallSlab dims var = slab_len dims var.dimids var.ty ≤ slab_limit

-- the result is the number of values that are lacking if `len` bytes are listed
abbrev pub CountsOwed : List Dim → Var → ℕ → ℕ → Option ℕ → Type 0
CountsOwed dims var records len result =
    (listed : List ℕ) → length listed ≡ len → SomeIff result (HasSmallSlab dims var × (owed_count dims records var listed < 2 ^ 64)) (owed_count dims records var listed)
