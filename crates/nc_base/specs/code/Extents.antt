-- For contracts. Where the values of a variable end in a file.
use Rattle.std.specs.Prelude.{ℕ, ◌+◌, Option, Some, None}
use Rattle.std.specs.List.{last_or}
use Rattle.nc_base.specs.declared.{header.Var.Var, header.Header.Header}
use Rattle.nc_types.specs.Types.{size_of}
use Rattle.nc_base.specs.Places.{value_offsets}

-- the first offset after the last value of this size, or this begin if there is no value
abbrev pub end_after : ℕ → ℕ → Option ℕ → ℕ
end_after begin size None = begin
end_after begin size (Some offset) = offset + size

-- the first offset after a variable's last value over n records, or its begin if it has no value
abbrev pub extent_end : Header → Var → ℕ → ℕ
extent_end h var n = end_after var.begin_at (size_of var.ty) (last_or None (value_offsets h var n))
