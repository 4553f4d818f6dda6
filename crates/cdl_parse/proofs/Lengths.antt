-- The length of a dimension, by a number of any size.
use Rattle.cdl_parse.proofs.Prelude.{◌≡◌, ℕ, suc, Bool, true, false, List, refl, arith, pos, None, Some, nat_lt, nat_le, ◌-◌, if◌then◌else◌, Dim, Version, Parts, number, signed, NcType, dim_len_of}
use Rattle.nc_types.specs.Versions.{count_limit}
use Rattle.cdl_tokens.specs.code.Magnitudes.{held}
use Rattle.cdl_parse.specs.code.DimensionLengths.{number_len}

within : (v : Version) (k : ℕ) → nat_le (suc k) (count_limit v - 1) ≡ (if nat_le (count_limit v) (suc k) then false else true)
within v k = grind arith

by_magnitude : (v : Version) (dims : List Dim) (ty : NcType) (minus : Bool) (m : ℕ) (big : Bool) → big ≡ nat_lt 18446744073709551615 m →
    dim_len_of v dims (Some (signed minus m)) ≡ number_len v (record { minus = minus; magnitude = if big then None else Some m; ty = ty })
by_magnitude v dims ty minus m big h = grind (arith, pos, within)

pub lens : (v : Version) (dims : List Dim) (p : Parts) → dim_len_of v dims (Some (number p).value) ≡ number_len v (held p)
lens v dims p = by_magnitude v dims p.ty p.minus p.magnitude (nat_lt 18446744073709551615 p.magnitude) refl
