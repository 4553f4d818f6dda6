-- A number is in a type's range where the type has it.
use Rattle.cdl_statements.proofs.Prelude.{◌≡◌, ℤ, true, arith, has_number}
use Rattle.nc_types.specs.declared.nc_type.NcType.{NcType}
use Rattle.nc_base.specs.NumberLaws.{IsInRange}

pub has_it : (ty : NcType) (n : ℤ) → has_number ty n ≡ true → IsInRange ty n
unfolding has_number
has_it ty n h = grind arith

pub is_had : (ty : NcType) (n : ℤ) → IsInRange ty n → has_number ty n ≡ true
unfolding has_number
is_had ty n h = grind arith
