-- For contracts. A variable or a type that was read, with the bytes that a record has up to and including that variable.
use Rattle.std.specs.Prelude.{◌≡◌, ℕ, ◌+◌, List, Option, Some, None, Result, Ok, Err, if◌then◌else◌}
use Rattle.nc_base.specs.declared.{header.Dim.Dim, header.Var.Var}
use Rattle.nc_types.specs.declared.{nc_type.NcType.NcType}
use Rattle.nc_base.specs.Grammar.{record_bytes, is_within_limits}
use Rattle.nc_window.specs.declared.{head_fault.HeadFault.HeadFault, sized_var.SizedType.SizedType, sized_var.SizedVar.SizedVar}

-- the bytes of the padded slabs of the record variables up to one of this shape and type, `total` of those before it; none past a limit
unfoldable pub total_with : List Dim → List ℕ → NcType → ℕ → Option ℕ
total_with dims ids ty total = if is_within_limits dims total ids ty then Some (total + record_bytes dims ids ty) else None

-- a variable's padded slab is counted, if it has records
abbrev pub IsCounted : List Dim → ℕ → SizedVar → Type 0
IsCounted dims total sized = sized.total ≡ total + record_bytes dims sized.var.dimids sized.var.ty

-- the same of a variable of this shape, whose type was read
abbrev pub IsCountedType : List Dim → List ℕ → ℕ → SizedType → Type 0
IsCountedType dims ids total sized = sized.total ≡ total + record_bytes dims ids sized.ty

-- what was read, without the total
abbrev pub var_of : Result SizedVar HeadFault → Result Var HeadFault
var_of (Ok sized) = Ok sized.var
var_of (Err e) = Err e

abbrev pub type_of : Result SizedType HeadFault → Result NcType HeadFault
type_of (Ok sized) = Ok sized.ty
type_of (Err e) = Err e
