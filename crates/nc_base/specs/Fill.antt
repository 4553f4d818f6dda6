-- Definition. Fill values, and which types print them as `_`.
use Rattle.std.specs.Prelude.{ℤ, Bool, true, false, ◌==◌, ◌&&◌, length, find, Option, Some, None, unwrap_or, if◌then◌else◌, codes}
use Rattle.std.specs.Str.{bytes_eq}
use Rattle.nc_base.specs.declared.{header.Att.Att, header.Var.Var}
use Rattle.nc_types.specs.declared.{nc_type.NcType.NcType}
use Rattle.nc_types.specs.declared.nc_type.NcType.TheVariants.{Byte, Char, Ubyte}
use Rattle.nc_types.specs.Types.{code_of, size_of, default_fill_of}
use Rattle.nc_base.specs.Numbers.{number_of}

abbrev pub is_fill_att : Att → Bool
is_fill_att att = bytes_eq att.name (codes "_FillValue")

-- the attribute is one value of the type
abbrev pub has_one_value_of : NcType → Att → Bool
has_one_value_of ty att = (code_of att.ty == code_of ty) && (length att.vals == size_of ty)

-- the fill value that an attribute gives to a variable of this type
abbrev pub fill_of_att : NcType → Option Att → Option ℤ
fill_of_att ty None = None
fill_of_att ty (Some att) = if has_one_value_of ty att then Some (number_of ty att.vals) else None

-- the one that the first attribute named `_FillValue` gives
abbrev pub own_fill : Var → Option ℤ
own_fill var = fill_of_att var.ty (find is_fill_att var.atts)

unfoldable pub fill_value : Var → ℤ
fill_value var = unwrap_or (own_fill var) (default_fill_of var.ty)

-- as in Unidata's ncdump: characters never print as `_`, and numbers of one byte only if the variable has a fill value of its own
abbrev pub prints_fill : NcType → Bool → Bool
prints_fill Char has_own = false
prints_fill Byte has_own = has_own
prints_fill Ubyte has_own = has_own
prints_fill ty has_own = true
