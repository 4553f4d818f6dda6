-- Definition. Values as big-endian numbers, the signed ones in two's complement.
use Rattle.std.specs.Prelude.{ℕ, zero, suc, ◌/◌, ℤ, pos, List, [], ◌∷◌, length, take, drop, if◌then◌else◌}
use Rattle.std.specs.Int.{to_be_bytes, from_be_bytes, cast_signed, cast_unsigned}
use Rattle.nc_types.specs.Bytes.{Bytes}
use Rattle.nc_types.specs.declared.nc_type.NcType.{NcType}
use Rattle.nc_types.specs.Types.{width_of, size_of, is_signed}

-- the number that these bytes spell; there are as many of them as a value of the type has
abbrev pub number_of : NcType → Bytes → ℤ
number_of ty bytes =
    let magnitude = from_be_bytes (width_of ty) bytes in
    if is_signed ty then cast_signed (width_of ty) magnitude else pos magnitude

abbrev pub bytes_of_number : NcType → ℤ → Bytes
bytes_of_number ty number = to_be_bytes (width_of ty) (cast_unsigned (width_of ty) number)

-- the first n numbers in these bytes, one after the other
abbrev pub numbers_from : NcType → ℕ → Bytes → List ℤ
numbers_from ty zero bytes = []
numbers_from ty (suc n) bytes = number_of ty (take (size_of ty) bytes) ∷ numbers_from ty n (drop (size_of ty) bytes)

unfoldable pub numbers : NcType → Bytes → List ℤ
numbers ty bytes = numbers_from ty (length bytes / size_of ty) bytes
