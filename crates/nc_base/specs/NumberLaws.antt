-- Law. What holds of numbers and their bytes.
use Rattle.std.specs.Prelude.{◌≡◌, ℤ, length, MatchBool, FitsSigned}
use Rattle.std.specs.Int.{FitsUnsigned}
use Rattle.nc_types.specs.declared.nc_type.NcType.{NcType}
use Rattle.nc_types.specs.Bytes.{Bytes, AreBytes}
use Rattle.nc_types.specs.Types.{width_of, size_of, is_signed}
use Rattle.nc_base.specs.Numbers.{number_of, bytes_of_number}

-- the number is in the range of the type
abbrev pub IsInRange : NcType → ℤ → Type 0
IsInRange ty number = MatchBool (is_signed ty) (FitsSigned (width_of ty) number) (FitsUnsigned (width_of ty) number)

-- a number in the type's range is read back from its bytes
abbrev pub NumbersReadBack : Type 0
NumbersReadBack = (ty : NcType) (number : ℤ) → IsInRange ty number → number_of ty (bytes_of_number ty number) ≡ number

-- as many bytes as the type's size are the bytes of their number
abbrev pub BytesReadBack : Type 0
BytesReadBack = (ty : NcType) (bytes : Bytes) → AreBytes bytes → length bytes ≡ size_of ty
    → bytes_of_number ty (number_of ty bytes) ≡ bytes

-- and that number is in the type's range
abbrev pub NumbersAreInRange : Type 0
NumbersAreInRange = (ty : NcType) (bytes : Bytes) → AreBytes bytes → length bytes ≡ size_of ty
    → IsInRange ty (number_of ty bytes)
