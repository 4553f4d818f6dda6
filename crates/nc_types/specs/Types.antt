-- Definition. The type table.
use Rattle.std.specs.Prelude.{ℕ, ◌==◌, Bool, true, false, ℤ, pos, neg_ℤ, List, [], ◌∷◌, codes, Option, find}
use Rattle.std.specs.Int.{Width, w8, w16, w32, w64, byte_len}
use Rattle.nc_types.specs.Bytes.{Bytes}
use Rattle.nc_types.specs.declared.nc_type.NcType.{NcType}
use Rattle.nc_types.specs.declared.nc_type.NcType.TheVariants.{Byte, Char, Short, Int, Ubyte, Ushort, Uint, Int64, Uint64}

-- the code of a type in a file (5 and 6 are float and double, which are refused)
abbrev pub code_of : NcType → ℕ
code_of Byte = 1
code_of Char = 2
code_of Short = 3
code_of Int = 4
code_of Ubyte = 7
code_of Ushort = 8
code_of Uint = 9
code_of Int64 = 10
code_of Uint64 = 11

abbrev pub all_types : List NcType
all_types = Byte ∷ Char ∷ Short ∷ Int ∷ Ubyte ∷ Ushort ∷ Uint ∷ Int64 ∷ Uint64 ∷ []

-- the type with this code; 5 and 6, the codes of the floating types, have none, and so have all other codes
abbrev pub type_of_code : ℕ → Option NcType
type_of_code code = find (λ ty. code == code_of ty) all_types

abbrev pub width_of : NcType → Width
width_of Byte = w8
width_of Char = w8
width_of Short = w16
width_of Int = w32
width_of Ubyte = w8
width_of Ushort = w16
width_of Uint = w32
width_of Int64 = w64
width_of Uint64 = w64

-- in bytes
abbrev pub size_of : NcType → ℕ
size_of ty = byte_len (width_of ty)

abbrev pub is_signed : NcType → Bool
is_signed Byte = true
is_signed Short = true
is_signed Int = true
is_signed Int64 = true
is_signed ty = false

-- NC_FILL_BYTE, NC_FILL_CHAR and so on
abbrev pub default_fill_of : NcType → ℤ
default_fill_of Byte = neg_ℤ (pos 127)
default_fill_of Char = pos 0
default_fill_of Short = neg_ℤ (pos 32767)
default_fill_of Int = neg_ℤ (pos 2147483647)
default_fill_of Ubyte = pos 255
default_fill_of Ushort = pos 65535
default_fill_of Uint = pos 4294967295
default_fill_of Int64 = neg_ℤ (pos 9223372036854775806)
default_fill_of Uint64 = pos 18446744073709551614

abbrev pub type_word : NcType → Bytes
type_word Byte = codes "byte"
type_word Char = codes "char"
type_word Short = codes "short"
type_word Int = codes "int"
type_word Ubyte = codes "ubyte"
type_word Ushort = codes "ushort"
type_word Uint = codes "uint"
type_word Int64 = codes "int64"
type_word Uint64 = codes "uint64"

-- the suffix of a number in an attribute; characters are written in strings, and have none
abbrev pub number_suffix : NcType → Bytes
number_suffix Byte = codes "b"
number_suffix Char = []
number_suffix Short = codes "s"
number_suffix Int = []
number_suffix Ubyte = codes "UB"
number_suffix Ushort = codes "US"
number_suffix Uint = codes "U"
number_suffix Int64 = codes "LL"
number_suffix Uint64 = codes "ULL"
