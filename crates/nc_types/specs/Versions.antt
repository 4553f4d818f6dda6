-- Definition. What differs between the versions of the format, each thing once.
use Rattle.std.specs.Prelude.{ℕ, ◌-◌, ◌^◌, ◌==◌, Bool, true, false, nat_lt, if◌then◌else◌, [], ◌∷◌, Option, find}
use Rattle.std.specs.Int.{Width, w32, w64}
use mir.Val.{bits, hbits}
use Rattle.nc_types.specs.declared.{nc_type.NcType.NcType, version.Version.Version}
use Rattle.nc_types.specs.declared.nc_type.NcType.TheVariants.{Byte, Char, Short, Int}
use Rattle.nc_types.specs.declared.version.Version.TheVariants.{Cdf1, Cdf2, Cdf5}

-- the byte after `CDF`
abbrev pub version_byte : Version → ℕ
version_byte Cdf1 = 1
version_byte Cdf2 = 2
version_byte Cdf5 = 5

-- the version with this byte
abbrev pub version_of_byte : ℕ → Option Version
version_of_byte b = find (λ v. b == version_byte v) (Cdf1 ∷ Cdf2 ∷ Cdf5 ∷ [])

-- the width of a NON_NEG (a count, a length, the number of records), of a dimension id and of a vsize
abbrev pub count_width : Version → Width
count_width Cdf1 = w32
count_width Cdf2 = w32
count_width Cdf5 = w64

-- the width of OFFSET: a variable's begin
abbrev pub offset_width : Version → Width
offset_width Cdf1 = w32
offset_width Cdf2 = w64
offset_width Cdf5 = w64

-- a NON_NEG is below this: its top bit is 0 (`bits` is the number of bits of a width, `hbits` is one less)
abbrev pub count_limit : Version → ℕ
count_limit v = 2 ^ hbits (count_width v)

-- an OFFSET is below this
abbrev pub offset_limit : Version → ℕ
offset_limit v = 2 ^ hbits (offset_width v)

-- STREAMING, in place of a number of records: all bits are 1
abbrev pub streaming_mark : Version → ℕ
streaming_mark v = 2 ^ bits (count_width v) - 1

abbrev pub has_type : Version → NcType → Bool
has_type Cdf5 ty = true
has_type v Byte = true
has_type v Char = true
has_type v Short = true
has_type v Int = true
has_type v ty = false

-- vsize as it is written: the bytes of the padded slab, or in CDF-1 and CDF-2 2^32 - 1 if there are 2^32 or more
abbrev pub vsize_of : Version → ℕ → ℕ
vsize_of Cdf5 size = size
vsize_of v size = if nat_lt size (2 ^ 32) then size else (2 ^ 32 - 1)
