-- Definition. What number tokens say.
use Rattle.std.specs.Prelude.{find, ℕ, ℤ, pos, neg_ℤ, Bool, false, [], ◌&&◌, ◌||◌, ◌==◌, if◌then◌else◌, slice_index, take, drop, map, codes, Option, None}
use Rattle.std.specs.Char.{to_ascii_lowercase}
use Rattle.std.specs.List.{prefix_len}
use Rattle.std.specs.Option.{option_map}
use Rattle.std.specs.Str.{byte, bytes_eq}
use Rattle.nc_types.specs.Bytes.{Bytes}
use Rattle.cdl_tokens.specs.Bytes.{is_digit, is_octal, is_hex, is_sign, number_in}
use Rattle.nc_types.specs.declared.{nc_type.NcType.NcType, version.Version.Version}
use Rattle.nc_types.specs.declared.nc_type.NcType.TheVariants.{Char, Int}
use Rattle.nc_types.specs.Types.{all_types, number_suffix}
use Rattle.nc_types.specs.Versions.{has_type}

-- what a number token says
pub record TypedNumber : Type 0 where
  pub value : ℤ
  pub ty : NcType

-- these bytes, in lower case, are a suffix of the type: the one that a dump writes, and for int also `l`
abbrev pub has_suffix : Bytes → NcType → Bool
has_suffix bs Char = false
has_suffix bs Int = bytes_eq bs [] || bytes_eq bs (codes "l")
has_suffix bs ty = bytes_eq bs (map to_ascii_lowercase (number_suffix ty))

unfoldable pub type_of_suffix : Version → Bytes → Option NcType
type_of_suffix v bs = find (λ ty. has_suffix (map to_ascii_lowercase bs) ty && has_type v ty) all_types

-- the sign of a number, the value of its digits, which has no limit, and the type that its suffix says
pub record Parts : Type 0 where
  pub minus : Bool
  pub magnitude : ℕ
  pub ty : NcType

-- n digits of this base, one at least, and a suffix that the version has
abbrev pub in_base : Version → Bool → ℕ → ℕ → Bytes → Option Parts
in_base v minus base n bs =
    if n == 0 then None
    else option_map (λ ty. record { minus = minus; magnitude = number_in base 0 (take n bs); ty = ty }) (type_of_suffix v (drop n bs))

-- what comes after the sign: hexadecimal digits after `0x`, octal digits that begin with `0`, or decimal digits
abbrev pub with_sign : Version → Bool → Bytes → Option Parts
with_sign v minus bs =
    if slice_index bs 0 == byte "0" && to_ascii_lowercase (slice_index bs 1) == byte "x"
    then in_base v minus 16 (prefix_len is_hex (drop 2 bs)) (drop 2 bs)
    else if slice_index bs 0 == byte "0" then in_base v minus 8 (prefix_len is_octal bs) bs
    else in_base v minus 10 (prefix_len is_digit bs) bs

unfoldable pub parts : Version → Bytes → Option Parts
parts v bs = if is_sign (slice_index bs 0) then with_sign v (slice_index bs 0 == byte "-") (drop 1 bs) else with_sign v false bs

abbrev pub signed : Bool → ℕ → ℤ
signed minus n = if minus then neg_ℤ (pos n) else pos n

abbrev pub number : Parts → TypedNumber
number p = record { value = signed p.minus p.magnitude; ty = p.ty }

unfoldable pub numeral : Version → Bytes → Option TypedNumber
numeral v bs = option_map number (parts v bs)
