-- Law. Names, strings and numbers are read back, each as one token; and the strings of a text stand for bytes.
use Rattle.std.specs.Prelude.{◌≡◌, ◌||◌, true, ◌∷◌, ℕ, ℤ, Bool, true, false, ◌++◌, length, All, slice_index, codes, map, None, Some}
use Rattle.std.specs.Fmt.{signed_decimal}
use Rattle.nc_types.specs.Bytes.{Bytes}
use Rattle.nc_types.specs.declared.{nc_type.NcType.NcType, nc_type.NcType.TheVariants.Int, version.Version.Version}
use Rattle.nc_types.specs.Escapes.{escaped_name, escaped_text, is_reserved}
use Rattle.nc_types.specs.Names.{IsName}
use Rattle.nc_base.specs.NumberLaws.{IsInRange}
use Rattle.nc_types.specs.Types.{number_suffix}
use Rattle.nc_base.specs.ValueText.{is_char}
use Rattle.nc_types.specs.Versions.{has_type}
use Rattle.cdl_tokens.specs.Bytes.{is_blank, is_mark_byte, goes_on_word, goes_on_number, is_escape}
use Rattle.cdl_tokens.specs.Escapes.{inner, string_value, unescape, word_value}
use Rattle.cdl_tokens.specs.Scan.{scan, token}
use Rattle.cdl_statements.specs.Lexemes.{name_of}
use Rattle.cdl_tokens.specs.Numerals.{numeral}
use Rattle.cdl_tokens.specs.Tokens.{raw, tokens}
use Rattle.cdl_statements.specs.Pieces.{section_of}
use Rattle.cdl_tokens.specs.declared.{token.Token.Token, token.TokenKind.TokenKind}
use Rattle.cdl_tokens.specs.declared.token.TokenKind.TheVariants.{Word, Number, Text}

-- if this rest follows, exactly these bytes are one token of this kind, whether or not a token comes before
abbrev pub AreToken : TokenKind → Bytes → Bytes → Type 0
AreToken kind bytes rest = (fresh : Bool) → scan fresh (bytes ++ rest) ≡ token kind (length bytes)

-- ---- names

-- The bytes begin with nothing that continues a word: neither with such a byte nor with an escape. The byte past the end of a text
-- counts as 0, which continues nothing.
pub record StopsWord (rest : Bytes) : Type 0 where
  pub byte : goes_on_word (slice_index rest 0) ≡ false
  pub escape : is_escape (slice_index rest 0) (slice_index rest 1) ≡ false

-- a name, escaped, is one word, which is no reserved word and stands for the name
pub record NameReadsBack (name : Bytes) : Type 0 where
  pub token : (rest : Bytes) → StopsWord rest → AreToken Word (escaped_name name) rest
  pub free : is_reserved (escaped_name name) ≡ false
  pub no_section : section_of (record { kind = Word; bytes = escaped_name name }) ≡ None
  pub value : word_value (escaped_name name) ≡ name
  pub says : name_of (record { kind = Word; bytes = escaped_name name }) ≡ Some name

abbrev pub NamesReadBack : Type 0
NamesReadBack = (name : Bytes) → IsName name → NameReadsBack name

-- ---- strings

-- escaped, between quotes
abbrev pub quoted : Bytes → Bytes
quoted bytes = codes "\"" ++ (escaped_text bytes ++ codes "\"")

-- the bytes, escaped and between quotes, are one string, which stands for them
pub record StringReadsBack (bytes : Bytes) : Type 0 where
  pub token : (rest : Bytes) → AreToken Text (quoted bytes) rest
  pub between : inner (quoted bytes) ≡ escaped_text bytes
  pub value : unescape (inner (quoted bytes)) ≡ map Some bytes
  pub stand : string_value (inner (quoted bytes)) ≡ bytes

abbrev pub StringsReadBack : Type 0
StringsReadBack = (bytes : Bytes) → StringReadsBack bytes

-- ---- numbers

-- the first byte doesn't continue a number
abbrev pub StopsNumber : Bytes → Type 0
StopsNumber rest = goes_on_number (slice_index rest 0) ≡ false

-- White space and a mark end a word and a number. After each name and each number of a dump comes one of the two.
abbrev pub BlanksAndMarksStop : Type 0
BlanksAndMarksStop = (b : ℕ) (rest : Bytes) → (is_blank b || is_mark_byte b) ≡ true → StopsWord (b ∷ rest) × StopsNumber (b ∷ rest)

-- these bytes are one number token, which says this number of this type
pub record ReadsAsNumber (version : Version) (bytes : Bytes) (number : ℤ) (ty : NcType) : Type 0 where
  pub token : (rest : Bytes) → StopsNumber rest → AreToken Number bytes rest
  pub value : numeral version bytes ≡ Some (record { value = number; ty = ty })

-- a number of a type, with the type's suffix, as a constant of an attribute has it
abbrev pub ConstantsReadBack : Type 0
ConstantsReadBack = (version : Version) (ty : NcType) (number : ℤ)
    → is_char ty ≡ false → has_type version ty ≡ true → IsInRange ty number
    → ReadsAsNumber version (signed_decimal number ++ number_suffix ty) number ty

-- the same without a suffix, as a value of a variable has it: it says no type, which counts as `int`
abbrev pub ValuesReadBack : Type 0
ValuesReadBack = (version : Version) (ty : NcType) (number : ℤ)
    → is_char ty ≡ false → has_type version ty ≡ true → IsInRange ty number
    → ReadsAsNumber version (signed_decimal number) number Int

-- ---- the strings of a text

-- if the token is a string, each character between its quotes stands for a byte, and these are the bytes
abbrev pub StandsForBytes : Bytes → Token → Type 0
StandsForBytes text t = t.kind ≡ Text → unescape (inner (raw text t)) ≡ map Some (string_value (inner (raw text t)))

abbrev pub StringsStandForBytes : Type 0
StringsStandForBytes = (text : Bytes) → All (StandsForBytes text) (tokens text)
