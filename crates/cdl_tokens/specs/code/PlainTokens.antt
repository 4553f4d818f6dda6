-- For contracts. The tokens of long lists. A plain number is an optional sign, decimal digits, and nothing or a letter that is a suffix in
-- every version. A plain string has neither an escape nor a line feed.
use Rattle.std.specs.Prelude.{◌≡◌, ◌==◌, ◌||◌, codes, count_by, ℕ, ◌+◌, ◌<◌, ◌≤◌, Bool, true, false, List, [], ◌∷◌, Some, option_map, slice_index, take, drop, length}
use Rattle.std.specs.Char.{to_ascii_lowercase}
use Rattle.std.specs.List.{prefix_len}
use Rattle.std.specs.Str.{byte}
use Rattle.nc_types.specs.declared.{nc_type.NcType.NcType, version.Version.Version}
use Rattle.cdl_tokens.specs.Bytes.{goes_on_number, is_blank, is_digit}
use Rattle.cdl_tokens.specs.Escapes.{inner, string_value}
use Rattle.cdl_tokens.specs.code.Magnitudes.{ReadsDigits, held}
use Rattle.cdl_tokens.specs.Numerals.{parts, type_of_suffix, with_sign}
use Rattle.cdl_tokens.specs.Scan.{begins_number, scan, token}
use Rattle.cdl_tokens.specs.Tokens.{raw}
use Rattle.cdl_tokens.specs.declared.{plain_number.PlainNumber.PlainNumber, plain_number.PlainMagnitude.PlainMagnitude, scanner.ListedNumber.ListedNumber, token.Token.Token}
use Rattle.cdl_tokens.specs.declared.token.TokenKind.TheVariants.{Number, Mark, Text, Word}

-- a comma or white space
abbrev pub ends_value : ℕ → Bool
ends_value b = b == byte "," || is_blank b

-- the first n bytes are decimal digits of this value, which fits in 64 bits, and don't make a number octal; more digits may follow
pub record BeginsDecimal (bs : List ℕ) (n value : ℕ) : Type 0 where
  pub some : 0 < n
  pub reads : ReadsDigits bs n value
  pub small : value ≤ 18446744073709551615
  pub plain : slice_index bs 0 ≡ 0x30 → n ≡ 1

-- these bytes are a suffix of the type in every version, and begin neither with a digit nor with `x`
pub record IsSuffix (bs : List ℕ) (ty : NcType) : Type 0 where
  pub says : (v : Version) → type_of_suffix v bs ≡ Some ty
  pub no_digit : is_digit (slice_index bs 0) ≡ false
  pub no_x : (to_ascii_lowercase (slice_index bs 0) == byte "x") ≡ false

-- this letter is a suffix of the type in every version
pub record IsLetterOf (ty : NcType) (letter : ℕ) : Type 0 where
  pub suffix : IsSuffix (letter ∷ []) ty
  pub goes : goes_on_number letter ≡ true

-- the bytes begin with a number token without a sign, of this length, which says this number in every version
pub record BeginsUnsigned (bs : List ℕ) (n : PlainMagnitude) : Type 0 where
  pub digit : is_digit (slice_index bs 0) ≡ true
  pub len : n.len ≡ prefix_len goes_on_number bs
  pub within : n.len ≤ length bs
  pub comma : n.at_comma ≡ true → slice_index bs n.len ≡ 0x2c
  pub says : (v : Version) (minus : Bool) → Some (record { minus = minus; magnitude = Some n.value; ty = n.ty }) ≡ option_map held (with_sign v minus (take n.len bs))

-- the bytes begin with a number token of this length, which says this number in every version
pub record Begins (bs : List ℕ) (p : PlainNumber) : Type 0 where
  pub begins : begins_number bs ≡ true
  pub len : p.len ≡ 1 + prefix_len goes_on_number (drop 1 bs)
  pub within : p.len ≤ length bs
  pub comma : p.at_comma ≡ true → slice_index bs p.len ≡ 0x2c
  pub says : (v : Version) → Some p.numeral ≡ option_map held (parts v (take p.len bs))

-- the bytes begin with a string of this length, without a line feed, whose bytes between the quotes stand for themselves
pub record BeginsString (bs : List ℕ) (len : ℕ) : Type 0 where
  pub begins : (at_start : Bool) → scan at_start bs ≡ token Text len
  pub some : 2 ≤ len
  pub within : len ≤ length bs
  pub flat : count_by (λ b. b == 0x0a) (take len bs) ≡ 0
  pub plain : string_value (inner (take len bs)) ≡ inner (take len bs)

-- the bytes begin with a `_` that is a word by itself
pub record BeginsUnderscore (bs : List ℕ) : Type 0 where
  pub begins : (at_start : Bool) → scan at_start bs ≡ token Word 1
  pub bytes : take 1 bs ≡ codes "_"

-- the token is a comma
pub record IsComma (text : List ℕ) (t : Token) : Type 0 where
  pub mark : t.kind ≡ Mark
  pub comma : slice_index (raw text t) 0 ≡ 0x2c

-- a number token that says this number in every version, and a comma
pub record IsListed (text : List ℕ) (l : ListedNumber) : Type 0 where
  pub number : l.number.kind ≡ Number
  pub says : (v : Version) → Some l.numeral ≡ option_map held (parts v (raw text l.number))
  pub comma : IsComma text l.comma

-- a string, whose bytes between the quotes stand for themselves
pub record IsPlainString (text : List ℕ) (t : Token) : Type 0 where
  pub string : t.kind ≡ Text
  pub plain : string_value (inner (raw text t)) ≡ inner (raw text t)

-- a `_`
pub record IsUnderscore (text : List ℕ) (t : Token) : Type 0 where
  pub word : t.kind ≡ Word
  pub bytes : raw text t ≡ codes "_"
