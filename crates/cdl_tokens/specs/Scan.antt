-- Definition. The gap or the token at the start of bytes: its kind, which is `None` for a gap, and its length. A byte past the end counts
-- as 0.
use Rattle.std.specs.Prelude.{ℕ, Bool, [], ◌∷◌, ◌+◌, ◌&&◌, ◌||◌, ◌==◌, nat_lt, nat_eq, not, if◌then◌else◌, slice_index, take, drop, length, codes, None, Some, is_some}
use Rattle.std.specs.Str.{byte}
use Rattle.std.specs.List.{list_all, prefix_len, starts_with}
use Rattle.nc_types.specs.Bytes.{Bytes}
use Rattle.cdl_tokens.specs.Bytes.{is_blank, is_digit, may_begin_word, goes_on_word, goes_on_number, is_sign, is_mark_byte, is_escape}
use Rattle.cdl_tokens.specs.Escapes.{unescape}
use Rattle.cdl_tokens.specs.declared.{scan.Scanned.Scanned, token.TokenKind.TokenKind}
use Rattle.cdl_tokens.specs.declared.token.TokenKind.TheVariants.{Opening, Word, Number, Text, Mark, Bad}

unfoldable pub word_len : Bytes → ℕ
word_len [] = 0
word_len (b ∷ []) = if goes_on_word b then 1 else 0
word_len (b ∷ c ∷ rest) =
    if is_escape b c then 2 + word_len rest
    else if goes_on_word b then 1 + word_len (c ∷ rest) else 0

-- how many bytes come before the first `close` that no backslash escapes, or before the end
unfoldable pub len_until : ℕ → Bytes → ℕ
len_until close [] = 0
len_until close (b ∷ []) = if b == close then 0 else 1
len_until close (b ∷ c ∷ rest) =
    if b == byte "\\" then 2 + len_until close rest
    else if b == close then 0 else 1 + len_until close (c ∷ rest)

abbrev pub begins_a_word : Bytes → Bool
begins_a_word bs = may_begin_word (slice_index bs 0) || is_escape (slice_index bs 0) (slice_index bs 1)

abbrev pub begins_number : Bytes → Bool
begins_number bs =
    is_digit (slice_index bs 0) || slice_index bs 0 == byte "." && is_digit (slice_index bs 1)
    || is_sign (slice_index bs 0) && is_digit (slice_index bs 1)
    || is_sign (slice_index bs 0) && slice_index bs 1 == byte "." && is_digit (slice_index bs 2)

abbrev pub begins_opening : Bytes → Bool
begins_opening bs = starts_with nat_eq bs (codes "netcdf") && (is_blank (slice_index bs 6) || slice_index bs 6 == byte "{")

abbrev pub begins_comment : Bytes → Bool
begins_comment bs = slice_index bs 0 == byte "/" && slice_index bs 1 == byte "/"

abbrev pub gap : ℕ → Scanned
gap n = record { kind = None; len = n }

abbrev pub token : TokenKind → ℕ → Scanned
token kind n = record { kind = Some kind; len = n }

-- `netcdf` and then these bytes, n of them before the `{`, if there is one
abbrev pub scan_opening : Bytes → ℕ → Scanned
scan_opening bs n = if nat_lt n (length bs) then token Opening (6 + n + 1) else token Bad (6 + length bs)

-- a quote and then these bytes, n of them before the closing quote, if there is one
abbrev pub scan_text : Bytes → ℕ → Scanned
scan_text bs n =
    if nat_lt n (length bs) then token (if list_all is_some (unescape (take n bs)) then Text else Bad) (n + 2)
    else token Bad (1 + length bs)

-- is_first: no token comes before
unfoldable pub scan : Bool → Bytes → Scanned
scan is_first bs =
    if is_first && begins_opening bs then scan_opening (drop 6 bs) (len_until (byte "{") (drop 6 bs))
    else if begins_a_word bs then token Word (word_len bs)
    else if begins_number bs then token Number (1 + prefix_len goes_on_number (drop 1 bs))
    else if is_blank (slice_index bs 0) then gap 1
    else if begins_comment bs then gap (prefix_len (λ b. not (b == byte "\n")) bs)
    else if slice_index bs 0 == byte "\"" then scan_text (drop 1 bs) (len_until (byte "\"") (drop 1 bs))
    else if is_mark_byte (slice_index bs 0) then token Mark 1
    else token Bad 1
