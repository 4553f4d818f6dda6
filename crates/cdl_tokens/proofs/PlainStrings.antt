-- What plain strings are.
use Rattle.cdl_tokens.proofs.Prelude.{list_all, prefix_len, cases_lt, get_or_past, length-take-le, take-take, inner, string_value, unescape, BeginsString, scan, scan_text, token, len_until, goes_on, is_unescaped, Text, ◌≡◌, ℕ, suc, ◌+◌, ◌<◌, Bool, true, List, [], ◌∷◌, length, take, drop, refl, ap, arith, count_by, ⊎_elim, ◌==◌, slice_index, is_some, rules}
use Rattle.cdl_tokens.specs.declared.search.Stops.TheVariants.{AtStringEnd}
use Rattle.cdl_tokens.proofs.PlainTokens.{feeds_on, no_opening}
use Rattle.cdl_tokens.proofs.Steps.{take_one_more}
use Rattle.cdl_tokens.proofs.Strings.{plain_string, plain_unescaped, stands_for}
use Rattle.cdl_tokens.proofs.Words.{and_false, until_at_start}

-- neither a backslash nor a quote nor a line feed
abbrev is_plain : ℕ → Bool
is_plain = goes_on AtStringEnd

-- how many of the first bytes are plain
abbrev plain_len : List ℕ → ℕ
plain_len bytes = prefix_len is_plain bytes

at_one_on : (n b : ℕ) (bytes : List ℕ) → slice_index (b ∷ bytes) (1 + n) ≡ slice_index bytes n
at_one_on n b bytes = ap (λ m. slice_index (b ∷ bytes) m) (let e : 1 + n ≡ suc n = omega arith in e)

-- the quote stands in the bytes
quote_within : (bytes : List ℕ) (n : ℕ) → slice_index bytes n ≡ 0x22 → n < length bytes
quote_within bytes n quote = ⊎_elim (λ lt. lt) (λ past. absurd (let none : slice_index bytes n ≡ 0 = get_or_past bytes n 0 past in omega (arith, none, quote))) (cases_lt n (length bytes))

-- no line feed before the quote, nor at it
plain_flat : (bytes : List ℕ) → slice_index bytes (plain_len bytes) ≡ 0x22 → count_by (λ b. b == 0x0a) (take (1 + plain_len bytes) bytes) ≡ 0
plain_flat [] quote = refl
plain_flat (b ∷ bytes) quote = grind (arith, plain_len bytes, at_one_on (plain_len bytes), is_plain, take_one_more, feeds_on, plain_flat bytes)

-- the string ends at the quote
plain_until : (bytes : List ℕ) → slice_index bytes (plain_len bytes) ≡ 0x22 → len_until 0x22 bytes ≡ plain_len bytes
plain_until [] quote = cc
plain_until (b ∷ bytes) quote = search (rules, is_plain, plain_len, until_at_start, at_one_on, plain_until bytes)

-- none of them is a backslash
no_backslash : (bytes : List ℕ) → prefix_len is_unescaped (take (plain_len bytes) bytes) ≡ plain_len bytes
no_backslash [] = refl
no_backslash (b ∷ bytes) = search (rules, is_plain, plain_len, take_one_more, no_backslash bytes)

-- what stands between the quotes
pub inner_of : (b n : ℕ) (bytes : List ℕ) → n < length bytes → inner (take (n + 2) (b ∷ bytes)) ≡ take n bytes
inner_of b n bytes within = grind (arith, length-take-le (1 + n) bytes, take-take n (1 + n) bytes)

-- a quote begins a string
scan_quote : (at_start : Bool) (bytes : List ℕ) → scan at_start (0x22 ∷ bytes) ≡ scan_text bytes (len_until 0x22 bytes)
unfolding scan
scan_quote at_start bytes = rw (no_opening (0x22 ∷ bytes) refl) (rw (and_false at_start) refl)

plain_scanned : (bytes : List ℕ) (n : ℕ) → n < length bytes → list_all is_some (unescape (take n bytes)) ≡ true → scan_text bytes n ≡ token Text (n + 2)
plain_scanned bytes n within string = search rules

plain_begins : (bytes : List ℕ) → slice_index bytes (plain_len bytes) ≡ 0x22 → BeginsString (0x22 ∷ bytes) (plain_len bytes + 2)
plain_begins bytes quote =
    search (rules, plain_len, quote_within, length-take-le, no_backslash, scan_quote, plain_until, plain_scanned, plain_string, feeds_on, plain_flat, string_value, inner_of, stands_for, plain_unescaped)

pub begins_string : (bs rest : List ℕ) (n : ℕ) → slice_index bs 0 ≡ 0x22 → drop 1 bs ≡ rest → n ≡ plain_len rest → slice_index rest n ≡ 0x22 → BeginsString bs (n + 2)
begins_string bs rest n h h2 h3 h4 = grind (arith, plain_begins, plain_len)
