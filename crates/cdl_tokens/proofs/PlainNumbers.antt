-- What plain numbers say.
use Rattle.cdl_tokens.proofs.Prelude.{prefix_len, prefix_len-le-length, get_or-drop, length-drop, Int, NcType, Version, goes_on_number, is_digit, is_octal, is_sign, number_in, held, parts, with_sign, Begins, BeginsDecimal, BeginsUnsigned, IsLetterOf, IsSuffix, begins_number, ends_value, ◌≡◌, ℕ, zero, suc, ◌+◌, ◌<◌, ◌≤◌, Bool, true, false, List, [], ◌∷◌, length, take, drop, refl, sym, ap, ◌∙◌, arith, Some, ◌==◌, option_map, slice_index, rules, subst}
use Rattle.cdl_tokens.specs.declared.numeral.Numeral.{Numeral}
use Rattle.cdl_tokens.specs.declared.plain_number.PlainMagnitude.{PlainMagnitude}
use Rattle.std.proofs.lemmas.List.{take-take, drop-take}
use Rattle.cdl_tokens.proofs.Decimals.{all_read, said}
use Rattle.cdl_tokens.proofs.PlainTokens.{digit_number, ended_low}
use Rattle.cdl_tokens.proofs.Steps.{drop_one_more, none_first}
use Rattle.cdl_tokens.proofs.Suffixes.{no_suffix}
use mir.Val.{bool_byte}

-- the number token goes on after its digits as far as what follows them does
digits_go_on : (bs : List ℕ) → prefix_len goes_on_number bs ≡ prefix_len is_digit bs + prefix_len goes_on_number (drop (prefix_len is_digit bs) bs)
digits_go_on [] = refl
digits_go_on (b ∷ bs) = grind (arith, digits_go_on bs, drop_one_more b (prefix_len is_digit bs) bs)

-- what a number says
abbrev pub numeral : Bool → PlainMagnitude → Numeral
numeral minus n = record { minus = minus; magnitude = Some n.value; ty = n.ty }

-- the suffix of an int: none
pub empty_suffix : IsSuffix [] Int
empty_suffix = record { says = λ v. no_suffix [] v refl; no_digit = refl; no_x = refl }

pub first_taken : (n : ℕ) (bs : List ℕ) → 0 < n → slice_index (take n bs) 0 ≡ slice_index bs 0
first_taken n bs h = grind arith

-- the first n bytes are the decimal digits of this number, and don't make it octal
record AreDigits (bs : List ℕ) (n value : ℕ) : Type 0 where
  some : 0 < n
  within : n ≤ length bs
  count : prefix_len is_digit bs ≡ n
  said : number_in 10 0 (take n bs) ≡ value
  small : value ≤ 18446744073709551615
  plain : slice_index bs 0 ≡ 0x30 → n ≡ 1

-- no digit follows those that were read
are_digits : (bs : List ℕ) (n value : ℕ) → BeginsDecimal bs n value → is_digit (slice_index (drop n bs) 0) ≡ false → AreDigits bs n value
are_digits bs n value d off = search (rules, all_read, said)

-- the first digit
first_digit : (bs : List ℕ) (n value : ℕ) → AreDigits bs n value → is_digit (slice_index bs 0) ≡ true
first_digit bs n value d = search rules

-- digits and what follows them, and nothing more
taken_digits : (bs : List ℕ) (k : ℕ) → prefix_len is_digit bs ≤ k → prefix_len is_digit (take k bs) ≡ prefix_len is_digit bs
taken_digits [] zero h = refl
taken_digits [] (suc k) h = refl
taken_digits (b ∷ bs) zero h = let e : prefix_len is_digit (b ∷ bs) ≤ 0 = h in omega (arith, e)
taken_digits (b ∷ bs) (suc k) h = search (rules, taken_digits bs k)

taken : (bs : List ℕ) (n k value : ℕ) → AreDigits bs n value → n ≤ k → AreDigits (take k bs) n value
taken bs n k value d h = search (rules, prefix_len-le-length, take-take, said, first_taken, taken_digits)

-- a zero and a suffix
zero_said : (v : Version) (minus : Bool) (bs : List ℕ) (ty : NcType) → IsSuffix bs ty → Some (record { minus = minus; magnitude = Some 0; ty = ty }) ≡ option_map held (with_sign v minus (0x30 ∷ bs))
zero_said v minus bs ty h = let off : is_octal (slice_index bs 0) ≡ false = grind (arith, h.no_digit) in rw (h.no_x) (rw (none_first is_octal bs off) (rw (h.says v) refl))

-- digits and a suffix say their number
digits_said : (v : Version) (minus : Bool) (bs : List ℕ) (n value : ℕ) (ty : NcType) → AreDigits bs n value → IsSuffix (drop n bs) ty → Some (record { minus = minus; magnitude = Some value; ty = ty }) ≡ option_map held (with_sign v minus bs)
digits_said v minus [] n value ty d suffix = absurd (let e : n ≤ 0 = d.within in omega (arith, e, d.some))
digits_said v minus (b ∷ bs) n value ty d suffix = search (rules, said, zero_said)

is_one : (b k : ℕ) → (b == k) ≡ true → b ≡ k
is_one b k h = grind (arith, h)

-- digits and a suffix at the start of bytes
begins_plain : (bs : List ℕ) (n m value : ℕ) (ty : NcType) (at_comma : Bool) → AreDigits bs n value → IsSuffix (take m (drop n bs)) ty → prefix_len goes_on_number (drop n bs) ≡ m → at_comma ≡ (slice_index (drop n bs) m == 0x2c) →
    BeginsUnsigned bs (record { len = n + m; value = value; ty = ty; at_comma = at_comma })
begins_plain bs n m value ty at_comma d suffix goes comma =
    record {
      digit = first_digit bs n value d;
      len = grind (arith, digits_go_on bs, d.count, goes);
      within = grind (arith, prefix_len-le-length goes_on_number (drop n bs), length-drop n bs, goes, d.within);
      comma = λ here. sym (get_or-drop n bs m 0) ∙ is_one (slice_index (drop n bs) m) 0x2c (sym comma ∙ here);
      says = λ v minus. digits_said v minus (take (n + m) bs) n value ty (taken bs n (n + m) value d (omega arith)) (subst (λ (xs : List ℕ). IsSuffix xs ty) (sym (drop-take n m bs)) suffix);
    }

-- nothing follows the digits
ended : (b : ℕ) → ends_value b ≡ true → goes_on_number b ≡ false
ended b h = let low = (ended_low b h).0 in grind (arith, low)

no_more : (bs : List ℕ) → goes_on_number (slice_index bs 0) ≡ false → (is_digit (slice_index bs 0) ≡ false) × (prefix_len goes_on_number bs ≡ 0)
no_more [] h = (refl, refl)
no_more (b ∷ bs) h = (grind (arith, h), rw (h) refl)

pub without_suffix : (bs : List ℕ) (n value : ℕ) (at_comma : Bool) → BeginsDecimal bs n value → ends_value (slice_index (drop n bs) 0) ≡ true → at_comma ≡ (slice_index (drop n bs) 0 == 0x2c) →
    BeginsUnsigned bs (record { len = n; value = value; ty = Int; at_comma = at_comma })
without_suffix bs n value at_comma d ends comma =
    let none = no_more (drop n bs) (ended (slice_index (drop n bs) 0) ends) in
    subst (λ k. BeginsUnsigned bs (record { len = k; value = value; ty = Int; at_comma = at_comma })) (let e : n + 0 ≡ n = omega arith in e) (begins_plain bs n 0 value Int at_comma (are_digits bs n value d none.0) empty_suffix none.1 comma)

-- a letter follows them
one_more : (bs : List ℕ) → goes_on_number (slice_index bs 0) ≡ true → goes_on_number (slice_index bs 1) ≡ false → (take 1 bs ≡ slice_index bs 0 ∷ []) × (prefix_len goes_on_number bs ≡ 1)
one_more [] h h2 = cc
one_more (b ∷ bs) h h2 = (refl, rw (h) (ap (λ k. 1 + k) (none_first goes_on_number bs h2)))

pub with_letter : (bs : List ℕ) (n value : ℕ) (ty : NcType) (at_comma : Bool) → BeginsDecimal bs n value → IsLetterOf ty (slice_index (drop n bs) 0) → ends_value (slice_index (drop n bs) 1) ≡ true → at_comma ≡ (slice_index (drop n bs) 1 == 0x2c) →
    BeginsUnsigned bs (record { len = n + 1; value = value; ty = ty; at_comma = at_comma })
with_letter bs n value ty at_comma d letter ends comma =
    let one = one_more (drop n bs) letter.goes (ended (slice_index (drop n bs) 1) ends) in
    begins_plain bs n 1 value ty at_comma (are_digits bs n value d letter.suffix.no_digit) (subst (λ (xs : List ℕ). IsSuffix xs ty) (sym one.0) letter.suffix) one.1 comma

-- with a sign or without
pub sign_said : (v : Version) (bs rest : List ℕ) (n : PlainMagnitude) → is_sign (slice_index bs 0) ≡ true → drop 1 bs ≡ rest → BeginsUnsigned rest n →
    Some (numeral (slice_index bs 0 == 0x2d) n) ≡ option_map held (parts v (take (1 + n.len) bs))
unfolding parts
sign_said v [] rest n sign is d = cc
sign_said v (b ∷ bs) rest n sign is d =
    let step : take (1 + n.len) (b ∷ bs) ≡ b ∷ take n.len bs = ap (λ m. take m (b ∷ bs)) (let e : 1 + n.len ≡ suc n.len = omega arith in e) in
    rw (step) (rw (sign) (rw (is) (d.says v (b == 0x2d))))

pub plain_said : (v : Version) (bs : List ℕ) (n : PlainMagnitude) → is_sign (slice_index bs 0) ≡ false → 0 < n.len → BeginsUnsigned bs n → Some (numeral false n) ≡ option_map held (parts v (take n.len bs))
unfolding parts
plain_said v bs n sign some d = grind (arith, d.says v false, first_taken n.len bs some, held)

len_after_first : (bs : List ℕ) (n : PlainMagnitude) → BeginsUnsigned bs n → n.len ≡ 1 + prefix_len goes_on_number (drop 1 bs)
len_after_first [] n d = absurd (let e : is_digit 0 ≡ true = d.digit in cc)
len_after_first (b ∷ bs) n d = grind (arith, d.digit, d.len)

-- a sign and digits
sign_begins : (bs rest : List ℕ) → is_sign (slice_index bs 0) ≡ true → drop 1 bs ≡ rest → is_digit (slice_index rest 0) ≡ true → begins_number bs ≡ true
sign_begins bs rest h h2 h3 = grind arith

sign_within : (bs rest : List ℕ) (n : ℕ) → is_sign (slice_index bs 0) ≡ true → drop 1 bs ≡ rest → n ≤ length rest → 1 + n ≤ length bs
sign_within bs rest n h h2 h3 = grind arith

begins_signed : (bs rest : List ℕ) (n : PlainMagnitude) (b : ℕ) (m : Numeral) → b ≡ slice_index bs 0 → is_sign b ≡ true → m ≡ numeral (b == 0x2d) n → drop 1 bs ≡ rest → BeginsUnsigned rest n →
    Begins bs (record { numeral = m; len = 1 + n.len; at_comma = n.at_comma })
begins_signed bs rest n b m first sign says is d = search (rules, get_or-drop, sign_said, sign_begins, sign_within)

begins_unsigned : (bs : List ℕ) (n : PlainMagnitude) (b : ℕ) (m : Numeral) → b ≡ slice_index bs 0 → is_sign b ≡ false → m ≡ numeral false n → BeginsUnsigned bs n →
    Begins bs (record { numeral = m; len = n.len; at_comma = n.at_comma })
begins_unsigned bs n b m first sign says d = search (rules, digit_number, plain_said, len_after_first)

-- with a minus or no sign
pub begins_either : (bs rest : List ℕ) (n : PlainMagnitude) (b : ℕ) (minus : Bool) → b ≡ slice_index bs 0 → (b == 0x2d) ≡ minus → drop (bool_byte minus) bs ≡ rest → BeginsUnsigned rest n →
    Begins bs (record { numeral = numeral minus n; len = bool_byte minus + n.len; at_comma = n.at_comma })
begins_either bs rest n b true first is others d = begins_signed bs rest n b _ first (grind (arith, is)) (ap (λ m. numeral m n) (sym is)) others d
begins_either bs rest n b false first is others d =
    let same = subst (λ (xs : List ℕ). BeginsUnsigned xs n) (sym others) d in
    let digit = ap is_digit first ∙ same.digit in
    subst (λ k. Begins bs (record { numeral = numeral false n; len = k; at_comma = n.at_comma })) (let e : n.len ≡ 0 + n.len = omega arith in e)
    (begins_unsigned bs n b _ first (grind (arith, digit)) refl same)
