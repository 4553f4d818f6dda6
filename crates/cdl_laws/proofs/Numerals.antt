-- A decimal number is read again.
use Rattle.cdl_laws.proofs.Prelude.{◌≡◌, ℕ, zero, suc, ◌/◌, ◌%◌, ◌^◌, ◌<◌, ◌≤◌, Bool, true, false, List, [], ◌∷◌, ◌++◌, length, get_or, sym, ◌∙◌, ap, refl, arith, append-nil, ℤ, pos, unsigned_abs, decimal, Some, Option, rules, negsuc, subst, signed_decimal, digits_onto, digits, digit_glyph, prefix_all, all_mono, prefix_len, list_all, eqb-true, first_decimal, decimal_nonempty, drop-append_seam, take-append_seam, NcType, Int, Version, number_suffix, is_char, has_type, digit_value, is_digit, is_sign, goes_on_number, number_in, type_of_suffix, in_base, with_sign, numeral, parts, Parts, option_map, list_all-append, and_left, and_right, not_none, number}
use native.Mathlib.Numerals.{unary_clauses}
use Rattle.cdl_laws.proofs.Texts.{IsNumber, begun_number}

-- ---- the digits of a number

glyph_value : (n : ℕ) → digit_value (digit_glyph false (n % 10)) ≡ n % 10
glyph_value n = grind arith

onto_digits : (k n : ℕ) (acc : List ℕ) → list_all is_digit acc ≡ true → list_all is_digit (digits_onto k 10 false n acc) ≡ true
onto_digits zero n acc h = h
onto_digits (suc k) n acc h = grind (arith, onto_digits k (n / 10))

onto_value : (k n : ℕ) (acc : List ℕ) → n < 10 ^ k → number_in 10 0 (digits_onto k 10 false n acc) ≡ number_in 10 n acc
onto_value zero n acc h = ap (λ m. number_in 10 m acc) (let e : 0 ≡ n = (let f : n < 1 = h in omega (arith, f)) in e)
onto_value (suc k) n acc h = grind (arith, glyph_value, eqb-true, unary_clauses, onto_value k (n / 10))

pub decimal_digits : (n : ℕ) → list_all is_digit (decimal n) ≡ true
unfolding digits
decimal_digits n = onto_digits 64 n [] refl

-- ---- a decimal with a suffix

-- the number with the type of its suffix
abbrev with_suffix : Bool → ℕ → Option NcType → Option Parts
with_suffix minus n suf = option_map (λ ty. record { minus = minus; magnitude = n; ty = ty }) suf

based : (v : Version) (minus : Bool) (d : ℕ) (ds suf : List ℕ) (n : ℕ) → n ≡ length (d ∷ ds) →
    in_base v minus 10 n ((d ∷ ds) ++ suf) ≡ with_suffix minus (number_in 10 0 (d ∷ ds)) (type_of_suffix v suf)
based v minus d ds suf n e = grind (arith, not_none, take-append_seam, drop-append_seam)

big_back : (v : Version) (minus : Bool) (ds suf : List ℕ) → list_all is_digit ds ≡ true → 48 < get_or ds 0 0 → prefix_len is_digit suf ≡ 0 →
    with_sign v minus (ds ++ suf) ≡ with_suffix minus (number_in 10 0 ds) (type_of_suffix v suf)
big_back v minus [] suf h big k = absurd (omega (arith, big))
big_back v minus (d ∷ ds) suf h big k =
    grind (arith, based, prefix_all is_digit (d ∷ ds) suf h k)

pub on_suffix : (ty : NcType) → list_all goes_on_number (number_suffix ty) ≡ true
on_suffix ty = grind arith

unsigned_some : (v : Version) (minus : Bool) (ty : NcType) (n : ℕ) → n < 2 ^ 64 →
    with_sign v minus (decimal n ++ number_suffix ty) ≡ with_suffix minus n (type_of_suffix v (number_suffix ty))
unfolding digits
unsigned_some v minus ty zero h = search rules
unsigned_some v minus ty (suc n) h =
    big_back v minus (decimal (suc n)) (number_suffix ty) (decimal_digits (suc n)) (first_decimal (suc n) (omega arith) h) (grind arith) ∙
    ap (λ m. with_suffix minus m (type_of_suffix v (number_suffix ty)))
    (onto_value 64 (suc n) [] (let e : 2 ^ 64 ≤ 10 ^ 64 = omega arith in omega (arith, h, e)))

unsigned_again : (v : Version) (minus : Bool) (ty : NcType) (n : ℕ) → n < 2 ^ 64 → has_type v ty ≡ true → is_char ty ≡ false →
    with_sign v minus (decimal n ++ number_suffix ty) ≡ Some (record { minus = minus; magnitude = n; ty = ty })
unfolding type_of_suffix
unsigned_again v minus ty n h k l = grind (arith, unsigned_some)

first_sign : (ds suf : List ℕ) → list_all is_digit ds ≡ true → 0 < length ds → is_sign (get_or (ds ++ suf) 0 0) ≡ false
first_sign [] suf h k = grind arith
first_sign (d ∷ ds) suf h k = grind (arith, and_left (is_digit d) (list_all is_digit ds) h)

-- a number of a type with the type's suffix
pub numeral_again : (v : Version) (ty : NcType) (n : ℤ) → unsigned_abs n < 2 ^ 64 → has_type v ty ≡ true → is_char ty ≡ false →
    numeral v (signed_decimal n ++ number_suffix ty) ≡ Some (record { value = n; ty = ty })
unfolding numeral parts
numeral_again v ty (pos n) h k l =
    rw (first_sign (decimal n) (number_suffix ty) (decimal_digits n) (decimal_nonempty n h)) (ap (option_map number) (unsigned_again v false ty n h k l))
numeral_again v ty (negsuc n) h k l = ap (option_map number) (unsigned_again v true ty (suc n) h k l)

-- a number as a value
pub value_again : (v : Version) (n : ℤ) → unsigned_abs n < 2 ^ 64 → numeral v (signed_decimal n) ≡ Some (record { value = n; ty = Int })
value_again v n h = ap (numeral v) (sym (append-nil (signed_decimal n))) ∙ numeral_again v Int n h (grind arith) refl

-- ---- its token

digits_number : (ds suf : List ℕ) → list_all is_digit ds ≡ true → 0 < length ds → list_all goes_on_number suf ≡ true →
    IsNumber (ds ++ suf) × IsNumber (45 ∷ (ds ++ suf))
digits_number [] suf h some k = absurd (omega (arith, some))
digits_number (d ∷ ds) suf h some k =
    let digit = and_left (is_digit d) (list_all is_digit ds) h in
    let on : list_all goes_on_number (d ∷ (ds ++ suf)) ≡ true =
    grind (arith, list_all-append, all_mono is_digit goes_on_number (λ b is. grind arith) ds (and_right (is_digit d) (list_all is_digit ds) h)) in (
      begun_number d (ds ++ suf) (λ rest. rw (digit) refl) (and_right (goes_on_number d) (list_all goes_on_number (ds ++ suf)) on),
      begun_number 45 (d ∷ (ds ++ suf)) (λ rest. rw (digit) refl) on,
    )

pub number_is : (n : ℤ) (suf : List ℕ) → unsigned_abs n < 2 ^ 64 → list_all goes_on_number suf ≡ true → IsNumber (signed_decimal n ++ suf)
number_is (pos n) suf h k = (digits_number (decimal n) suf (decimal_digits n) (decimal_nonempty n h) k).0
number_is (negsuc n) suf h k = (digits_number (decimal (suc n)) suf (decimal_digits (suc n)) (decimal_nonempty (suc n) h) k).1

pub value_is : (n : ℤ) → unsigned_abs n < 2 ^ 64 → IsNumber (signed_decimal n)
value_is n h = subst IsNumber (append-nil (signed_decimal n)) (number_is n [] h refl)
