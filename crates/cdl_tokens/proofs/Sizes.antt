-- Numbers of any length.
use Rattle.cdl_tokens.proofs.Prelude.{pow_more, at_drop_more, digit_value, is_digit, number_in, word, ◌≡◌, ℕ, ◌+◌, ◌-◌, ◌*◌, ◌^◌, ◌<◌, ◌≤◌, true, List, [], ◌∷◌, length, get_or, drop, ◌∙◌, ap, arith, rules, None}
use Rattle.std.proofs.Math.Nat.{mul-le-mul_right, pow-le-pow_right}

grows : (base s : ℕ) → 1 ≤ base → s ≤ base * s
grows base s h = grind arith

above : (s base : ℕ) (bs : List ℕ) → 1 ≤ base → s ≤ number_in base s bs
above s base [] h = search rules
above s base (b ∷ bs) h = let g = grows base s h in let a = above (base * s + digit_value b) base bs h in omega (arith, g, a)

past : (n m : ℕ) → n ≤ m → word n ≡ None → word m ≡ None
past n m h k = grind (arith, h, k)

pub past_limit : (base value b : ℕ) (bs : List ℕ) → 1 ≤ base → word (base * value + digit_value b) ≡ None → word (number_in base value (b ∷ bs)) ≡ None
past_limit base value b bs h k = past (base * value + digit_value b) (number_in base (base * value + digit_value b) bs) (above (base * value + digit_value b) base bs h) k

pub past_word : (base value : ℕ) (digits : List ℕ) (i : ℕ) → 1 ≤ base → i < length digits → word (base * value + digit_value (get_or digits i 0)) ≡ None → word (number_in base value (drop i digits)) ≡ None
past_word base value digits i h k none = ap word (at_drop_more (λ bs. number_in base value bs) digits i 0 k) ∙ past_limit base value (get_or digits i 0) (drop (i + 1) digits) h none

-- a short number's product with a base
pub small_product : (base value : ℕ) → base ≤ 16 → value < 576460752303423488 → base * value < 9223372036854775808
small_product base value h k = let wide : base * value ≤ 16 * value = mul-le-mul_right value h in omega (arith, wide, k)

-- a digit more
pub one_longer : (at value b : ℕ) → value < 10 ^ at → is_digit b ≡ true → 10 * value + (b - 0x30) < 10 ^ (at + 1)
one_longer at value b small is = grind (arith, pow_more 10 at)

-- numbers of few digits
pub short_number : (at value : ℕ) → at < 19 → value < 10 ^ at → value < 1000000000000000000
short_number at value few small = grind (arith, pow-le-pow_right {n = 10})
