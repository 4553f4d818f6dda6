-- Decimal numbers, digit by digit.
use Rattle.cdl_tokens.proofs.Prelude.{common_steps, prefix_len, take_while, Version, is_digit, number_in, ReadsDigits, held, in_decimal, type_of_suffix, ◌≡◌, ℕ, true, false, ◌+◌, ◌*◌, ◌-◌, ◌<◌, List, ◌∷◌, get_or, length, take, drop, refl, ap, ◌∙◌, arith, Bool, Some, ◌==◌, nat_lt, option_map, slice_index}
use Rattle.nc_types.specs.declared.nc_type.NcType.{NcType}
use Rattle.cdl_tokens.proofs.Steps.{take_one_more, none_first}

-- the first bytes that are decimal digits
abbrev decimals : List ℕ → List ℕ
decimals bs = take_while is_digit bs

one_more : (b : ℕ) (bs : List ℕ) → is_digit b ≡ true → (prefix_len is_digit (b ∷ bs) ≡ 1 + prefix_len is_digit bs) × (decimals (b ∷ bs) ≡ b ∷ decimals bs)
one_more b bs is = let n : prefix_len is_digit (b ∷ bs) ≡ 1 + prefix_len is_digit bs = rw (is) refl in (n, ap (λ k. take k (b ∷ bs)) n ∙ take_one_more b (prefix_len is_digit bs) bs)

pub one_digit : (bs : List ℕ) (i value : ℕ) → i < length bs → is_digit (get_or bs i 0) ≡ true → ReadsDigits bs i value → ReadsDigits bs (i + 1) (10 * value + (get_or bs i 0 - 0x30))
one_digit bs i value h is read = grind (arith, common_steps, one_more (get_or bs i 0) (drop (i + 1) bs) is)

-- no digit follows those that were read: they are all
pub all_read : (bs : List ℕ) (n value : ℕ) → ReadsDigits bs n value → is_digit (slice_index (drop n bs) 0) ≡ false → (prefix_len is_digit bs ≡ n) × (number_in 10 0 (take n bs) ≡ value)
all_read bs n value read off = grind (arith, none_first is_digit (drop n bs) off, read.count, read.said)

-- what the digits and the suffix after them say
pub said : (v : Version) (minus : Bool) (bs : List ℕ) (n value : ℕ) (ty : NcType) → prefix_len is_digit bs ≡ n → number_in 10 0 (take n bs) ≡ value → type_of_suffix v (drop n bs) ≡ Some ty → (n == 0) ≡ false → nat_lt 18446744073709551615 value ≡ false →
    Some (record { minus = minus; magnitude = Some value; ty = ty }) ≡ option_map held (in_decimal v minus bs)
said v minus bs n value ty all is suffixed some small = rw (all) (rw (some) (rw (is) (rw (suffixed) (rw (small) refl))))
