-- How many digits a number has.
use Rattle.std.proofs.Common.{◌≡◌, ℕ, ◌+◌, ◌/◌, ◌^◌, ◌<◌, ◌≤◌, length, arith, leb, if◌then◌else◌, ℤ, pos, negsuc, unsigned_abs}
use Rattle.std.proofs.lemmas.Bool.Decides.{nat_tests}
use Rattle.std.specs.Fmt.{decimal, signed_decimal}
use Rattle.itoa.proofs.Decimal.{length_one, length_two, length_pair, length_four, length_step_wide}

-- each group of four digits adds four
pub length_eight : (n : ℕ) → 100000000 ≤ n → n < 2 ^ 64 → length (decimal n) ≡ length (decimal (n / 100000000)) + 8
length_eight n least most =
    let high : n / 10000 / 10000 ≡ n / 100000000 = omega arith in
    grind (arith, high, length_four)

pub length_twelve : (n : ℕ) → 1000000000000 ≤ n → n < 2 ^ 64 → length (decimal n) ≡ length (decimal (n / 1000000000000)) + 12
length_twelve n least most =
    let high : n / 100000000 / 10000 ≡ n / 1000000000000 = omega arith in
    grind (arith, high, length_eight n, length_four (n / 100000000))

pub length_sixteen : (n : ℕ) → 10000000000000000 ≤ n → n < 2 ^ 64 → length (decimal n) ≡ length (decimal (n / 10000000000000000)) + 16
length_sixteen n least most =
    let high : n / 100000000 / 100000000 ≡ n / 10000000000000000 = omega arith in
    grind (arith, high, length_eight)

-- how many digits a number below 10000 has: each test that holds counts one more
pub few_count : (n : ℕ) → n < 10000 → length (decimal n) ≡ 1 + (if leb 10 n then 1 else 0) + (if leb 100 n then 1 else 0) + (if leb 1000 n then 1 else 0)
few_count n few = grind (arith, nat_tests, length_one, length_two, length_pair)

-- a number has a digit, or begins with a minus
pub some_byte : (z : ℤ) → unsigned_abs z < 2 ^ 64 → 1 ≤ length (signed_decimal z)
some_byte (pos n) short = grind (arith, nat_tests, length_one n, length_step_wide n)
some_byte (negsuc n) short = omega arith
