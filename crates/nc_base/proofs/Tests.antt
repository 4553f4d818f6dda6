-- Two tests in one, one that is turned round, and what is above 0.
use Rattle.std.proofs.Common.{◌≡◌, ℕ, suc, ◌*◌, ◌<◌, Bool, true, false, List, [], length, arith, ◌&&◌, ◌||◌, ◌==◌, not, nat_lt, IsTrue}

pub and_left : (a b : Bool) → (a && b) ≡ true → a ≡ true
and_left a b h = grind arith

pub and_right : (a b : Bool) → (a && b) ≡ true → b ≡ true
and_right a b h = grind arith

pub and_parts : (a b : Bool) → (a && b) ≡ true → (a ≡ true) × (b ≡ true)
and_parts a b h = (and_left a b h, and_right a b h)

pub and_both : (a b : Bool) → a ≡ true → b ≡ true → (a && b) ≡ true
and_both a b h k = rw (h) k

pub or_second : (a b : Bool) → (a || b) ≡ true → a ≡ false → b ≡ true
or_second a b h h2 = grind arith

pub is_off : (b : Bool) → not b ≡ true → b ≡ false
is_off b h = grind arith

pub is_on : (b : Bool) → not b ≡ false → b ≡ true
is_on b h = grind arith

pub not_none : (n : ℕ) → (suc n == 0) ≡ false
not_none n = grind arith

pub some_right : (a b i : ℕ) → i < a * b → 0 < b
some_right a b i h = grind arith

-- of a list that may be empty alone
pub none_before : (xs : List ℕ) (b : Bool) → (nat_lt 0 (length xs) && b) ≡ false → IsTrue b → xs ≡ []
none_before [] b h t = grind arith
none_before _ _ h t = grind arith
