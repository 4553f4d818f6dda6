-- Definition. How a device counts that it has failed. A device is transparent if a contract can name its bytes, such as memory, and
-- otherwise opaque.
use Rattle.std.specs.Prelude.{◌≡◌, ℕ, ◌+◌, ◌-◌, ◌^◌, min}

-- the count stops at 2^128 - 1
abbrev pub one_more : ℕ → ℕ
one_more count = min (count + 1) (2 ^ 128 - 1)

-- it has failed once more
unfoldable pub HasFailed : ℕ → ℕ → Type 0
HasFailed before now = now ≡ one_more before
