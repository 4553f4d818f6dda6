-- For contracts. Which numbers print as `_`.
use Rattle.std.specs.Prelude.{ℕ, ◌≡◌, ◌<◌, ◌==◌, ◌&&◌, ℤ, pos, negsuc, Bool, false, not, nat_lt, Option, Some, None, FitsSigned}
use Rattle.std.specs.Int.{w64}
use Rattle.std.specs.Ordering.{int_eq}
use Rattle.nc_base.specs.ValueText.{Look}
use Rattle.cdl_print.specs.declared.printed_fill.PrintedFill.{PrintedFill}

-- a number prints as `_`
abbrev pub prints_as_fill : Look → ℤ → Bool
prints_as_fill look number = look.prints_fill && int_eq number look.fill

-- a number is this fill value, if there is one
abbrev pub is_fill : Option ℤ → ℤ → Bool
is_fill None number = false
is_fill (Some fill) number = int_eq number fill

-- a number is below 100, and not this fill value
abbrev pub shows_below_100 : ℕ → ℤ → Bool
shows_below_100 fill (pos n) = nat_lt n 100 && not (n == fill)
shows_below_100 fill (negsuc n) = false

-- of the numbers below 100, this one alone prints as `_`
abbrev pub IsFillBelow100 : Look → ℕ → Type 0
IsFillBelow100 look fill = (n : ℕ) → n < 100 → (n == fill) ≡ prints_as_fill look (pos n)

-- of the numbers that have 64 bits with a sign, this one alone prints as `_`, or none if there is none
abbrev pub IsNarrowFill : Look → Option ℤ → Type 0
IsNarrowFill look fill = (number : ℤ) → FitsSigned w64 number → is_fill fill number ≡ prints_as_fill look number

-- by this fill value each number prints as `_` that does so by the look
pub record IsFillOf (look : Look) (fill : PrintedFill) : Type 0 where
  pub below_100 : IsFillBelow100 look fill.below_100
  pub narrow : IsNarrowFill look fill.narrow
