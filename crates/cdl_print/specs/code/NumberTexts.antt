-- For contracts. How a number prints.
use Rattle.std.specs.Prelude.{ℕ, ℤ, ◌≤ℤ◌, ◌<ℤ◌, pos, negsuc, Bool, List, if◌then◌else◌, codes}
use Rattle.std.specs.Fmt.{signed_decimal}

-- a number, or `_` if it prints as that
abbrev pub text_of : Bool → ℤ → List ℕ
text_of is_fill number = if is_fill then codes "_" else signed_decimal number

-- a number that a byte holds, with a sign or without one: from -128 to 255
abbrev pub IsByteNumber : ℤ → Type 0
IsByteNumber number = (negsuc 127 ≤ℤ number) × (number <ℤ pos 256)
