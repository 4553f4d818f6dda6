-- For contracts. Numbers as the code holds them, and how far it has read decimal digits.
use Rattle.std.specs.Prelude.{◌≡◌, ℕ, ◌+◌, ◌≤◌, Bool, List, nat_lt, drop, length, if◌then◌else◌, Option, None, Some}
use Rattle.std.specs.List.{prefix_len, take_while}
use Rattle.nc_types.specs.declared.version.Version.{Version}
use Rattle.cdl_tokens.specs.Bytes.{is_digit, number_in}
use Rattle.cdl_tokens.specs.Numerals.{Parts, in_base}
use Rattle.cdl_tokens.specs.declared.numeral.Numeral.{Numeral}

-- a number that has 64 bits at most
abbrev pub word : ℕ → Option ℕ
word n = if nat_lt 18446744073709551615 n then None else Some n

-- a number as the code holds it: without a magnitude that takes more than 64 bits
abbrev pub held : Parts → Numeral
held n = record { minus = n.minus; magnitude = word n.magnitude; ty = n.ty }

-- decimal digits and a suffix
abbrev pub in_decimal : Version → Bool → List ℕ → Option Parts
in_decimal v minus bs = in_base v minus 10 (prefix_len is_digit bs) bs

-- the first n of the decimal digits that the bytes begin with are read, and their number is this value
pub record ReadsDigits (bs : List ℕ) (n value : ℕ) : Type 0 where
  pub within : n ≤ length bs
  pub count : n + prefix_len is_digit (drop n bs) ≡ prefix_len is_digit bs
  pub said : number_in 10 value (take_while is_digit (drop n bs)) ≡ number_in 10 0 (take_while is_digit bs)
