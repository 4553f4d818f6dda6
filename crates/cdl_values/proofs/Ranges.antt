-- A number as it is held is in a type's range where the number is.
use Rattle.cdl_values.proofs.Prelude.{NcType, parts_or_zero, Parts, signed, number, word, held, Number, has_number, greatest, number_bytes, held_bytes, joined, value_bytes, ◌≡◌, ℕ, ℤ, Bool, false, arith, Option, Some, Ok, nat_le, option_map, List}
use Rattle.cdl_tokens.specs.declared.numeral.Numeral.{Numeral}

in_range : (ty : NcType) (minus : Bool) (m : ℕ) → has_number ty (signed minus m) ≡ nat_le m (greatest ty minus)
unfolding has_number
in_range ty minus m = grind arith

pub held_is : (ty : NcType) (p : Parts) → number_bytes ty (number p).value ≡ held_bytes ty p.minus (word p.magnitude)
held_is ty p = grind (arith, in_range ty p.minus p.magnitude)

pub number_added : (bs cs : List ℕ) (ty : NcType) (fill : ℤ) (r : Option Parts) (n : Numeral) → Some n ≡ option_map held r →
    joined (Ok bs) (held_bytes ty n.minus n.magnitude) ≡ Ok cs → joined (Ok bs) (value_bytes ty fill false (Number (number (parts_or_zero r)))) ≡ Ok cs
number_added bs cs ty fill r n h h2 = grind (arith, joined, held_is, held)
