-- The tables of the numbers of bytes, by computation.
use Rattle.std.proofs.Common.{◌≡◌, ◌∙◌, ℕ, pos, ◌-ℤ◌, ◌+◌, ◌-◌, ◌*◌, ◌<◌, List, [], ◌++◌, length, take, drop, replicate, map, get_or, refl, ap, sym, arith}
use Rattle.std.specs.Fmt.{digits, signed_decimal}
use Rattle.std.specs.List.{range_with_len}
use Rattle.std.proofs.lemmas.List.FromFn.{get_or-map-range_with_len}
use Rattle.cdl_print.specs.declared.byte_number.TheConstants.{LENGTHS, TEXTS}

-- two functions that have the same values below a number
pub at_each : {X : Type 0} (count : ℕ) (f g : ℕ → X) (other : X) → map f (range_with_len 0 count) ≡ map g (range_with_len 0 count) → (i : ℕ) → i < count → f i ≡ g i
at_each count f g other all i within =
    sym (get_or-map-range_with_len f 0 count i i other within (omega arith)) ∙ ap (λ xs. get_or xs i other) all ∙ get_or-map-range_with_len g 0 count i i other within (omega arith)

-- the number at an index, in decimal
abbrev pub text : ℕ → List ℕ
text i = signed_decimal (pos i -ℤ pos 128)

-- the spaces after it
abbrev pub spaces : ℕ → List ℕ
spaces i = replicate (4 - length (text i)) 32

pub text_is : (i : ℕ) → i < 384 → take 4 (drop (4 * i) TEXTS) ≡ text i ++ spaces i
unfolding digits
text_is = at_each 384 (λ i. take 4 (drop (4 * i) TEXTS)) (λ i. text i ++ spaces i) [] refl

pub length_is : (i : ℕ) → i < 384 → get_or LENGTHS i 0 ≡ length (text i) + 48
unfolding digits
length_is = at_each 384 (λ i. get_or LENGTHS i 0) (λ i. length (text i) + 48) 0 refl

pub short_is : (i : ℕ) → i < 384 → length (text i) + length (spaces i) ≡ 4
unfolding digits
short_is = at_each 384 (λ i. length (text i) + length (spaces i)) (λ i. 4) 0 refl
