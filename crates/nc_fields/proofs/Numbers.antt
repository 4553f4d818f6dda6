-- The fields that are one number.
use Rattle.nc_fields.proofs.Prelude.{Bytes, number, Place, Number, number_in, IsNumeric, Step, Cut, steps_of, whole_content, cut_content, byte_len, from_be_bytes, Magic, NumberWidth, ◌≡◌, ℕ, List, ◌∷◌, take, refl, ap, ◌∙◌}
use Rattle.nc_findings.specs.declared.entry.Content.TheVariants as content
use Rattle.nc_fields.specs.declared.number.NumberWidth.TheVariants.{Four, Eight}
use Rattle.nc_fields.specs.code.Numbers.{width_of}
use Rattle.nc_fields.proofs.Checks.{IsFieldOf, number-matters}

number-in : (w : NumberWidth) (bs : Bytes) → number_in (byte_len (width_of w)) bs ≡ from_be_bytes (width_of w) bs
number-in Four bs = refl
number-in Eight bs = refl

-- nothing is kept of a number inside of which the file ends
numeric-cut : (place : Place) (bs : Bytes) → IsNumeric place → cut_content (steps_of place) bs ≡ Cut
numeric-cut place bs numeric = by-steps (steps_of place) numeric
  where
    by-steps : (steps : List Step) → ((size : ℕ) (start : Bytes) → whole_content steps size start ≡ Number (number_in size (take size start))) → cut_content steps bs ≡ Cut
    by-steps (Magic ∷ steps) is = absurd (let e : content.Bytes (take 0 bs) ≡ Number (number_in 0 (take 0 bs)) = is 0 bs in cc)
    by-steps steps is = refl

-- a number in a place that the rules look at as one
pub number-listed : {place : Place} (w : NumberWidth) → IsNumeric place → IsFieldOf place (byte_len (width_of w)) (number (width_of w)) Number
number-listed {place = place} w numeric = number-matters (width_of w) (record {
  whole = λ start. numeric (byte_len (width_of w)) start ∙ ap Number (number-in w (take (byte_len (width_of w)) start));
  cut = λ start. numeric-cut place start numeric;
})
