-- Bytes begin with one header or have one first wrong field.
use Rattle.nc_file.proofs.Prelude.{ℕ, ◌-◌, ◌⊎◌, List, length, inl, inr, arith, FormatFault, Header, SpellsHeader, header_part, StopsWith, end-within, stops-at, one-header, one-fault, header-fine}
use Rattle.nc_base.proofs.PartPlaces as parts
use Rattle.nc_file.specs.OneOutcome.{BeginsWithHeader, HasFirstFault, HasOneOutcome}

either-of : (bytes : List ℕ) → ((h : Header) × (rest : List ℕ) × SpellsHeader bytes h rest) ⊎ ((fault : FormatFault) × (rest : List ℕ) × StopsWith header_part bytes fault rest)
    → BeginsWithHeader bytes ⊎ HasFirstFault bytes
either-of bytes (inl s) = inl s
either-of bytes (inr (fault, rest, s)) =
    inr (fault, length bytes - length rest, stops-at bytes fault rest (length bytes - length rest) s (omega (arith, end-within bytes fault rest s)))

-- the law
pub one-outcome : (bytes : List ℕ) → HasOneOutcome bytes
one-outcome bytes = record {
  either = either-of bytes (parts.one-outcome header_part bytes).either;
  one_header = one-header bytes;
  one_fault = λ fault other end last s t. let one = one-fault bytes fault other end last s t in (one.same_fault, one.same_end);
  one_place = λ fault other end last s t. let one = one-fault bytes fault other end last s t in (one.same_steps, one.same_start);
  not_both = λ x y. header-fine bytes x.0 x.1 y.0 y.1 x.2 y.2;
}
