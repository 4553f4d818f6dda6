-- Law. Bytes begin with one header or have one first wrong field: the grammar and its faults leave nothing open.
use Rattle.std.specs.Prelude.{ℕ, ◌≡◌, ◌⊎◌}
use Rattle.nc_types.specs.Bytes.{Bytes}
use Rattle.nc_base.specs.declared.{fault.FormatFault.FormatFault, header.Header.Header}
use Rattle.nc_base.specs.Grammar.{SpellsHeader, StopsAt}

-- these bytes begin with a spelling of some header
abbrev pub BeginsWithHeader : Bytes → Type 0
BeginsWithHeader bytes = (h : Header) × (rest : Bytes) × SpellsHeader bytes h rest

-- some field is the first wrong one
abbrev pub HasFirstFault : Bytes → Type 0
HasFirstFault bytes = (fault : FormatFault) × (end : ℕ) × StopsAt bytes fault end

-- exactly one of the two holds, and in one way: there are no two headers, no two rests after a header, no two faults of the
-- first wrong field, no two ends of it, no two ways to it, and no two starts
pub record HasOneOutcome (bytes : Bytes) : Type 0 where
  pub either : BeginsWithHeader bytes ⊎ HasFirstFault bytes
  pub one_header : (h other_h : Header) (rest other_rest : Bytes)
      → SpellsHeader bytes h rest → SpellsHeader bytes other_h other_rest
      → (h ≡ other_h) × (rest ≡ other_rest)
  pub one_fault : (fault other_fault : FormatFault) (end other_end : ℕ)
      → StopsAt bytes fault end → StopsAt bytes other_fault other_end
      → (fault ≡ other_fault) × (end ≡ other_end)
  pub one_place : (fault other_fault : FormatFault) (end other_end : ℕ)
      (stop : StopsAt bytes fault end) (other_stop : StopsAt bytes other_fault other_end)
      → (stop.steps ≡ other_stop.steps) × (stop.start ≡ other_stop.start)
  pub not_both : BeginsWithHeader bytes → ¬ HasFirstFault bytes
