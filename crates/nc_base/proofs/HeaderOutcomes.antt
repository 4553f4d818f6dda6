-- Bytes begin with one header or have one first wrong field.
use Rattle.nc_base.proofs.Prelude.{◌≡◌, ℕ, ◌+◌, ◌-◌, ◌≤◌, List, length, Ok, Err, sym, ap, subst, ◌∙◌, arith, Header, SpellsHeader, StopsAt, Step, header_part, Bytes, run, place, StopsWith, FormatFault}
use Rattle.nc_base.proofs.PartOutcomes.{Tells, tells}
use Rattle.nc_base.proofs.PartPlaces.{shorter, in-stops, stops-in, ends-after, begins-within, one-outcome}

-- what reading a header gives, as the definitions have it
pub header-read : (bytes : Bytes) (h : Header) (rest : Bytes) → run header_part bytes ≡ Ok (h, rest) → SpellsHeader bytes h rest
header-read bytes h rest e = subst (Tells header_part bytes) e (tells header_part bytes)

pub header-stopped : (bytes : Bytes) (fault : FormatFault) (rest : Bytes) → run header_part bytes ≡ Err (fault, rest) → StopsWith header_part bytes fault rest
header-stopped bytes fault rest e = subst (Tells header_part bytes) e (tells header_part bytes)

-- the rest after the header, and after the first wrong field, is no longer than the bytes
pub rest-within : (bytes : Bytes) (h : Header) (rest : Bytes) → SpellsHeader bytes h rest → length rest ≤ length bytes
rest-within bytes h rest s = shorter header_part bytes h rest s

pub end-within : (bytes : Bytes) (fault : FormatFault) (rest : Bytes) → StopsWith header_part bytes fault rest → length rest ≤ length bytes
end-within bytes fault rest s = omega (arith, ends-after header_part bytes fault rest s, begins-within header_part bytes fault rest s)

-- the first wrong field, with its offsets
pub stops-at : (bytes : Bytes) (fault : FormatFault) (rest : Bytes) (end : ℕ) → StopsWith header_part bytes fault rest → end + length rest ≡ length bytes → StopsAt bytes fault end
stops-at bytes fault rest end s ends = record {
  steps = (place header_part bytes).0;
  start = length bytes - length (place header_part bytes).1;
  from_start = (place header_part bytes).1;
  rest = rest;
  stops = in-stops header_part bytes fault rest s;
  starts = omega (arith, begins-within header_part bytes fault rest s);
  ends = ends;
}

at-stops : (bytes : Bytes) (fault : FormatFault) (end : ℕ) (s : StopsAt bytes fault end) → StopsWith header_part bytes fault s.rest × (place header_part bytes ≡ (s.steps, s.from_start))
at-stops bytes fault end s = stops-in header_part bytes s.steps s.from_start fault s.rest s.stops

-- no two headers
pub one-header : (bytes : Bytes) (h k : Header) (rest more : Bytes) → SpellsHeader bytes h rest → SpellsHeader bytes k more → (h ≡ k) × (rest ≡ more)
one-header bytes h k rest more s t = (one-outcome header_part bytes).one_value h k rest more s t

-- no two first wrong fields
pub record IsOneFault (bytes : Bytes) (fault other : FormatFault) (end last : ℕ) (s : StopsAt bytes fault end) (t : StopsAt bytes other last) : Type 0 where
  pub same_fault : fault ≡ other
  pub same_steps : s.steps ≡ t.steps
  pub same_start : s.start ≡ t.start
  pub same_end : end ≡ last

same-place : (steps other : List Step) (from more : Bytes) (p : List Step × Bytes) → p ≡ (steps, from) → p ≡ (other, more) → (steps ≡ other) × (from ≡ more)
same-place steps other from more p e f = (ap (λ q. q.0) (sym e ∙ f), ap (λ q. q.1) (sym e ∙ f))

pub one-fault : (bytes : Bytes) (fault other : FormatFault) (end last : ℕ) (s : StopsAt bytes fault end) (t : StopsAt bytes other last) → IsOneFault bytes fault other end last s t
one-fault bytes fault other end last s t =
    let a = at-stops bytes fault end s in
    let b = at-stops bytes other last t in
    let one = (one-outcome header_part bytes).one_fault fault other s.rest t.rest a.0 b.0 in
    let same = same-place s.steps t.steps s.from_start t.from_start (place header_part bytes) a.1 b.1 in
    record {
      same_fault = one.0;
      same_steps = same.0;
      same_start = omega (arith, s.starts, t.starts, ap length same.1);
      same_end = omega (arith, s.ends, t.ends, ap length one.1);
    }

-- bytes that begin with a header have no first wrong field
pub header-fine : (bytes : Bytes) (h : Header) (rest : Bytes) (fault : FormatFault) (end : ℕ) → SpellsHeader bytes h rest → ¬ StopsAt bytes fault end
header-fine bytes h rest fault end s t = (one-outcome header_part bytes).not_both h fault rest t.rest s (at-stops bytes fault end t).0
