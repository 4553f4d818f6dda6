-- Definition. The fields of a part of a header, as far as they are read: those that reading passes, and after them the first wrong one, if
-- there is one.
use Rattle.std.specs.Prelude.{ℕ, nat_le, if◌then◌else◌, List, [], ◌∷◌, ◌++◌, length, map, Option, Some, None, Result, Ok, Err}
use Rattle.nc_base.specs.declared.fault.FormatFault.{FormatFault}
use Rattle.nc_types.specs.Bytes.{Bytes}
use Rattle.nc_base.specs.Parts.{Step, Part, done, bytes, decoded, under, chain}
use Rattle.nc_base.specs.code.PartRuns.{run}

pub record Field : Type 0 where
  -- the steps to it, the last one first
  pub steps : List Step
  -- the bytes from its first one to the end of the file
  pub start : Bytes
  -- how many bytes it has to have
  pub size : ℕ
  -- what is wrong with it, if it is the first wrong field
  pub fault : Option FormatFault

-- the fields of a part, with the fault if its value is refused (in the description of a header such a part is one field)
abbrev pub judged : {A : Type 0} → Result A FormatFault → List Field → List Field
judged (Ok x) fields = fields
judged (Err fault) fields = map (λ (f : Field). record f { fault = Some fault }) fields

-- the fields of a part under these steps
unfoldable pub fields : {A : Type 0} → List Step → Part A → Bytes → List Field
unfolding run
fields steps (done x) from = []
fields steps (bytes n cut) from = record { steps = steps; start = from; size = n; fault = if nat_le n (length from) then None else Some cut } ∷ []
fields steps (decoded decode encode p) from = elim (run p from) [ Ok x ↦ judged (decode x.0) (fields steps p from) | Err e ↦ fields steps p from ]
fields steps (under step p) from = fields (step ∷ steps) p from
fields steps (chain get p next) from = elim (run p from) [ Ok x ↦ fields steps p from ++ fields steps (next x.0) x.1 | Err e ↦ fields steps p from ]
