-- Law. What bytes spell, where the first wrong field lies, what reading gives and how a value is written agree. (Reading is that of
-- `code/PartRuns.antt`, which the contracts of readers cite.)
use Rattle.std.specs.Prelude.{◌≡◌, ◌<◌, ◌≤◌, ◌↔◌, ◌++◌, List, All, length, Ok, Err}
use Rattle.nc_base.specs.declared.{fault.FormatFault.FormatFault, header.Header.Header, header.Var.Var}
use Rattle.nc_types.specs.Bytes.{Bytes}
use Rattle.nc_base.specs.Headers.{IsSound, HasValidNames}
use Rattle.nc_base.specs.Grammar.{SpellsHeader, header_spelling}
use Rattle.nc_types.specs.Versions.{offset_limit}
use Rattle.nc_base.specs.Parts.{Step, Part, Spells, Stops, print}
use Rattle.nc_base.specs.code.PartRuns.{run, place, StopsWith, IsPrintable}

-- Reading gives a value and a rest if and only if the bytes spell them, and a fault and a rest if and only if these are those of the first
-- wrong field, and that field has one place. What is written of a value that can be written is a spelling of it. A wrong field doesn't end
-- before it starts.
pub record IsCoherent {A : Type 0} (p : Part A) : Type 0 where
  pub value : (from : Bytes) (x : A) (rest : Bytes) → (run p from ≡ Ok (x, rest)) ↔ Spells p from x rest
  pub fault : (from : Bytes) (fault : FormatFault) (rest : Bytes) → (run p from ≡ Err (fault, rest)) ↔ StopsWith p from fault rest
  pub placed : (from : Bytes) (steps : List Step) (start : Bytes) (fault : FormatFault) (rest : Bytes)
      → Stops p from steps start fault rest ↔ StopsWith p from fault rest × (place p from ≡ (steps, start))
  pub written : (x : A) (rest : Bytes) → IsPrintable p x → Spells p (print p x ++ rest) x rest
  pub ends : (from : Bytes) (fault : FormatFault) (rest : Bytes) → StopsWith p from fault rest → length rest ≤ length (place p from).1

-- a header that bytes spell is sound, and its names are valid
abbrev pub SpelledHeadersAreSound : Type 0
SpelledHeadersAreSound = (from : Bytes) (h : Header) (rest : Bytes) → SpellsHeader from h rest → IsSound h × HasValidNames h

-- what is written of a sound header with valid names, whose begins fit, spells that header, whatever follows
abbrev pub WrittenHeadersReadBack : Type 0
WrittenHeadersReadBack = (h : Header) (rest : Bytes) → IsSound h → HasValidNames h
    → All (λ (var : Var). var.begin_at < offset_limit h.version) h.vars → SpellsHeader (header_spelling h ++ rest) h rest
