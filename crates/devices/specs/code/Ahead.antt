-- For contracts. What is read ahead of a source, and what is copied from there.
use Rattle.std.specs.Prelude.{◌≡◌, ℕ, ◌+◌, ◌*◌, ◌<◌, ◌≤◌, ◌⊎◌, max, Bool, true, List, length, Result}
use Rattle.devices.specs.Failures.{HasFailed}
use Rattle.devices.specs.Sources.{SourceView}
use Rattle.devices.specs.code.SourceReads.{ReadSome, AreFrom}
use Rattle.devices.specs.declared.{ahead.ReadAhead.ReadAhead, source.Source.Ghosts}

-- n bytes of the file from this offset on are at the start, and at least one, where the file is known
pub record Answers (is_transparent : Bool) (file : List ℕ) (at : ℕ) (following : List ℕ) (n : ℕ) : Type 0 where
  pub within : n ≤ length following
  pub bytes : is_transparent ≡ true → AreFrom at n file following
  pub some : is_transparent ≡ true → 0 < n

module _ {S : Type 0} {g : Ghosts S} where
  -- the source as the contracts of all sources see it
  abbrev pub view_of : ReadAhead S g → SourceView
  view_of ahead = record { bytes = (g.view ahead.source).bytes; failures = ahead.failures; handed = ahead.handed }

  -- what a read of it has done
  abbrev pub ReadsAhead : {E : Type 0} → ReadAhead S g → ReadAhead S g → ℕ → List ℕ → Result ℕ E → Type 0
  ReadsAhead old new at into result = ReadSome g.is_transparent (view_of old) (view_of new) at into result

  -- the bytes of the other source
  abbrev pub bytes_of : ReadAhead S g → List ℕ
  bytes_of ahead = (g.view ahead.source).bytes

  -- how many bytes were read from the other source
  abbrev pub taken : ReadAhead S g → ℕ
  taken ahead = (g.view ahead.source).handed

  -- the stretch has the byte at this offset
  abbrev pub IsInStretch : ReadAhead S g → ℕ → Type 0
  IsInStretch ahead at = (ahead.at ≤ at) × (at < ahead.at + ahead.len)

  -- the offset is before the stretch, or after its end by the stretch's length or more
  abbrev pub IsFar : ReadAhead S g → ℕ → Type 0
  IsFar ahead at = (at < ahead.at) ⊎ (ahead.at + 2 * ahead.len ≤ at)

  -- it has read no more bytes of the other source than there was room for, or than the longest stretch has
  abbrev pub ReadNoMore : ReadAhead S g → ReadAhead S g → List ℕ → ℕ → Type 0
  ReadNoMore old new into longest = taken new ≤ taken old + max (length into) longest

  -- the other source has failed once more
  abbrev pub SourceFails : ReadAhead S g → ReadAhead S g → Type 0
  SourceFails old new = HasFailed (g.view old.source).failures (g.view new.source).failures

  -- what it counts itself is what it was
  abbrev pub SameCounts : ReadAhead S g → ReadAhead S g → Type 0
  SameCounts old new = (new.failures ≡ old.failures) × (new.handed ≡ old.handed)
