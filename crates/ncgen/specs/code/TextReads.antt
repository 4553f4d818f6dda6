-- For contracts. What reading a text has done.
use Rattle.std.specs.Prelude.{◌≡◌, ℕ, ◌+◌, ◌<◌, ◌≤◌, Bool, true, false, List, ◌++◌, length, Option, IfSome, Result, Ok, Err}
use Rattle.std.specs.Global.{Vec}
use Rattle.std.specs.Io.KnownBytes.{Consumes, IsAtEnd}
use Rattle.devices.specs.Failures.{HasFailed}
use Rattle.devices.specs.Readers.{ReaderView, view_of}
use Rattle.devices.specs.declared.reader.CountedRead.{CountedRead}
use Rattle.ncgen.specs.declared.fault.TextFault.{TextFault}
use Rattle.ncgen.specs.declared.fault.TextFault.TheVariants.{OutOfMemory, ReadFailed, CdlTooLong}

-- all that the reader had still to hand over is this text
pub record IsRead (max : ℕ) (old new : ReaderView) (text : List ℕ) : Type 0 where
  pub within : length text ≤ max
  pub all : IfSome old.remaining (λ bytes. text ≡ bytes)
  pub handed : new.handed ≡ old.handed + length text
  pub failures : new.failures ≡ old.failures

-- the reader had more than max bytes to hand over
pub record IsTooLong (max : ℕ) (old new : ReaderView) : Type 0 where
  pub more : IfSome old.remaining (λ bytes. max < length bytes)
  pub handed : new.handed ≡ old.handed + max + 1
  pub failures : new.failures ≡ old.failures

-- All of the text, which has at most max bytes; or that there are more; or that the reader failed; or want of memory, which says
-- nothing of the text.
abbrev pub ReadsText : ℕ → ReaderView → ReaderView → Result (Vec ℕ) TextFault → Type 0
ReadsText max old new (Ok text) = IsRead max old new text.items
ReadsText max old new (Err CdlTooLong) = IsTooLong max old new
ReadsText max old new (Err ReadFailed) = HasFailed old.failures new.failures
ReadsText max old new (Err OutOfMemory) = new.failures ≡ old.failures

-- one byte more than max was handed over at most, by as many reads at most
pub record ReadsAtMost (max : ℕ) (old new : ReaderView) : Type 0 where
  pub handed : new.handed ≤ old.handed + max + 1
  pub reads : new.reads ≤ old.reads + max + 1

-- what reading a text has done to a reader, given what is still to come of readers of its type
abbrev pub ReadsTextOf : {R : Type 0} → (R → Option (List ℕ)) → ℕ → CountedRead R → CountedRead R → Result (Vec ℕ) TextFault → Type 0
ReadsTextOf remaining max old new result = ReadsText max (view_of remaining old) (view_of remaining new) result

-- ---- one part after the other

-- the text has got longer by what was handed over
pub record HasGrown (old new : ReaderView) (before after : List ℕ) : Type 0 where
  pub part : List ℕ
  pub text : after ≡ before ++ part
  pub bytes : Consumes old.remaining new.remaining part
  pub handed : new.handed ≡ old.handed + length part
  pub failures : new.failures ≡ old.failures

-- what reading a part of a text has done
abbrev pub ReadsPart : ℕ → ReaderView → ReaderView → List ℕ → List ℕ → Result Bool TextFault → Type 0
ReadsPart max old new before after (Ok true) = HasGrown old new before after × (length before < length after) × (length after ≤ max + 1) × (new.reads ≤ old.reads + 1)
ReadsPart max old new before after (Ok false) = HasGrown old new before after × (after ≡ before) × IsAtEnd new.remaining × (new.reads ≤ old.reads + 1)
ReadsPart max old new before after (Err ReadFailed) = HasFailed old.failures new.failures × (new.handed ≡ old.handed) × (new.reads ≤ old.reads + 1)
ReadsPart max old new before after (Err OutOfMemory) = (new.failures ≡ old.failures) × (new.handed + length before ≤ old.handed + max + 1) × (new.reads ≤ old.reads + 1)
ReadsPart max old new before after (Err CdlTooLong) = ⊥
