-- For contracts. What a read of a reader does.
use Rattle.std.specs.Prelude.{◌≡◌, ℕ, ◌+◌, ◌<◌, ◌≤◌, true, false, List, length, take, Option, Result, Ok, Err}
use Rattle.std.specs.Io.KnownBytes.{Consumes, IsAtEnd, Keeps}
use Rattle.devices.specs.declared.reader.CountedRead.{CountedRead}
use Rattle.devices.specs.Failures.{HasFailed}
use Rattle.devices.specs.Readers.{ReaderView, view_of}

-- a reader that has handed over nothing yet of what is still to come
abbrev pub unread : Option (List ℕ) → ReaderView
unread remaining = record { remaining = remaining; failures = 0; reads = 0; handed = 0; is_ended = false }

-- It has handed over n bytes, which stand at the start now: the next ones, where it is transparent. There are none only at its end, or
-- where there was no room.
pub record HandedOver (old new : ReaderView) (before following : List ℕ) (n : ℕ) : Type 0 where
  pub within : n ≤ length before
  pub failures : new.failures ≡ old.failures
  pub reads : new.reads ≤ old.reads + 1
  pub counted : old.is_ended ≡ false → new.reads ≡ old.reads + 1
  pub handed : new.handed ≡ old.handed + n
  pub bytes : Consumes old.remaining new.remaining (take n following)
  pub some : n ≡ 0 → 0 < length before → IsAtEnd new.remaining
  pub ended : n ≡ 0 → 0 < length before → new.is_ended ≡ true

-- it has failed, and handed over nothing
pub record NoneHandedOver (old new : ReaderView) : Type 0 where
  pub failures : HasFailed old.failures new.failures
  pub no_fewer_reads : old.reads ≤ new.reads
  pub reads : new.reads ≤ old.reads + 1
  pub handed : new.handed ≡ old.handed
  pub bytes : Keeps old.remaining new.remaining

-- what a read into a slice has done: with `Ok` it has handed over n bytes, and with `Err` the reader has failed
abbrev pub Reads : {E : Type 0} → ReaderView → ReaderView → List ℕ → List ℕ → Result ℕ E → Type 0
Reads old new before following (Ok n) = HandedOver old new before following n
Reads old new before following (Err failure) = NoneHandedOver old new

-- what a read of a reader has done, given what is still to come of readers of its type
abbrev pub ReadsNext : {R E : Type 0} → (R → Option (List ℕ)) → CountedRead R → CountedRead R → List ℕ → List ℕ → Result ℕ E → Type 0
ReadsNext remaining old new before following result = Reads (view_of remaining old) (view_of remaining new) before following result

-- once it has ended, it stays what it is, and its reader isn't read again
abbrev pub StaysEnded : {R : Type 0} → CountedRead R → CountedRead R → Type 0
StaysEnded old new = old.is_ended ≡ true → new ≡ old
