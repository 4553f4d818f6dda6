-- For contracts. A window on a source: what is left of it, and what a reader through it has done.
use Rattle.std.specs.Prelude.{◌≡◌, ℕ, ◌+◌, ◌<◌, ◌≤◌, Bool, true, false, List, [], ◌∷◌, ◌++◌, length, take, drop, MatchBool, Result, Ok, Err, IfOk}
use Rattle.std.specs.Bool.{OnTrue}
use Rattle.nc_base.specs.declared.fault.FormatFault.TheVariants.{HeaderTruncated}
use Rattle.nc_base.specs.Parts.{Part}
use Rattle.nc_base.specs.code.PartRuns.{run, left_after, printed_len}
use Rattle.devices.specs.Failures.{HasFailed}
use Rattle.devices.specs.Sources.{SourceView}
use Rattle.devices.specs.declared.source.Source.{Ghosts}
use Rattle.nc_window.specs.declared.{head_fault.HeadFault.HeadFault, window.Window.Window}
use Rattle.nc_window.specs.declared.head_fault.HeadFault.TheVariants.{OutOfMemory, ReadFailed, Format}

-- the source as contracts see it
abbrev pub source_of : {S : Type 0} {g : Ghosts S} → Window S g → SourceView
source_of {g = g} w = g.view w.source.now

-- the offset of the next byte
abbrev pub next_of : {S : Type 0} {g : Ghosts S} → Window S g → ℕ
next_of w = w.base + w.pos

-- the bytes that are still to be read
abbrev pub left : {S : Type 0} {g : Ghosts S} → Window S g → List ℕ
left w = drop (next_of w) (source_of w).bytes

-- the window holds the next n bytes
abbrev pub Holds : {S : Type 0} {g : Ghosts S} → ℕ → Window S g → Type 0
Holds n w = w.pos + n ≤ w.filled

-- a window on this source, with a buffer of this length, that holds nothing yet
pub record IsNew {S : Type 0} {g : Ghosts S} (source : S) (buffer_len : ℕ) (w : Window S g) : Type 0 where
  pub source_is : w.source.now ≡ source
  pub buffer : length w.buf.now ≡ buffer_len
  pub base : w.base ≡ 0
  pub filled : w.filled ≡ 0
  pub pos : w.pos ≡ 0

-- What reading keeps: the source, its bytes and the buffer's length. Each byte up to the end of what the window holds is read once.
pub record Kept {S : Type 0} {g : Ghosts S} (old new : Window S g) : Type 0 where
  pub same_source : new.source.ghost_name ≡ old.source.ghost_name
  pub bytes : (source_of new).bytes ≡ (source_of old).bytes
  pub same_buffer_len : length new.buf.now ≡ length old.buf.now
  pub handed : (source_of new).handed + (old.base + old.filled) ≡ (source_of old).handed + (new.base + new.filled)

-- no more was read in between than the bytes up to here, and one buffer
abbrev pub ReadUpTo : ℕ → ℕ → ℕ → ℕ → Type 0
ReadUpTo before after end buffer_len = after ≤ before + end + buffer_len

-- the source has failed in between if and only if the result is `ReadFailed`; `before` is how often it had failed before
abbrev pub Caused : {A : Type 0} → ℕ → SourceView → Result A HeadFault → Type 0
Caused before now (Err ReadFailed) = HasFailed before now.failures
Caused before now _ = now.failures ≡ before

-- the same of the source of a window, before and after
abbrev pub FailsOnly : {S A : Type 0} {g : Ghosts S} → Window S g → Window S g → Result A HeadFault → Type 0
FailsOnly old new result = Caused (source_of old).failures (source_of new) result

-- What a reader returned is what reading this part of a header gives at the bytes that were left, and what is left now. Where the device or
-- memory failed, no more was read than that takes.
abbrev pub Reads : {A : Type 0} → Bool → List ℕ → List ℕ → Part A → Result A HeadFault → Type 0
Reads is_transparent old new part (Ok x) = OnTrue is_transparent (run part old ≡ Ok (x, new))
Reads is_transparent old new part (Err (Format fault)) = OnTrue is_transparent (run part old ≡ Err (fault, new))
Reads is_transparent old new part (Err e) = OnTrue is_transparent (left_after (run part old) ≤ length new)

-- A reader's whole contract: what it keeps, why it fails, that it reads this part, and that it used as many bytes as a spelling of what it
-- returned has. The last holds of every source, so that nothing takes the place of bytes that don't come.
pub record Read {S A : Type 0} {g : Ghosts S} (old new : Window S g) (part : Part A) (result : Result A HeadFault) : Type 0 where
  pub kept : Kept old new
  pub cause : FailsOnly old new result
  pub reads : Reads g.is_transparent (left old) (left new) part result
  pub used : IfOk result (λ x. next_of old + printed_len part x ≡ next_of new)

-- ---- bytes

-- the fault says something of the bytes
abbrev pub is_of_bytes : HeadFault → Bool
is_of_bytes OutOfMemory = false
is_of_bytes ReadFailed = false
is_of_bytes _ = true

-- The window holds bytes again, or there are no more.
abbrev pub Refilled : {S : Type 0} {g : Ghosts S} → Window S g → Window S g → Result Bool HeadFault → Type 0
Refilled {g = g} old new (Ok some) = (next_of new ≡ next_of old) × MatchBool some (new.pos < new.filled) (OnTrue g.is_transparent (length (source_of new).bytes ≤ next_of new))
Refilled old new (Err e) = (e ≡ ReadFailed) × (next_of new ≡ next_of old)

-- Nothing was used, since there is no next byte, or since the device or memory failed.
abbrev pub Stuck : {S : Type 0} {g : Ghosts S} → Window S g → Window S g → HeadFault → Type 0
Stuck {g = g} old new e = (next_of new ≡ next_of old) × MatchBool (is_of_bytes e) ((e ≡ Format HeaderTruncated) × OnTrue g.is_transparent (left old ≡ [])) (Unit {0})

-- There is a next byte in the window.
abbrev pub Filled : {S : Type 0} {g : Ghosts S} → Window S g → Window S g → Result (Unit {0}) HeadFault → Type 0
Filled old new (Ok done) = (new.pos < new.filled) × (next_of new ≡ next_of old)
Filled old new (Err e) = Stuck old new e

-- The next byte was used. It is the returned one, if the source is transparent.
abbrev pub TookByte : {S : Type 0} {g : Ghosts S} → Window S g → Window S g → Result ℕ HeadFault → Type 0
TookByte {g = g} old new (Ok b) = (next_of new ≡ next_of old + 1) × OnTrue g.is_transparent (take 1 (left old) ≡ b ∷ [])
TookByte old new (Err e) = Stuck old new e

-- the window now is n bytes further on
pub record IsAdvanced {S : Type 0} {g : Ghosts S} (w now : Window S g) (n : ℕ) : Type 0 where
  pub source : now.source ≡ w.source
  pub buf : now.buf ≡ w.buf
  pub base : now.base ≡ w.base
  pub filled : now.filled ≡ w.filled
  pub pos : now.pos ≡ w.pos + n

-- the next bytes, as many as the window has and no more than most
pub record Ready {S : Type 0} {g : Ghosts S} (w : Window S g) (most : ℕ) (bytes : List ℕ) : Type 0 where
  pub some : 0 < length bytes
  pub within : length bytes ≤ most
  pub in_window : w.pos + length bytes ≤ w.filled
  pub same : OnTrue g.is_transparent (bytes ≡ take (length bytes) (left w))

-- The next bytes, `count` of them, were used, and as many were added to those before. If the source is transparent, they are the same.
abbrev pub TookSome : {S : Type 0} {g : Ghosts S} → Window S g → Window S g → List ℕ → List ℕ → Result ℕ HeadFault → Type 0
TookSome {g = g} old new before out (Ok count) =
    (next_of new ≡ next_of old + count) × (length out ≡ length before + count) × OnTrue g.is_transparent (out ≡ before ++ take count (left old))
TookSome old new before out (Err e) = Stuck old new e

-- The next n bytes were used, or all that were left if they were fewer, and added to those before. Of a source that isn't transparent,
-- fewer may have been.
pub record TookUpTo {S : Type 0} {g : Ghosts S} (old new : Window S g) (n : ℕ) (before out : List ℕ) : Type 0 where
  pub used : next_of new + length before ≡ next_of old + length out
  pub same : OnTrue g.is_transparent (out ≡ before ++ take n (left old))
