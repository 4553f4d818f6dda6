-- For contracts. What a read of a source does: the rule of sources.
use Rattle.std.specs.Prelude.{◌≡◌, ℕ, ◌+◌, ◌^◌, ◌<◌, ◌≤◌, Bool, List, length, take, drop, Result, Ok, Err}
use Rattle.std.specs.Bool.{OnTrue}
use Rattle.devices.specs.Failures.{HasFailed}
use Rattle.devices.specs.Sources.{SourceView}

-- the same after n more bytes were read
abbrev pub having_read : SourceView → ℕ → SourceView
having_read s n = record s { handed = s.handed + n }

-- a source of these bytes, before its first read
abbrev pub unread : List ℕ → SourceView
unread bytes = record { bytes = bytes; failures = 0; handed = 0 }

-- as many bytes more as there is room for can be counted
abbrev pub CanCount : ℕ → List ℕ → Type 0
CanCount handed into = handed + length into < 2 ^ 128

-- as many bytes more as there is room for can't be counted
abbrev pub CantCount : ℕ → List ℕ → Type 0
CantCount handed into = 2 ^ 128 ≤ handed + length into

-- the first n bytes are those of the file from this offset on
abbrev pub AreFrom : ℕ → ℕ → List ℕ → List ℕ → Type 0
AreFrom at n file bytes = take n bytes ≡ take n (drop at file)

-- it has read n bytes from this offset on, which stand at the start now, and at least one where it is transparent
pub record BytesRead (is_transparent : Bool) (old new : SourceView) (at : ℕ) (into : List ℕ) (n : ℕ) : Type 0 where
  pub within : n ≤ length into
  pub same : new ≡ having_read old n
  pub bytes : OnTrue is_transparent (take n into ≡ take n (drop at old.bytes))
  pub some : OnTrue is_transparent (0 < n)

-- it has failed, and nothing was read
pub record NoneRead (old new : SourceView) : Type 0 where
  pub bytes : new.bytes ≡ old.bytes
  pub handed : new.handed ≡ old.handed
  pub failures : HasFailed old.failures new.failures

-- what a read from this offset on into the start of a slice has done: with `Ok` n bytes were read, and with `Err` the source has failed
abbrev pub ReadSome : {E : Type 0} → Bool → SourceView → SourceView → ℕ → List ℕ → Result ℕ E → Type 0
ReadSome is_transparent old new at into (Ok n) = BytesRead is_transparent old new at into n
ReadSome is_transparent old new at into (Err failure) = NoneRead old new
