-- For contracts. What reading on until a slice is full has done.
use Rattle.std.specs.Prelude.{◌≡◌, ℕ, ◌≤◌, Bool, List, length, take, drop, Result, Ok, Err}
use Rattle.std.specs.Bool.{OnTrue}
use Rattle.devices.specs.Sources.{SourceView}
use Rattle.devices.specs.code.SourceReads.{having_read, NoneRead}

-- n bytes from this offset on stand at the start of the slice; where the source is transparent, they fill it
pub record ReadInFull (is_transparent : Bool) (old new : SourceView) (at : ℕ) (following : List ℕ) (n : ℕ) : Type 0 where
  pub within : n ≤ length following
  pub same : new ≡ having_read old n
  pub all : OnTrue is_transparent (n ≡ length following)
  pub bytes : OnTrue is_transparent (take n following ≡ take n (drop at old.bytes))

-- a read failed after n bytes, which are no more than these
pub record FailedReadInFull (old new : SourceView) (most : ℕ) : Type 0 where
  pub n : ℕ
  pub within : n ≤ most
  pub failed : NoneRead (having_read old n) new

-- what filling a slice has done: it read n bytes, or the source has failed
abbrev pub ReadsInFull : {E : Type 0} → Bool → SourceView → SourceView → ℕ → List ℕ → Result ℕ E → Type 0
ReadsInFull is_transparent old new at following (Ok n) = ReadInFull is_transparent old new at following n
ReadsInFull is_transparent old new at following (Err failure) = FailedReadInFull old new (length following)
