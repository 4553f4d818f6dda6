-- For contracts. What opening a path and taking back do: the rule of openers.
use Rattle.std.specs.Bool.{OnTrue}
use Rattle.std.specs.Prelude.{Bool, ℕ, ◌≡◌, ◌+◌, ◌-◌, ◌^◌, min, List, Option, Some, None, Result, Ok, Err}
use Rattle.devices.specs.Sources.{SourceView}
use Rattle.devices.specs.Readers.{view_of}
use Rattle.devices.specs.Failures.{one_more}
use Rattle.devices.specs.Openers.{OpenerView, Refusals, refuse}
use Rattle.devices.specs.declared.{fault.OpenFailed.OpenFailed, fault.OpenFailed.TheVariants.NotFound, reader.CountedRead.CountedRead}

-- it was asked to open no path yet
abbrev pub unopened : OpenerView
unopened = record { opens = 0; refusals = record { count = 0; last = None }; failures = 0 }

-- the paths that it could not open, after one more attempt with this result
abbrev pub refusals_after : {Device : Type 0} → Refusals → Result Device OpenFailed → Refusals
refusals_after r (Ok device) = r
refusals_after r (Err why) = refuse r why

-- it was asked to open a path once more, with this result
pub record OpensOnce {Device : Type 0} (old new : OpenerView) (result : Result Device OpenFailed) : Type 0 where
  pub opens : new.opens ≡ one_more old.opens
  pub refusals : new.refusals ≡ refusals_after old.refusals result
  pub failures : new.failures ≡ old.failures

-- it took back a source that has failed this often: its own count stops at 2^128 - 1, and stays where the source hasn't failed
pub record HasBack (old new : OpenerView) (failures : ℕ) : Type 0 where
  pub opens : new.opens ≡ old.opens
  pub refusals : new.refusals ≡ old.refusals
  pub unfailed : failures ≡ 0 → new.failures ≡ old.failures
  pub failed : new.failures ≡ min (old.failures + failures) (2 ^ 128 - 1)

-- each path names what it named before
abbrev pub NamesAsBefore : (List ℕ → Option (List ℕ)) → (List ℕ → Option (List ℕ)) → Type 0
NamesAsBefore old new = (path : List ℕ) → new path ≡ old path

-- a path that names these bytes is opened as a device that `Has` them, and one that names none isn't found
abbrev pub Opened : {Device : Type 0} → (Device → List ℕ → Type 0) → Option (List ℕ) → Result Device OpenFailed → Type 0
Opened Has (Some bytes) (Ok device) = Has device bytes
Opened Has None (Err failure) = failure ≡ NotFound
Opened Has (Some bytes) (Err failure) = ⊥
Opened Has None (Ok device) = ⊥

-- a path that names these bytes is opened as a source of them, if sources are transparent
abbrev pub OpensSource : {S : Type 0} → Bool → (S → SourceView) → Option (List ℕ) → Result S OpenFailed → Type 0
OpensSource is_transparent view bytes result = OnTrue is_transparent (Opened (λ source file. (view source).bytes ≡ file) bytes result)

-- a path that names these bytes is opened as a text of them, if texts are transparent
abbrev pub OpensText : {R : Type 0} → Bool → (R → Option (List ℕ)) → Option (List ℕ) → Result (CountedRead R) OpenFailed → Type 0
OpensText is_transparent remaining bytes result = OnTrue is_transparent (Opened (λ text all. (view_of remaining text).remaining ≡ Some all) bytes result)
