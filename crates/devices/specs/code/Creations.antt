-- For contracts. What creating and closing an output do: the rule of creators.
use Rattle.std.specs.Prelude.{ℕ, ◌≡◌, ◌+◌, ◌-◌, ◌^◌, min, Bool, List, [], Some, Result, Ok, Err}
use Rattle.std.specs.Bool.{OnTrue}
use Rattle.devices.specs.Sinks.{SinkView}
use Rattle.devices.specs.Creators.{CreatorView, give, Unmade}

-- what has created no output yet
abbrev pub uncreated : CreatorView
uncreated = record { given = []; creations = 0; failures = 0 }

-- an empty output was created at the path
pub record CreatedAt (is_transparent : Bool) (old new : CreatorView) (path : List ℕ) (sink : SinkView) : Type 0 where
  pub creations : new.creations ≡ old.creations + 1
  pub failures : new.failures ≡ old.failures
  pub given : OnTrue is_transparent (new.given ≡ give old.given path (Some []))
  pub sink_failures : sink.failures ≡ 0
  pub sink_taken : OnTrue is_transparent (sink.taken ≡ Some [])

-- what creating an output at the path has done
abbrev pub Created : {S E : Type 0} → Bool → (S → SinkView) → CreatorView → CreatorView → List ℕ → Result S E → Type 0
Created is_transparent view old new path (Ok sink) = CreatedAt is_transparent old new path (view sink)
Created is_transparent view old new path (Err failure) = Unmade old new

-- the path was given what the sink took, and the sink's failures are the creator's
pub record ClosedAt (is_transparent : Bool) (old new : CreatorView) (path : List ℕ) (sink : SinkView) : Type 0 where
  pub creations : new.creations ≡ old.creations
  pub unfailed : sink.failures ≡ 0 → new.failures ≡ old.failures
  pub failed : new.failures ≡ min (old.failures + sink.failures) (2 ^ 128 - 1)
  pub given : OnTrue is_transparent (new.given ≡ give old.given path sink.taken)

-- what closing the output at the path has done
abbrev pub Closed : {A E : Type 0} → Bool → CreatorView → CreatorView → List ℕ → SinkView → Result A E → Type 0
Closed is_transparent old new path sink (Ok done) = ClosedAt is_transparent old new path sink
Closed is_transparent old new path sink (Err failure) = Unmade old new
