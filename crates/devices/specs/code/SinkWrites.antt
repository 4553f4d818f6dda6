-- For contracts. What a write to a sink does: the rule of sinks.
use Rattle.std.specs.Prelude.{ℕ, ◌<◌, ◌≤◌, List, [], length, take, Option, Result, Ok, Err}
use Rattle.devices.specs.Sinks.{SinkView, Appended, FailedPartway}

-- with `Ok` the text was written, and with `Err` the sink failed partway
abbrev pub Written : {X E : Type 0} → SinkView → SinkView → List ℕ → Result X E → Type 0
Written old new text (Ok done) = Appended old new text
Written old new text (Err failure) = FailedPartway old new text

-- the same of a sink before and after a call, which `view` shows as contracts see it: all of the text was written, or with `Err` a prefix
abbrev pub Wrote : {S X E : Type 0} → (S → SinkView) → S → S → List ℕ → Result X E → Type 0
Wrote view old new text result = Written (view old) (view new) text result

-- a sink that has taken this text, where it is transparent, and has never failed
abbrev pub unfailed : Option (List ℕ) → SinkView
unfailed text = record { taken = text; failures = 0 }

-- it has taken the first n of the bytes, at least one if there is one
pub record AcceptedSome (old new : SinkView) (bytes : List ℕ) (n : ℕ) : Type 0 where
  pub within : n ≤ length bytes
  pub some : 0 < length bytes → 0 < n
  pub appended : Appended old new (take n bytes)

-- it has failed, and taken none of the bytes, at least one
pub record AcceptedNone (old new : SinkView) (bytes : List ℕ) : Type 0 where
  pub some : 0 < length bytes
  pub partway : FailedPartway old new []

-- what a call that writes from the start of the bytes has done
abbrev pub WroteSome : {E : Type 0} → SinkView → SinkView → List ℕ → Result ℕ E → Type 0
WroteSome old new bytes (Ok n) = AcceptedSome old new bytes n
WroteSome old new bytes (Err failure) = AcceptedNone old new bytes
