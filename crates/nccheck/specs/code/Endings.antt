-- For contracts. How a run ends after a write to standard output.
use Rattle.std.specs.Prelude.{ℕ, ◌≡◌, Some, None, Result, Ok, Err}
use Rattle.devices.specs.Sinks.{SinkView}
use Rattle.nccheck.specs.Faults.{flush_line}
use Rattle.nccheck.specs.Runs.{Ending, IsTold}

-- with this status if it was written, and otherwise its failure was told
abbrev pub EndsAfter : {X E : Type 0} → SinkView → SinkView → Result X E → ℕ → Ending → Type 0
EndsAfter old new (Ok done) status ending = (new ≡ old) × (ending ≡ Some status)
EndsAfter old new (Err failure) status ending = IsTold old new flush_line × (ending ≡ None)
