-- How a run ends after a write to standard output.
use Rattle.nccheck.proofs.Prelude.{Bytes, State, Writes, Ending, ℕ, refl, Result, Ok, Err}
use Rattle.devices.specs.code.SinkWrites.{Written}
use Rattle.nccheck.specs.code.Endings.{EndsAfter}

-- a text was written, and the run ends so
pub writes_after : {P X E : Type 0} (text : Bytes) (mid new : State P) (written : Result X E) (status : ℕ) (ending : Ending)
    → Written mid.out new.out text written → EndsAfter mid.err new.err written status ending → Writes text mid new status ending
writes_after text mid new (Ok done) status ending wrote ends = rw ends.1 (wrote, ends.0, refl)
writes_after text mid new (Err failure) status ending wrote ends = rw ends.1 (wrote, ends.0)

pub ruleset endings = (writes_after)
