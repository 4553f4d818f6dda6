-- Definition. What a call of `generate` has done. Which bytes a sink has taken is known only if it is transparent.
use Rattle.std.specs.Prelude.{◌≡◌, ◌⊎◌, Result, Ok, Err}
use Rattle.nc_types.specs.Bytes.{Bytes}
use Rattle.devices.specs.Sinks.{SinkView, Appended, FailedPartway}
use Rattle.cdl_statements.specs.Bounds.{out_of_memory}
use Rattle.ncgen.specs.declared.fault.GenFault.{GenFault, TheVariants.Cdl, TheVariants.WriteFailed}

-- out of memory says nothing of the text
abbrev pub Refuses : Result Bytes GenFault → GenFault → Type 0
Refuses stated fault = (stated ≡ Err fault) ⊎ (fault ≡ Cdl out_of_memory)

pub record IsWritten (stated : Result Bytes GenFault) (old new : SinkView) : Type 0 where
  pub file : Bytes
  pub is_stated : stated ≡ Ok file
  pub appended : Appended old new file

pub record IsCutShort (stated : Result Bytes GenFault) (old new : SinkView) : Type 0 where
  pub file : Bytes
  pub is_stated : stated ≡ Ok file
  pub partway : FailedPartway old new file

-- a call with this result, where `generated` has stated a file or a fault
abbrev pub Generates : {A : Type 0} → Result Bytes GenFault → SinkView → SinkView → Result A GenFault → Type 0
-- it has written the stated file
Generates stated old new (Ok done) = IsWritten stated old new
-- the sink has failed, and has taken a prefix of the stated file
Generates stated old new (Err WriteFailed) = IsCutShort stated old new
-- nothing was written, and the fault is the stated one or out of memory
Generates stated old new (Err fault) = (new ≡ old) × Refuses stated fault
