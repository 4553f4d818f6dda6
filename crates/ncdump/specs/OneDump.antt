-- Law. There is one dump of a file under all options, and each call that meets no failure writes it.
use Rattle.std.specs.Prelude.{◌≡◌, Result, Err}
use Rattle.nc_types.specs.Bytes.{Bytes}
use Rattle.nc_base.specs.Dump.{Options, Ending, IsDump}
use Rattle.devices.specs.Sinks.{SinkView, Appended}
use Rattle.ncdump.specs.declared.fault.DumpFault.{DumpFault}
use Rattle.ncdump.specs.declared.fault.DumpFault.TheVariants.{OutOfMemory, ReadFailed, WriteFailed}
use Rattle.ncdump.specs.Dumps.{Dumps, WriteFailsOnly}

-- exactly one text, with one ending
pub record HasOneDump (bytes : Bytes) (o : Options) : Type 0 where
  pub text : Bytes
  pub ending : Ending
  pub is_dump : IsDump bytes o text ending
  pub only : (other : Bytes) (end : Ending) → IsDump bytes o other end → (other ≡ text) × (end ≡ ending)

-- memory was not refused, and no device failed
abbrev pub MetNoFailure : Result (Unit {0}) DumpFault → Type 0
MetNoFailure (Err OutOfMemory) = ⊥
MetNoFailure (Err ReadFailed) = ⊥
MetNoFailure (Err WriteFailed) = ⊥
MetNoFailure answer = Unit {0}

-- what a call promises that dumps these bytes, and meets no failure
pub record HasDumped (bytes : Bytes) (o : Options) (old new : SinkView) (answer : Result (Unit {0}) DumpFault) : Type 0 where
  pub dumps : Dumps bytes o old new answer
  pub sink : WriteFailsOnly old new answer
  pub met_none : MetNoFailure answer

-- two such calls wrote the same text, and returned the same
pub record Agree (a b c d : SinkView) (answer other : Result (Unit {0}) DumpFault) : Type 0 where
  pub text : Bytes
  pub first : Appended a b text
  pub second : Appended c d text
  pub answers : answer ≡ other

-- for all bytes and options
abbrev pub BytesHaveOneDump : Type 0
BytesHaveOneDump = (bytes : Bytes) (o : Options) → HasOneDump bytes o

-- whichever buffer was lent, and however reads and writes were cut
abbrev pub DumpsAgree : Type 0
DumpsAgree = (bytes : Bytes) (o : Options) (a b c d : SinkView) (answer other : Result (Unit {0}) DumpFault)
    → HasDumped bytes o a b answer → HasDumped bytes o c d other → Agree a b c d answer other
