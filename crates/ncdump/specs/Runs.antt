-- Definition. What a run of the program has done.
use Rattle.std.specs.Prelude.{ℕ, ◌≡◌, ◌⊎◌, false, List, Option, Some, None, IsSomeAnd, Result, Ok, Err, string_bytes}
use Rattle.std.specs.Bool.{OnTrue}
use Rattle.std.specs.Borrow.{Bor}
use Rattle.nc_types.specs.Bytes.{Bytes}
use Rattle.nc_base.specs.Dump.{Options}
use Rattle.devices.specs.Failures.{HasFailed, one_more}
use Rattle.devices.specs.Openers.{OpenerView, OpenerUse}
use Rattle.devices.specs.code.PathOpens.{unopened}
use Rattle.devices.specs.Sinks.{SinkView, Appended, FailedPartway}
use Rattle.devices.specs.Uses.{Use}
use Rattle.ncdump.specs.CommandLine.{Asked, asked_by}
use Rattle.ncdump.specs.Dumps as dumps
use Rattle.ncdump.specs.Faults.{line_of_failure}
use Rattle.cli_base.specs.Arguments.{texts_of}
use Rattle.cli_base.specs.declared.fault.OptFault.TheVariants.{OutOfMemory, Usage}
use Rattle.ncdump.specs.declared.{fault.Failure.Failure, fault.FileFault.FileFault, fault.DumpFault.DumpFault, fault.DumpFault.TheVariants.ReadFailed}
use Rattle.ncdump.specs.declared.fault.Failure.TheVariants.{CommandLine, File}
use Rattle.ncdump.specs.declared.fault.FileFault.TheVariants.{CannotOpen, Dump}

-- ---- the dump of a file

-- `Holds` is true of the dump's answer. If the file could not be opened, `Unopened` is true.
abbrev pub OfDump : {A : Type 0} → (Result A DumpFault → Type 0) → Type 0 → Result A FileFault → Type 0
OfDump Holds Unopened (Ok done) = Holds (Ok done)
OfDump Holds Unopened (Err (Dump fault)) = Holds (Err fault)
OfDump Holds Unopened (Err CannotOpen) = Unopened

-- the dump of the file, if these are its bytes; if there is no file, it could not be opened, and nothing was written
abbrev pub DumpsFile : {A : Type 0} → Option Bytes → Options → SinkView → SinkView → Result A FileFault → Type 0
DumpsFile (Some bytes) o old new answer = OfDump (dumps.Dumps bytes o old new) ⊥ answer
DumpsFile None o old new answer = OfDump (λ dumped. ⊥) (new ≡ old) answer

abbrev pub ReadFailsOnly : {A : Type 0} → OpenerView → OpenerView → Result A FileFault → Type 0
ReadFailsOnly old new (Err (Dump ReadFailed)) = HasFailed old.failures new.failures
ReadFailsOnly old new _ = new.failures ≡ old.failures

abbrev pub RefusesOnly : {A : Type 0} → OpenerView → OpenerView → Result A FileFault → Type 0
RefusesOnly old new (Err CannotOpen) = HasFailed old.refusals.count new.refusals.count
RefusesOnly old new _ = new.refusals ≡ old.refusals

-- the opener was asked for one path; that it could not open it, or that a source has failed, is so exactly if the answer says so
pub record OpensFile {A : Type 0} (old new : OpenerView) (answer : Result A FileFault) : Type 0 where
  pub opens : new.opens ≡ one_more old.opens
  pub refusals : RefusesOnly old new answer
  pub reads : ReadFailsOnly old new answer

pub record DumpsPath {A : Type 0} (path : Bytes) (o : Options) (files : OpenerUse) (out : Use SinkView) (answer : Result A FileFault) : Type 0 where
  pub opens : OpensFile files.before files.after answer
  pub writes : OfDump (dumps.WriteFailsOnly out.before out.after) (out.after ≡ out.before) answer
  pub dump : OnTrue files.is_transparent (DumpsFile (files.named path) o out.before out.after answer)

-- ---- the dump that is asked for

-- what the words ask for, the files, and standard output
pub record Run : Type 0 where
  pub asked : Option Asked
  pub files : OpenerUse
  pub out : Use SinkView

abbrev pub run_of : List (Bor Bytes) → OpenerUse → Use SinkView → Run
run_of words files out = record { asked = asked_by (texts_of words); files = files; out = out }

-- no file was opened, and nothing was written
pub record IsUntouched (run : Run) : Type 0 where
  pub files : run.files.after ≡ run.files.before
  pub same : run.out.after ≡ run.out.before

abbrev pub DumpsAsked : {A : Type 0} → Run → Result A Failure → Type 0
DumpsAsked run (Ok done) = IsSomeAnd run.asked (λ a. DumpsPath a.file a.options run.files run.out (Ok done))
DumpsAsked {A} run (Err (File path fault)) =
    IsSomeAnd run.asked (λ a. (string_bytes path ≡ a.file) × DumpsPath {A = A} a.file a.options run.files run.out (Err fault))
DumpsAsked run (Err (CommandLine Usage)) = (run.asked ≡ None) × IsUntouched run
DumpsAsked run (Err (CommandLine OutOfMemory)) = IsUntouched run

-- ---- the run

-- the failure line, or a prefix of it, was written to standard error
pub record Fails (run : Run) (err : Use SinkView) : Type 0 where
  pub failure : Failure
  pub fails : DumpsAsked {A = Unit {0}} run (Err failure)
  pub line : Appended err.before err.after (line_of_failure failure) ⊎ FailedPartway err.before err.after (line_of_failure failure)

-- with status 0 the dump that is asked for was written, and nothing was written to standard error
abbrev pub Ends : Run → Use SinkView → ℕ → Type 0
Ends run err status = ((status ≡ 0) × DumpsAsked {A = Unit {0}} run (Ok tt) × (err.after ≡ err.before)) ⊎ ((status ≡ 1) × Fails run err)

-- the same of the files of the system, whose bytes no contract knows, and of which none had been opened before
pub record EndsOverSystem (words : List (Bor Bytes)) (out err : Use SinkView) (status : ℕ) : Type 0 where
  pub files : OpenerView
  pub ends : Ends (run_of words (record { is_transparent = false; named = λ _. None; before = unopened; after = files }) out) err status
