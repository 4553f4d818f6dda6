-- Definition. What a run of the program has done.
use Rattle.std.specs.Prelude.{ℕ, ◌≡◌, ◌⊎◌, false, Option, Some, None, option_map, string_bytes}
use Rattle.nc_types.specs.Bytes.{Bytes}
use Rattle.devices.specs.Creators.{CreatorView}
use Rattle.devices.specs.Openers.{OpenerView}
use Rattle.devices.specs.Readers.{ReaderView}
use Rattle.devices.specs.code.{Creations.uncreated, PathOpens.unopened}
use Rattle.devices.specs.Sinks.{SinkView, Appended, FailedPartway}
use Rattle.devices.specs.Uses.{Use}
use Rattle.cli_base.specs.declared.fault.OptFault.{OptFault}
use Rattle.cli_base.specs.declared.fault.OptFault.TheVariants.{OutOfMemory, Usage}
use Rattle.ncgen.specs.CommandLine.{Asked}
use Rattle.ncgen.specs.Faults.{line_of_failure}
use Rattle.ncgen.specs.Inputs.{Inputs, Gives, InputFails}
use Rattle.ncgen.specs.Outputs.{Outputs, IsMade, OutputFails}
use Rattle.ncgen.specs.declared.{failure.InputFault.InputFault, failure.OutputFault.OutputFault, failure.Failure.Failure}
use Rattle.ncgen.specs.declared.failure.Failure.TheVariants.{CommandLine, Input, Output}

-- The file that the text gives is at the output's path, if there is one.
pub record IsGenerated (i : Inputs) (o : Outputs) (asked : Option Asked) : Type 0 where
  pub a : Asked
  pub is_asked : asked ≡ Some a
  pub file : Bytes
  pub gives : Gives i a.file a.version file
  pub made : IsMade o a.output file

pub record IsUntouched (i : Inputs) (o : Outputs) : Type 0 where
  pub input : i.input.after ≡ i.input.before
  pub texts : i.texts.after ≡ i.texts.before
  pub output : o.after ≡ o.before

-- Nothing was touched: memory ran out before the words were understood, or they ask for nothing.
abbrev pub IsNotBegun : Inputs → Outputs → Option Asked → OptFault → Type 0
IsNotBegun i o asked OutOfMemory = IsUntouched i o
IsNotBegun i o asked Usage = (asked ≡ None) × IsUntouched i o

-- The text gives no file, and nothing was created.
pub record GivesNothing (i : Inputs) (o : Outputs) (asked : Option Asked) (path : Option Bytes) (fault : InputFault) : Type 0 where
  pub a : Asked
  pub is_asked : asked ≡ Some a
  pub is_path : path ≡ a.file
  pub fails : InputFails i a.file a.version fault
  pub untouched : o.after ≡ o.before

-- The text gives a file, which is not, or not all, at the output's path.
pub record IsUnwritten (i : Inputs) (o : Outputs) (asked : Option Asked) (path : Bytes) (fault : OutputFault) : Type 0 where
  pub a : Asked
  pub is_asked : asked ≡ Some a
  pub is_path : a.output ≡ Some path
  pub file : Bytes
  pub gives : Gives i a.file a.version file
  pub fails : OutputFails o path file fault

abbrev pub FailsWith : Inputs → Outputs → Option Asked → Failure → Type 0
FailsWith i o asked (CommandLine fault) = IsNotBegun i o asked fault
FailsWith i o asked (Input path fault) = GivesNothing i o asked (option_map string_bytes path) fault
FailsWith i o asked (Output path fault) = IsUnwritten i o asked (string_bytes path) fault

-- what the words ask for, what was read and written, and standard error
pub record Run : Type 0 where
  pub asked : Option Asked
  pub inputs : Inputs
  pub outputs : Outputs
  pub err : Use SinkView

-- The line of the failure, or a prefix of it, was written to standard error.
pub record Fails (run : Run) : Type 0 where
  pub failure : Failure
  pub fails : FailsWith run.inputs run.outputs run.asked failure
  pub line : Appended run.err.before run.err.after (line_of_failure failure) ⊎ FailedPartway run.err.before run.err.after (line_of_failure failure)

-- The status is 0 if the run made what is asked for, and wrote nothing to standard error. Otherwise it is 1.
abbrev pub Ends : Run → ℕ → Type 0
Ends run status =
    ((status ≡ 0) × IsGenerated run.inputs run.outputs run.asked × (run.err.after ≡ run.err.before)) ⊎ ((status ≡ 1) × Fails run)

-- the same over the files of the system, whose bytes no contract knows, and of which none had been opened or created before
pub record EndsOverSystem (asked : Option Asked) (input : Use ReaderView) (err : Use SinkView) (status : ℕ) : Type 0 where
  pub texts : OpenerView
  pub outputs : CreatorView
  pub ends : Ends (record {
    asked = asked;
    inputs = record { texts = record { is_transparent = false; named = λ _. None; before = unopened; after = texts }; input = input };
    outputs = record { is_transparent = false; before = uncreated; after = outputs };
    err = err;
  }) status
