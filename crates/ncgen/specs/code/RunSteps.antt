-- For contracts. What the steps of a run have done.
use Rattle.std.specs.Prelude.{◌≡◌, ℕ, List, Option, Some, Result, Ok, Err, string_bytes}
use Rattle.nc_types.specs.declared.version.Version.{Version}
use Rattle.ncgen.specs.CommandLine.{Asked}
use Rattle.ncgen.specs.Inputs.{Inputs, Gives, InputFails}
use Rattle.ncgen.specs.Outputs.{Outputs, IsMade, IsWrittenAt, OutputFails}
use Rattle.ncgen.specs.Runs.{FailsWith, IsGenerated}
use Rattle.ncgen.specs.code.Prepared.{IsReady, file_of_prepared}
use Rattle.ncgen.specs.declared.{failure.InputFault.InputFault, failure.OutputFault.OutputFault, failure.Failure.Failure, prepared.Prepared.Prepared}
use Rattle.ncgen.specs.declared.failure.Failure.TheVariants.{Output}

-- the file that the text gives stands ready to be written, or the text gives none
abbrev pub PreparesInput : Inputs → Option (List ℕ) → Version → Result Prepared InputFault → Type 0
PreparesInput i path version (Ok prepared) = IsReady prepared × Gives i path version (file_of_prepared prepared)
PreparesInput i path version (Err fault) = InputFails i path version fault

-- what writing these bytes at the path has done
abbrev pub WritesAt : {A : Type 0} → Outputs → List ℕ → List ℕ → Result A OutputFault → Type 0
WritesAt o path bytes (Ok done) = IsWrittenAt o path bytes
WritesAt o path bytes (Err fault) = OutputFails o path bytes fault

-- the file was written where it is asked for, or it wasn't
abbrev pub WritesAsked : {A : Type 0} → Outputs → Option (List ℕ) → List ℕ → Result A Failure → Type 0
WritesAsked o path bytes (Ok done) = IsMade o path bytes
WritesAsked o path bytes (Err (Output at fault)) = (path ≡ Some (string_bytes at)) × OutputFails o (string_bytes at) bytes fault
WritesAsked o path bytes (Err other) = ⊥

-- what is asked for was made, or the run has failed
abbrev pub GeneratesAsked : {A : Type 0} → Inputs → Outputs → Option Asked → Result A Failure → Type 0
GeneratesAsked i o asked (Ok done) = IsGenerated i o asked
GeneratesAsked i o asked (Err failure) = FailsWith i o asked failure
