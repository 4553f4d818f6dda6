-- For contracts. What the calls that read several statements answer, but for want of memory.
use Rattle.std.specs.Prelude.{◌≡◌, ℕ, List, Result, Ok, Err}
use Rattle.nc_types.specs.declared.version.Version.{Version}
use Rattle.cdl_statements.specs.code.Cutters.{pieces_left, text_of, version_of}
use Rattle.cdl_statements.specs.declared.{cutter.Cutter.Cutter, fault.CdlFault.CdlFault, fault.CdlKind.CdlKind}
use Rattle.cdl_tokens.specs.declared.token.Token.{Token}
use Rattle.cdl_statements.specs.Meaning.{run}
use Rattle.cdl_statements.specs.State.{State}
use Rattle.cdl_values.specs.declared.read_error.ReadError.{ReadError}
use Rattle.cdl_values.specs.declared.read_error.ReadError.TheVariants.{OutOfMemory, Fault}
use Rattle.cdl_parse.specs.declared.parse_error.ParseError.{ParseError}
use Rattle.cdl_parse.specs.declared.parse_error.ParseError.TheVariants as stops

-- the error of a statement that begins on this line, with the line
abbrev pub at_line : ℕ → ReadError → ParseError
at_line line OutOfMemory = stops.OutOfMemory
at_line line (Fault k) = stops.Fault (record { line = line; kind = k })

-- a fault is the one that reading gives; out of memory says nothing
abbrev pub FailsAt : {A : Type 0} → ParseError → Result A CdlFault → Type 0
FailsAt stops.OutOfMemory read = Unit {0}
FailsAt (stops.Fault f) read = read ≡ Err f

-- an Ok, taken through `after`, is what reading gives; a fault is its fault; out of memory says nothing
abbrev pub GivesOrOutOfMemory : {B A : Type 0} → (B → Result A CdlFault) → Result B ParseError → Result A CdlFault → Type 0
GivesOrOutOfMemory after (Ok b) read = read ≡ after b
GivesOrOutOfMemory after (Err e) read = FailsAt e read

-- the other statements, after what the first one makes of the state
abbrev pub run_after : List ℕ → Version → ℕ → List (List Token) → Result State CdlKind → Result State CdlFault
run_after text v line others (Ok s) = run text v s others
run_after text v line others (Err k) = Err (record { line = line; kind = k })

-- what reading the statements of a cutter makes of this state, or their first fault
abbrev pub run_from : Cutter → State → Result State CdlFault
run_from start s = run (text_of start) (version_of start) s (pieces_left start)
