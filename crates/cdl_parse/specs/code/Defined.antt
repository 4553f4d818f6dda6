-- For contracts. The state that the statements before the data section make.
use Rattle.std.specs.Prelude.{◌≡◌, ℕ, Bool, true, false, None, Some, Option, Result, Ok, Err}
use Rattle.cdl_statements.specs.code.Cutters.{pieces_left, text_of, version_of, words}
use Rattle.cdl_statements.specs.declared.{cutter.Cutter.Cutter, fault.CdlFault.CdlFault, fault.CdlKind.CdlKind, section.Section.Section}
use Rattle.cdl_statements.specs.declared.section.Section.TheVariants.{Unopened, Globals, Dimensions, Variables, Closed, Ended}
use Rattle.cdl_statements.specs.code.Contents.{statement_said}
use Rattle.cdl_statements.specs.Meaning.{piece_read, run}
use Rattle.cdl_statements.specs.State.{State, act}
use Rattle.cdl_values.specs.code.Answers.{FailsRead}
use Rattle.cdl_values.specs.declared.read_error.ReadError.{ReadError}
use Rattle.cdl_parse.specs.declared.{definition_sections.Defined.Defined, definitions.Definitions.Definitions}

-- what is declared so far, as a state of the dataset
abbrev pub state_of : Definitions → State
state_of d = record { section = d.section; dims = d.dims; gatts = d.gatts; drafts = d.variables }

-- between the opening and the data section
abbrev pub is_defining : Section → Bool
is_defining Globals = true
is_defining Dimensions = true
is_defining Variables = true
is_defining _ = false

-- before the data section
abbrev pub is_before_data : Section → Bool
is_before_data Unopened = true
is_before_data section = is_defining section

-- the section of a mark; no mark gets here that has none
abbrev pub after_mark : Option Section → Section
after_mark None = Ended
after_mark (Some section) = section

-- the closing brace stands before
abbrev pub is_over : Section → Bool
is_over Closed = true
is_over Ended = true
is_over _ = false

-- the state that the next statement makes of this one, or the statement's fault
abbrev pub after_statement : Cutter → State → Result State CdlKind
after_statement start s = piece_read (version_of start) s (words start)

-- the state that the next statement makes of this one by what it says, if it stands in this section; or its first fault
abbrev pub said_next : Cutter → Section → State → Result State CdlKind
said_next start section s = act (version_of start) s (statement_said (version_of start) section (words start))

-- the same, of what is declared so far
abbrev pub said_by : Cutter → Section → Definitions → Result State CdlKind
said_by start section d = said_next start section (state_of d)

-- with an Ok the statement makes this state; a fault is its fault
abbrev pub Makes : {B : Type 0} → State → Result B ReadError → Result State CdlKind → Type 0
Makes after (Ok b) read = read ≡ Ok after
Makes after (Err e) read = FailsRead e read

-- no statement is left, but for the section the state is as it was; or there is the fault
abbrev pub EndsAs : State → Result ℕ CdlFault → Result State CdlFault → Type 0
EndsAs s (Ok line) read = (last : Section) × (read ≡ Ok (record s { section = last }))
EndsAs s (Err fault) read = read ≡ Err fault

-- the statements after those that define, from the state that they make
abbrev pub run_past : Cutter → Defined → Result State CdlFault
run_past start d = run (text_of start) (version_of start) (state_of d.definitions) (pieces_left d.rest.cutter)
