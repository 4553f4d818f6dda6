-- Definition. What reading the text that is asked for has done.
use Rattle.std.specs.Prelude.{◌≡◌, ℕ, ◌<◌, ◌≤◌, Bool, length, Option, Some, None, IsSome, IsSomeAnd, Result, Ok, Err}
use Rattle.std.specs.Bool.{OnTrue}
use Rattle.std.specs.Global.{Vec}
use Rattle.nc_types.specs.Bytes.{Bytes}
use Rattle.nc_types.specs.declared.version.Version.{Version}
use Rattle.devices.specs.Failures.{HasFailed, one_more}
use Rattle.devices.specs.Openers.{OpenerView, OpenerUse}
use Rattle.devices.specs.Readers.{ReaderView}
use Rattle.devices.specs.Uses.{Use}
use Rattle.cdl_statements.specs.Bounds.{text_limit}
use Rattle.ncgen.specs.Generated.{generated}
use Rattle.ncgen.specs.Generates.{Refuses}
use Rattle.ncgen.specs.code.TextReads.{ReadsText}
use Rattle.ncgen.specs.declared.{fault.GenFault.GenFault, failure.InputFault.InputFault}
use Rattle.ncgen.specs.declared.fault.TextFault.TheVariants.{ReadFailed, CdlTooLong}
use Rattle.ncgen.specs.declared.failure.InputFault.TheVariants.{CannotOpen, Text, Generate}

-- what opens texts, and standard input
pub record Inputs : Type 0 where
  pub texts : OpenerUse
  pub input : Use ReaderView

-- ---- reading the text

-- A path could not be opened if the answer is `CannotOpen`, and not otherwise.
abbrev pub RefusesOnly : {A : Type 0} → OpenerView → OpenerView → Result A InputFault → Type 0
RefusesOnly old new (Err CannotOpen) = HasFailed old.refusals.count new.refusals.count
RefusesOnly old new _ = new.refusals ≡ old.refusals

-- A reader has failed if the answer is `ReadFailed`, and not otherwise.
abbrev pub ReadFailsOnly : {A : Type 0} → OpenerView → OpenerView → Result A InputFault → Type 0
ReadFailsOnly old new (Err (Text ReadFailed)) = HasFailed old.failures new.failures
ReadFailsOnly old new _ = new.failures ≡ old.failures

-- the text at a path that names these bytes, if it names any
abbrev pub ReadsAt : Bool → Option Bytes → Result (Vec ℕ) InputFault → Type 0
ReadsAt is_transparent named (Ok text) = (length text.items ≤ text_limit) × OnTrue is_transparent (named ≡ Some text.items)
ReadsAt is_transparent named (Err CannotOpen) = OnTrue is_transparent (named ≡ None)
ReadsAt is_transparent named (Err (Text CdlTooLong)) = OnTrue is_transparent (IsSomeAnd named (λ text. text_limit < length text))
ReadsAt is_transparent named (Err (Text fault)) = OnTrue is_transparent (IsSome named)
ReadsAt is_transparent named (Err (Generate fault)) = ⊥

-- Opening the path was tried once.
pub record ReadsPath (texts : OpenerUse) (path : Bytes) (answer : Result (Vec ℕ) InputFault) : Type 0 where
  pub text : ReadsAt texts.is_transparent (texts.named path) answer
  pub opens : texts.after.opens ≡ one_more texts.before.opens
  pub refusals : RefusesOnly texts.before texts.after answer
  pub reads : ReadFailsOnly texts.before texts.after answer

abbrev pub ReadsStandardInput : Use ReaderView → Result (Vec ℕ) InputFault → Type 0
ReadsStandardInput input (Ok text) = ReadsText text_limit input.before input.after (Ok text)
ReadsStandardInput input (Err (Text fault)) = ReadsText text_limit input.before input.after (Err fault)
ReadsStandardInput input (Err other) = ⊥

-- The text at the path was read, or standard input if there is no path. The other one wasn't touched.
abbrev pub ReadsInput : Inputs → Option Bytes → Result (Vec ℕ) InputFault → Type 0
ReadsInput i (Some path) answer = ReadsPath i.texts path answer × (i.input.after ≡ i.input.before)
ReadsInput i None answer = ReadsStandardInput i.input answer × (i.texts.after ≡ i.texts.before)

-- ---- what the text gives

pub record Gives (i : Inputs) (path : Option Bytes) (version : Version) (file : Bytes) : Type 0 where
  pub text : Vec ℕ
  pub read : ReadsInput i path (Ok text)
  pub stated : generated text.items version ≡ Ok file

pub record IsRefused (i : Inputs) (path : Option Bytes) (version : Version) (fault : GenFault) : Type 0 where
  pub text : Vec ℕ
  pub read : ReadsInput i path (Ok text)
  pub refused : Refuses (generated text.items version) fault

abbrev pub InputFails : Inputs → Option Bytes → Version → InputFault → Type 0
InputFails i path version (Generate fault) = IsRefused i path version fault
InputFails i path version fault = ReadsInput i path (Err fault)
