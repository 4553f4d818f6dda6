-- For contracts. What the calls that read a whole text answer.
use Rattle.std.specs.Prelude.{ℕ, ◌≡◌, ◌⊎◌, ◌<◌, ◌^◌, length, List, Result, Ok, Err}
use Rattle.nc_base.specs.declared.{dataset.Dataset.Dataset, header.Dim.Dim, header.Var.Var}
use Rattle.cdl_statements.specs.declared.{fault.CdlFault.CdlFault, cutter.Cutter.Cutter, section.Section.Section}
use Rattle.cdl_statements.specs.code.Cutters.{text_of}
use Rattle.cdl_statements.specs.Bounds.{out_of_memory}
use Rattle.cdl_statements.specs.State.{State}
use Rattle.cdl_values.specs.code.Listed.{AllList, AreShaped, unlisted_drafts}
use Rattle.cdl_values.specs.code.Meant.{names_of}
use Rattle.cdl_parse.specs.code.DataSections.{ReadsValues}
use Rattle.cdl_parse.specs.code.DeclaredDatasets.{dataset_of_declared}
use Rattle.cdl_parse.specs.code.Runs.{FailsAt}
use Rattle.cdl_parse.specs.declared.{declared_values.Declared.Declared, text.Contents.Contents, data_section.Values.Values, parse_error.ParseError.ParseError}
use Rattle.cdl_parse.specs.declared.parse_error.ParseError.TheVariants as stops

-- what the text means; or an allocation failed, which says nothing of the text
abbrev pub MeansOrOutOfMemory : {A : Type 0} → Result A CdlFault → Result A CdlFault → Type 0
MeansOrOutOfMemory result meaning = (result ≡ meaning) ⊎ (result ≡ Err out_of_memory)

-- what is declared, as a dataset
abbrev pub as_dataset : Result Declared CdlFault → Result Dataset CdlFault
as_dataset (Ok d) = Ok (dataset_of_declared d)
as_dataset (Err fault) = Err fault

-- an error as a fault with its line; out of memory has line 0
abbrev pub fault_of : ParseError → CdlFault
fault_of stops.OutOfMemory = out_of_memory
fault_of (stops.Fault fault) = fault

-- The state before the values of a text: these are its dimensions, its variables and their names.
pub record IsDefined (start : Cutter) (dims : List Dim) (vars : List Var) (names : List (List ℕ)) (s : State) : Type 0 where
  pub has_dims : s.dims ≡ dims
  pub unlisted : s.drafts ≡ unlisted_drafts vars
  pub named : names ≡ names_of s.drafts
  pub shaped : AreShaped s.dims s.drafts
  pub short : length (text_of start) < 2 ^ 63

-- the values are read on from each such state in this section
abbrev pub ReadsAsDefined : Cutter → List Dim → List Var → List (List ℕ) → Section → Result Values ParseError → Type 0
ReadsAsDefined start dims vars names section result = (s : State) → s.section ≡ section → IsDefined start dims vars names s → ReadsValues vars start s result

-- these are the contents of the state
pub record AreContentsOf (c : Contents) (s : State) : Type 0 where
  pub dims : s.dims ≡ c.dims
  pub gatts : s.gatts ≡ c.gatts
  pub listed : AllList c.vars c.listed.items s.drafts
  pub shaped : AreShaped c.dims s.drafts

-- the text is read to its end, with these contents; or there is the fault
abbrev pub ReadsAll : Result Contents ParseError → Result State CdlFault → Type 0
ReadsAll (Ok c) read = (s : State) × AreContentsOf c s × (read ≡ Ok s)
ReadsAll (Err e) read = FailsAt e read
