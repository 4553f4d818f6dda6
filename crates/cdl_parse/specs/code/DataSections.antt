-- For contracts. What the calls that read the data section answer, but for want of memory.
use Rattle.std.specs.Prelude.{ℕ, zero, suc, ◌≡◌, ◌<◌, ◌^◌, length, Bool, true, false, List, [], ◌∷◌, Result, Ok, Err}
use Rattle.nc_base.specs.declared.header.Var.{Var}
use Rattle.cdl_statements.specs.code.Cutters.{pieces_left, text_of, version_of, words}
use Rattle.cdl_statements.specs.declared.cutter.Cutter.{Cutter}
use Rattle.cdl_statements.specs.declared.section.Section.TheVariants.{Closed}
use Rattle.cdl_statements.specs.declared.section.Section.TheVariants as sections
use Rattle.cdl_statements.specs.Meaning.{piece_read, run}
use Rattle.cdl_statements.specs.State.{State, Draft}
use Rattle.cdl_values.specs.code.Answers.{FailsRead}
use Rattle.cdl_values.specs.code.Listed.{AllList, unlisted_drafts}
use Rattle.cdl_values.specs.code.Meant.{AllSuit, names_of}
use Rattle.cdl_values.specs.declared.{data.Target.Target, read_error.ReadError.ReadError}
use Rattle.cdl_parse.specs.code.Runs.{FailsAt}
use Rattle.cdl_parse.specs.declared.{data_section.Values.Values, data_section.Listings.Listings, data_section.DataStatement.DataStatement, parse_error.ParseError.ParseError}

-- the targets, of which the one at this position is now given its values
abbrev pub given_at : ℕ → List Target → List Target
given_at position [] = []
given_at zero (t ∷ ts) = record t { given = true } ∷ ts
given_at (suc position) (t ∷ ts) = t ∷ given_at position ts

-- the state is in the data section: the variables have these names, of them these bytes are listed, and their targets are these
pub record IsInDataSection (vars : List Var) (names : List (List ℕ)) (targets : List Target) (arrays : List (List ℕ)) (s : State) : Type 0 where
  pub section : s.section ≡ sections.Values
  pub named : names ≡ names_of s.drafts
  pub suit : AllSuit s.dims targets s.drafts
  pub lists : AllList vars arrays s.drafts

-- the state is at the beginning of the data section of this text: these are the variables, their names and what they take
pub record BeginsData (start : Cutter) (names : List (List ℕ)) (targets : List Target) (vars : List Var) (s : State) : Type 0 where
  pub section : s.section ≡ sections.Values
  pub named : names ≡ names_of s.drafts
  pub suit : AllSuit s.dims targets s.drafts
  pub unlisted : s.drafts ≡ unlisted_drafts vars
  pub short : length (text_of start) < 2 ^ 63

-- the statement closes the section, or it has the fault
abbrev pub Closes : Cutter → State → Result DataStatement ReadError → Type 0
Closes start s (Ok passed) = (passed.is_brace ≡ true) × (piece_read (version_of start) s (words start) ≡ Ok (record s { section = Closed }))
Closes start s (Err e) = FailsRead e (piece_read (version_of start) s (words start))

-- the statement is the closing brace, and what is listed is these bytes; or it lists values, and afterwards the state stands so
abbrev pub TakesStatement : Bool → List Var → Cutter → State → List Target → List (List ℕ) → Type 0
TakesStatement true vars start s targets arrays = (piece_read (version_of start) s (words start) ≡ Ok (record s { section = Closed })) × AllList vars arrays s.drafts
TakesStatement false vars start s targets arrays = (ds : List Draft) × (piece_read (version_of start) s (words start) ≡ Ok (record s { drafts = ds })) × IsInDataSection vars (names_of s.drafts) targets arrays (record s { drafts = ds })

-- the statement is taken, or it has the fault
abbrev pub ReadsOne : List Var → Cutter → State → List Target → List (List ℕ) → Result DataStatement ReadError → Type 0
ReadsOne vars start s targets arrays (Ok passed) = TakesStatement passed.is_brace vars start s targets arrays
ReadsOne vars start s targets arrays (Err e) = FailsRead e (piece_read (version_of start) s (words start))

-- the same in each state that such listings belong to
abbrev pub ReadsNextStatement : Cutter → List (List ℕ) → Listings → Listings → Result DataStatement ReadError → Type 0
ReadsNextStatement start names before after result =
    (vars : List Var) (s : State) → IsInDataSection vars names before.targets.items before.arrays.items s → length (text_of start) < 2 ^ 63 → ReadsOne vars start s after.targets.items after.arrays.items result

-- these bytes are listed of the variables, and the text is read on after that; or there is the fault
abbrev pub ReadsValues : List Var → Cutter → State → Result Values ParseError → Type 0
ReadsValues vars start s (Ok values) =
    (drafts : List Draft) × AllList vars values.listed.items drafts ×
    (run (text_of start) (version_of start) s (pieces_left start) ≡ run (text_of start) (version_of start) (record s { section = values.section; drafts = drafts }) (pieces_left values.rest.cutter))
ReadsValues vars start s (Err e) = FailsAt e (run (text_of start) (version_of start) s (pieces_left start))

-- the same in each state that begins the section so
abbrev pub ReadsDataSection : Cutter → List (List ℕ) → List Target → Result Values ParseError → Type 0
ReadsDataSection start names targets result = (vars : List Var) (s : State) → BeginsData start names targets vars s → ReadsValues vars start s result
