-- For contracts. What a statement of the data section means, in bytes.
use Rattle.std.specs.Prelude.{ℕ, ℤ, ◌≡◌, ◌<◌, ◌^◌, length, Bool, false, List, [], ◌∷◌, if◌then◌else◌, is_some, map, Some, Result, Ok, Err, ⊤}
use Rattle.std.specs.List.{flat_map}
use Rattle.std.specs.Str.{bytes_eq}
use Rattle.nc_base.specs.Numbers.{bytes_of_number}
use Rattle.nc_base.specs.declared.{header.Dim.Dim, header.Var.Var}
use Rattle.nc_types.specs.declared.{version.Version.Version}
use Rattle.cdl_tokens.specs.Escapes.{word_value}
use Rattle.cdl_statements.specs.code.Cutters.{text_of, version_of, words}
use Rattle.cdl_statements.specs.declared.{cutter.Cutter.Cutter, section.Section.TheVariants.Values, fault.CdlKind.CdlKind}
use Rattle.cdl_statements.specs.Lexemes.{Lexeme, is_mark}
use Rattle.cdl_statements.specs.Meaning.{piece_read}
use Rattle.cdl_statements.specs.State.{State, Draft, takes_of}
use Rattle.cdl_values.specs.declared.{read_error.ReadError.ReadError, data.StatementValues.StatementValues, data.Target.Target}
use Rattle.cdl_values.specs.declared.read_error.ReadError.TheVariants.{OutOfMemory, Fault}
use Rattle.cdl_values.specs.code.Capacities.{Fills, HasCapacity}
use Rattle.cdl_values.specs.code.Listed.{AreShaped, unlisted_drafts}

-- a target is what a draft takes
pub record Suits (dims : List Dim) (t : Target) (d : Draft) : Type 0 where
  pub given : t.given ≡ is_some d.listed
  pub fills : Fills t.form (takes_of dims d.var)
  pub takes : HasCapacity t.form t.capacity dims d.var

-- each target is what the draft at its position takes
abbrev pub AllSuit : List Dim → List Target → List Draft → Type 0
AllSuit dims [] [] = ⊤
AllSuit dims (t ∷ ts) (d ∷ ds) = Suits dims t d × AllSuit dims ts ds
AllSuit dims _ _ = ⊥

-- each target is what the variable at its position takes before the data section
abbrev pub SuitVariables : List Dim → List Var → List Target → Type 0
SuitVariables dims vars targets = AreShaped dims (unlisted_drafts vars) → AllSuit dims targets (unlisted_drafts vars)

abbrev pub names_of : List Draft → List (List ℕ)
names_of drafts = map (λ (d : Draft). d.var.name) drafts

-- with these values listed of the first variable of this name
abbrev pub with_listed : List ℕ → List ℤ → List Draft → List Draft
with_listed name values [] = []
with_listed name values (d ∷ ds) = if bytes_eq d.var.name name then record d { listed = Some values } ∷ ds else d ∷ with_listed name values ds

-- the values as its bytes
abbrev pub listed_bytes : List ℕ → List ℤ → List Draft → List ℕ
listed_bytes name values [] = []
listed_bytes name values (d ∷ ds) = if bytes_eq d.var.name name then flat_map (bytes_of_number d.var.ty) values else listed_bytes name values ds

-- the drafts with values of these bytes listed, or the fault
abbrev pub HasListed : List ℕ → List Draft → Result (List ℕ) CdlKind → Result (List Draft) CdlKind → Type 0
HasListed name drafts (Err e) after = after ≡ Err e
HasListed name drafts (Ok array) after = (values : List ℤ) × (listed_bytes name values drafts ≡ array) × (after ≡ Ok (with_listed name values drafts))

abbrev pub name_first : List Lexeme → List ℕ
name_first [] = []
name_first (l ∷ ls) = word_value l.bytes

-- the name that the next statement begins with
abbrev pub name_said : Cutter → List ℕ
name_said start = name_first (words start)

-- read in this state, the piece lists values with these bytes of the variable that it names first; or it has this fault
abbrev pub Means : Version → State → List Lexeme → Result (List ℕ) CdlKind → Type 0
Means v s ws (Err e) = piece_read v s ws ≡ Err e
Means v s ws (Ok array) =
    (values : List ℤ) × (listed_bytes (name_first ws) values s.drafts ≡ array) × (piece_read v s ws ≡ Ok (record s { drafts = with_listed (name_first ws) values s.drafts }))

-- its first token is the closing brace
abbrev pub begins_brace : List Lexeme → Bool
begins_brace [] = false
begins_brace (l ∷ ls) = is_mark 0x7d l

-- what a call answers of a piece, but for want of memory
abbrev pub ReadsStatement : Version → State → List Lexeme → Result (List ℕ) (ReadError) → Type 0
ReadsStatement v s ws (Ok array) = Means v s ws (Ok array)
ReadsStatement v s ws (Err (Fault e)) = Means v s ws (Err e)
ReadsStatement v s ws (Err OutOfMemory) = Unit {0}

abbrev pub result_array : {G : Type 0} → (G → List ℕ) → Result G (ReadError) → Result (List ℕ) (ReadError)
result_array view (Ok g) = Ok (view g)
result_array view (Err e) = Err e

-- The next statement stands in the data section, and lists values: the variables have these names, and take this.
pub record ListsValues (start : Cutter) (names : List (List ℕ)) (targets : List Target) (s : State) : Type 0 where
  pub section : s.section ≡ Values
  pub named : names ≡ names_of s.drafts
  pub suit : AllSuit s.dims targets s.drafts
  pub lists : begins_brace (words start) ≡ false
  pub short : length (text_of start) < 2 ^ 63

-- what is given of the next statement is what it means, in each state that has these names and takes this
abbrev pub MeansWhatIsGiven : Cutter → List (List ℕ) → List Target → Result StatementValues ReadError → Type 0
MeansWhatIsGiven start names targets result = (s : State) → ListsValues start names targets s → ReadsStatement (version_of start) s (words start) (result_array (λ (g : StatementValues). g.array) result)
