-- Law. A header that bytes spell, by whatever rules on names, types and kept values, has a sound layout. If its variables begin where a
-- layout in which nothing is found has them, then these are the begins that a generated file has. Values are found to be missing exactly if
-- some variable has a first missing value.
use Rattle.std.specs.Prelude.{ℕ, ◌≡◌, ◌+◌, nat_lt, Bool, true, false, List, length, is_some}
use Rattle.std.specs.List.{list_any}
use Rattle.nc_base.specs.declared.{header.Header.Header, header.Var.Var}
use Rattle.nc_base.specs.declared.header.NumRecs.TheVariants.{Known}
use Rattle.nc_types.specs.Bytes.{Bytes}
use Rattle.nc_base.specs.GeneratedFile.{file_of, with_begins}
use Rattle.nc_base.specs.Grammar.{Rules, header_by, header_spelling}
use Rattle.nc_base.specs.Headers.{AreArrays, bare}
use Rattle.nc_base.specs.Parts.{Spells}
use Rattle.nc_base.specs.Places.{first_missing}
use Rattle.nc_base.specs.Sizes.{record_count}
use Rattle.nc_layout.specs.declared.{slot.FileLayout.FileLayout}
use Rattle.nc_findings.specs.declared.{layout_fact.LayoutFact.LayoutFact, layout_fact.LayoutFinding.LayoutFinding}
use Rattle.nc_findings.specs.declared.layout_fact.LayoutFact.TheVariants.{Missing}
use Rattle.nc_layout.specs.FileEnd.{values_end}
use Rattle.nc_layout.specs.Findings.{IsSoundLayout, layout_findings}
use Rattle.nc_layout.specs.HeaderLayout.{layout_of}
use Rattle.nccheck_laws.specs.LayoutLaws.{is_of_begin, is_of_end, FindsNone, HasCanonicalBegins}

-- in a file of these bytes, whose header ends where the rest begins
abbrev pub SpelledHeadersHaveSoundLayouts : Type 0
SpelledHeadersHaveSoundLayouts = (r : Rules) (bytes : Bytes) (h : Header) (rest : Bytes) (header_end : ℕ)
    → Spells (header_by r) bytes h rest → header_end + length rest ≡ length bytes → IsSoundLayout (layout_of h header_end (length bytes))

-- in a file whose header ends where it does as it is written
abbrev pub CanonicalBeginsAreGenerated : Type 0
CanonicalBeginsAreGenerated = (h : Header) (file_len : ℕ) → HasCanonicalBegins (layout_of h (length (header_spelling h)) file_len)
    → with_begins h ≡ h

-- in such a file with a known number of records: if nothing is found at begins and at the end of the file, then it has the header and the
-- length of the file that is generated from its header without begins and from any arrays of these sizes
abbrev pub QuietFilesAreGenerated : Type 0
QuietFilesAreGenerated = (h : Header) (arrays : List Bytes) (n file_len : ℕ) → h.numrecs ≡ Known n → AreArrays h.dims n h.vars arrays
    → IsSoundLayout (layout_of h (length (header_spelling h)) file_len)
    → FindsNone is_of_begin (layout_of h (length (header_spelling h)) file_len)
    → FindsNone is_of_end (layout_of h (length (header_spelling h)) file_len)
    → (with_begins (bare h n) ≡ h) × (file_len ≡ length (file_of (record { header = bare h n; arrays = arrays })))

-- the converse: nothing is found at begins and at the end of a file that has the begins and the length of the generated one
abbrev pub GeneratedFilesAreQuiet : Type 0
GeneratedFilesAreQuiet = (h : Header) (arrays : List Bytes) (n file_len : ℕ) → h.numrecs ≡ Known n → AreArrays h.dims n h.vars arrays
    → IsSoundLayout (layout_of h (length (header_spelling h)) file_len)
    → with_begins (bare h n) ≡ h → file_len ≡ length (file_of (record { header = bare h n; arrays = arrays }))
    → FindsNone is_of_begin (layout_of h (length (header_spelling h)) file_len)
    × FindsNone is_of_end (layout_of h (length (header_spelling h)) file_len)

-- the finding that values are missing
abbrev pub is_of_missing : LayoutFact → Bool
is_of_missing (Missing file_len end slab) = true
is_of_missing fact = false

-- one of the findings is of this kind
abbrev pub finds : (LayoutFact → Bool) → FileLayout → Bool
finds kind layout = list_any (λ (finding : LayoutFinding). kind finding.fact) (layout_findings layout)

-- the variable has a first missing value in a file of these bytes
abbrev pub lacks_values : Header → Bytes → Var → Bool
lacks_values h bytes var = is_some (first_missing h bytes var (record_count h (length bytes)))

-- a file of these bytes ends before the values of its layout do exactly if some variable has a first missing value
abbrev pub ShortFilesLackValues : Type 0
ShortFilesLackValues = (h : Header) (bytes : Bytes) (header_end : ℕ) → IsSoundLayout (layout_of h header_end (length bytes))
    → nat_lt (length bytes) (values_end (layout_of h header_end (length bytes))) ≡ list_any (lacks_values h bytes) h.vars

-- in such a file, values are found to be missing exactly if some variable has a first missing value
abbrev pub MissingValuesAreFound : Type 0
MissingValuesAreFound = (h : Header) (bytes : Bytes) (header_end : ℕ) → IsSoundLayout (layout_of h header_end (length bytes))
    → finds is_of_missing (layout_of h header_end (length bytes)) ≡ list_any (lacks_values h bytes) h.vars
