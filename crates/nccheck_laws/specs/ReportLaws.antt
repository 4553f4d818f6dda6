-- Law. If nothing is found about the spelling of a header that the strict rules read, then the file begins with the one spelling in which
-- this header is written: the rules on padding, on lists without elements and on the sizes of variables are complete. They find nothing in
-- such a file. If nothing is found at begins and at the end of the file either, then the file has the header and the length of a generated
-- file. Kinds of findings tell whether a file holds a dataset, and whether its dump is whole. The report of a generated file has none of
-- those kinds, and finds nothing about the spelling, at begins and at the end.
use Rattle.std.specs.Prelude.{ℕ, ◌≡◌, ◌↔◌, Bool, true, false, List, ◌++◌, length, None}
use Rattle.std.specs.List.{All, list_any}
use Rattle.nc_base.specs.declared.{dataset.Dataset.Dataset, header.Header.Header}
use Rattle.nc_base.specs.declared.header.NumRecs.TheVariants.{Known}
use Rattle.nc_types.specs.Bytes.{Bytes, AreBytes}
use Rattle.nc_base.specs.Datasets.{HoldsDataset, Fits}
use Rattle.nc_base.specs.Dump.{Options, Ending, whole, data_truncated, IsDump}
use Rattle.nc_base.specs.GeneratedFile.{file_of, with_begins}
use Rattle.nc_base.specs.Grammar.{SpellsHeader, header_spelling}
use Rattle.nc_base.specs.Headers.{AreArrays, IsGood, bare}
use Rattle.nc_findings.specs.declared.layout_fact.LayoutFact.{LayoutFact}
use Rattle.nccheck_laws.specs.LayoutLaws.{is_of_begin, is_of_end}
use Rattle.nc_findings.specs.declared.{finding.Fact.Fact, finding.Finding.Finding, report.Report.Report, kind.Kind.Kind}
use Rattle.nc_findings.specs.declared.finding.Fact.TheVariants as fact
use Rattle.nc_findings.specs.declared.kind.Kind.TheVariants.{NotNetcdf, Hdf5, Hdf5Truncated, Gzip, EmptyFile, UnknownVersion, HeaderTruncated, BadTag, BadCount, BadName, NameCharacters, FloatingType, BadType, BadShape, TwoRecordDims, TooLarge, BadOffset, LargeCount, Missing}
use Rattle.nc_findings.specs.Kinds.{kind_of}
use Rattle.nc_report.specs.Reports.{IsReport}
use Rattle.nccheck_laws.specs.FaultLaws.{HasNoFault, finds_missing}

-- a fact about the spelling of a header: it says the same as the header's own spelling, in other bytes
abbrev pub is_of_spelling : Fact → Bool
is_of_spelling (fact.Fault fault) = false
is_of_spelling fact.Hdf5 = false
is_of_spelling (fact.Hdf5Truncated file_len end) = false
is_of_spelling fact.Gzip = false
is_of_spelling fact.EmptyFile = false
is_of_spelling fact.NameCharacters = false
is_of_spelling fact.LargeCount = false
is_of_spelling fact.EmptyList = true
is_of_spelling fact.LongName = false
is_of_spelling (fact.DuplicateName first) = false
is_of_spelling fact.NotNfc = false
is_of_spelling fact.Padding = true
is_of_spelling fact.EmptyAttribute = false
is_of_spelling fact.TrailingNul = false
is_of_spelling (fact.FillType code) = false
is_of_spelling fact.FillCount = false
is_of_spelling fact.HighRank = false
is_of_spelling (fact.Vsize expected) = true
is_of_spelling (fact.OddVsize expected) = true
is_of_spelling (fact.Layout fact) = false

-- one of the findings is a fact of this kind
abbrev pub has_any : (Fact → Bool) → List Finding → Bool
has_any kind findings = list_any (λ (f : Finding). kind f.fact) findings

abbrev pub QuietSpellingsAreCanonical : Type 0
QuietSpellingsAreCanonical = (bytes : Bytes) (r : Report) (h : Header) (rest : Bytes) → AreBytes bytes → IsReport bytes r
    → SpellsHeader bytes h rest → has_any is_of_spelling r.findings ≡ false → bytes ≡ header_spelling h ++ rest

-- and nothing is found about the spelling of a header that is spelled so
abbrev pub CanonicalSpellingsAreQuiet : Type 0
CanonicalSpellingsAreQuiet = (bytes : Bytes) (r : Report) (h : Header) (rest : Bytes) → IsReport bytes r → SpellsHeader bytes h rest
    → bytes ≡ header_spelling h ++ rest → has_any is_of_spelling r.findings ≡ false

-- if no fault and nothing about the spelling is found, then the file begins with the one spelling of its header
abbrev pub QuietHeadersAreCanonical : Type 0
QuietHeadersAreCanonical = (bytes : Bytes) (r : Report) → AreBytes bytes → IsReport bytes r → HasNoFault r
    → has_any is_of_spelling r.findings ≡ false
    → (h : Header) × (rest : Bytes) × SpellsHeader bytes h rest × (bytes ≡ header_spelling h ++ rest)

-- a fact about the layout that is of this kind
abbrev pub is_of_layout : (LayoutFact → Bool) → Fact → Bool
is_of_layout kind (fact.Layout fact) = kind fact
is_of_layout kind fact = false

-- nothing is found at begins and at the end of the file
pub record HasQuietLayout (r : Report) : Type 0 where
  pub begins : has_any (is_of_layout is_of_begin) r.findings ≡ false
  pub end : has_any (is_of_layout is_of_end) r.findings ≡ false

-- Each variable of the header begins where it does in a generated file. If the number of records is known, then the file that is generated
-- from the header without begins, and from any arrays of these sizes, has this very header, and the length of a file of these bytes.
pub record IsAsGenerated (bytes : Bytes) (h : Header) : Type 0 where
  pub begins : with_begins h ≡ h
  pub files : (n : ℕ) (arrays : List Bytes) → h.numrecs ≡ Known n → AreArrays h.dims n h.vars arrays
      → (with_begins (bare h n) ≡ h) × (length bytes ≡ length (file_of (record { header = bare h n; arrays = arrays })))

-- if no fault is found, and nothing about the spelling, at begins and at the end of the file, then the file begins with the one spelling of
-- its header, which is that of a generated file, and has the length of one
abbrev pub QuietFilesAreCanonical : Type 0
QuietFilesAreCanonical = (bytes : Bytes) (r : Report) → AreBytes bytes → IsReport bytes r → HasNoFault r
    → has_any is_of_spelling r.findings ≡ false → HasQuietLayout r
    → (h : Header) × (rest : Bytes) × SpellsHeader bytes h rest × (bytes ≡ header_spelling h ++ rest) × IsAsGenerated bytes h

-- a file of which something of this kind is found isn't dumped to its end: the strict rules refuse the header, or a value isn't in the file
abbrev pub stops_dump : Kind → Bool
stops_dump NotNetcdf = true
stops_dump Hdf5 = true
stops_dump Hdf5Truncated = true
stops_dump Gzip = true
stops_dump EmptyFile = true
stops_dump UnknownVersion = true
stops_dump HeaderTruncated = true
stops_dump BadTag = true
stops_dump BadCount = true
stops_dump BadName = true
stops_dump NameCharacters = true
stops_dump FloatingType = true
stops_dump BadType = true
stops_dump BadShape = true
stops_dump TwoRecordDims = true
stops_dump TooLarge = true
stops_dump BadOffset = true
stops_dump LargeCount = true
stops_dump Missing = true
stops_dump kind = false

-- no finding has a kind that stops a dump
abbrev pub FindsWholeFile : Report → Type 0
FindsWholeFile r = All (λ (f : Finding). stops_dump (kind_of f.fact) ≡ false) r.findings

-- a dump without `-h`, `-c` and `-v`, which shows the values of all variables
pub record ShowsAllValues (o : Options) : Type 0 where
  pub not_head_only : o.head_only ≡ false
  pub not_coords : o.coords ≡ false
  pub not_chosen : o.chosen ≡ None

-- no finding of a file's report has a kind that stops a dump exactly if the dump of all values is whole
abbrev pub WholeReportsAreDumped : Type 0
WholeReportsAreDumped = (bytes : Bytes) (r : Report) (o : Options) (text : Bytes) (ending : Ending) → IsReport bytes r → ShowsAllValues o
    → IsDump bytes o text ending → FindsWholeFile r ↔ (ending ≡ whole)

-- and exactly if the file holds a dataset
abbrev pub WholeFilesHoldDatasets : Type 0
WholeFilesHoldDatasets = (bytes : Bytes) (r : Report) → IsReport bytes r → FindsWholeFile r ↔ ((d : Dataset) × HoldsDataset bytes d)

-- the dump ends at a missing value
abbrev pub is_truncated : Ending → Bool
is_truncated (data_truncated variable value) = true
is_truncated ending = false

-- in a file that begins with a header, values are found to be missing exactly if the dump of all values ends at a missing value
abbrev pub MissingValuesStopDumps : Type 0
MissingValuesStopDumps = (bytes : Bytes) (r : Report) (h : Header) (rest : Bytes) (o : Options) (text : Bytes) (ending : Ending)
    → IsReport bytes r → SpellsHeader bytes h rest → ShowsAllValues o → IsDump bytes o text ending → finds_missing r ≡ is_truncated ending

-- and so it is in the file of each good dataset that fits
abbrev pub GeneratedFilesAreFoundWhole : Type 0
GeneratedFilesAreFoundWhole = (d : Dataset) (r : Report) → IsGood d → Fits d.header → IsReport (file_of d) r → FindsWholeFile r

-- nor is anything found at begins and at the end of such a file
abbrev pub GeneratedFilesHaveQuietLayouts : Type 0
GeneratedFilesHaveQuietLayouts = (d : Dataset) (r : Report) → IsGood d → Fits d.header → IsReport (file_of d) r → HasQuietLayout r

-- nor about the spelling of its header
abbrev pub GeneratedFilesHaveQuietSpellings : Type 0
GeneratedFilesHaveQuietSpellings = (d : Dataset) (r : Report) → IsGood d → Fits d.header → IsReport (file_of d) r
    → has_any is_of_spelling r.findings ≡ false
