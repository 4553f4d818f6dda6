-- Definition. What is told of a finding; its line, `FILE:OFFSET: SEVERITY: KIND: PATH`, with `: found F, expected E` where its kind has
-- them; and the lines of a report.
use Rattle.std.specs.Prelude.{ℕ, ◌+◌, ◌&&◌, not, Bool, true, false, if◌then◌else◌, List, [], ◌∷◌, codes, decimal, take, Option, Some, None, slice_get}
use Rattle.std.specs.List.{list_any}
use Rattle.std.specs.Option.{option_and_then}
use Rattle.nc_types.specs.Bytes.{Bytes, concat_parts}
use Rattle.nc_findings.specs.declared.{listing.Listing.Listing, entry.Entry.Entry, filter.Filter.Filter, finding.Fact.Fact, finding.Finding.Finding, kind.Kind.Kind, kind.Severity.Severity}
use Rattle.nc_findings.specs.contracts.kind.KindPartialEq.TheImpl as equal
use Rattle.nc_findings.specs.declared.layout_fact.LayoutFact.TheVariants as layout
use Rattle.nc_findings.specs.Kinds.{kind_of, kind_word, severity_of, severity_word}
use Rattle.nc_findings.specs.declared.finding.Fact.TheVariants as fact
use Rattle.nc_findings.specs.declared.kind.Severity.TheVariants.{Error, Violation, Note}
use Rattle.check_lines.specs.Details.{details}
use Rattle.check_lines.specs.Messages.{expected_text, found_text}
use Rattle.check_lines.specs.Paths.{KnownNames, field_path, names_after, no_names, slab_path, var_path}
use Rattle.check_lines.specs.Shown.{each_of, shown_path}

-- at a variable whose slab is too large, or at a field, with the names that are known there, or in the data: at a slab that isn't whole, or
-- anywhere
unfoldable pub path : Listing → KnownNames → Option Entry → Fact → Bytes
path l names (Some e) (fact.Layout (layout.LargeVariable var n limit)) = var_path l.header var
path l names (Some e) x = field_path names e.place
path l names None (fact.Layout (layout.Missing n end of)) = slab_path l.header of
path l names None x = codes "data"

-- the field at which it is found
abbrev pub entry_of : Listing → Finding → Option Entry
entry_of l f = option_and_then (slice_get l.entries) f.field

-- what is told of a finding in the file of this path: its line says it, and its JSON object has it in members, so that these tell the line
pub record Told : Type 0 where
  pub file : Bytes
  pub offset : ℕ
  pub kind : Kind
  pub path : Bytes
  -- what is found, and what is expected in its place, if the finding says it
  pub found : Option Bytes
  pub expected : Option Bytes

-- with these names as the known ones
abbrev pub told_with : Bytes → Listing → KnownNames → Finding → Told
told_with file l names f = record {
  file = file;
  offset = f.offset;
  kind = kind_of f.fact;
  path = path l names (entry_of l f) f.fact;
  found = details found_text l (entry_of l f) f.fact;
  expected = details expected_text l (entry_of l f) f.fact;
}

-- the names that are known after the fields up to and including this one; in the data, none
abbrev pub names_at : List Entry → Option ℕ → KnownNames
names_at entries (Some i) = names_after (take (i + 1) entries)
names_at entries None = no_names

abbrev pub told : Bytes → Listing → Finding → Told
told file l f = told_with file l (names_at l.entries f.field) f

-- ---- lines

-- the file and the offset
unfoldable pub position_text : Bytes → ℕ → Bytes
position_text file offset = concat_parts (shown_path file ∷ codes ":" ∷ decimal offset ∷ codes ": " ∷ [])

-- the severity and the kind
unfoldable pub kind_text : Kind → Bytes
kind_text kind = concat_parts (severity_word (severity_of kind) ∷ codes ": " ∷ kind_word kind ∷ codes ": " ∷ [])

-- a word and a text, if there is one
abbrev pub after : Bytes → Option Bytes → Bytes
after word None = []
after word (Some text) = concat_parts (word ∷ text ∷ [])

-- the line of what is told
unfoldable pub line_text : Told → Bytes
line_text t = concat_parts (
    position_text t.file t.offset ∷ kind_text t.kind ∷ t.path ∷ after (codes ": found ") t.found ∷ after (codes ", expected ") t.expected
    ∷ codes "\n" ∷ [])

abbrev pub line : Bytes → Listing → Finding → Bytes
line file l f = line_text (told file l f)

-- ---- reports

-- a severity is reported at a level, the least that is
abbrev pub is_at_level : Severity → Severity → Bool
is_at_level Note severity = true
is_at_level Violation Note = false
is_at_level Violation severity = true
is_at_level Error Error = true
is_at_level Error severity = false

-- one of these kinds is that of the finding
abbrev pub is_of_kind : List Kind → Finding → Bool
is_of_kind kinds f = list_any (λ kind. equal.ghosts.eq kind (kind_of f.fact)) kinds

-- it is grave enough for the filter, and of no kind that it ignores
abbrev pub is_reported : Filter → Finding → Bool
is_reported filter f = is_at_level filter.level (severity_of (kind_of f.fact)) && not (is_of_kind filter.ignored f)

-- the text that a finding has, if it is reported
abbrev pub if_reported : (Finding → Bytes) → Filter → Finding → Bytes
if_reported text filter f = if is_reported filter f then text f else []

-- the lines of these findings
abbrev pub lines : Filter → Bytes → Listing → List Finding → Bytes
lines filter file l findings = each_of (if_reported (line file l) filter) findings

-- one of them is reported, and is of this severity or a graver one
abbrev pub has_reported : Filter → Severity → List Finding → Bool
has_reported filter severity findings =
    list_any (λ (f : Finding). is_reported filter f && is_at_level severity (severity_of (kind_of f.fact))) findings

-- the gravest severity of those that are reported
abbrev pub gravest : Filter → List Finding → Option Severity
gravest filter findings =
    if has_reported filter Error findings then Some Error
    else if has_reported filter Violation findings then Some Violation
    else if has_reported filter Note findings then Some Note
    else None
