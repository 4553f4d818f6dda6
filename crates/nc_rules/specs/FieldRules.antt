-- Definition. Findings at a field alone: its fault, or, if it has none, what its content shows.
use Rattle.std.specs.Prelude.{ℕ, not, nat_lt, ◌==◌, ◌-◌, ◌^◌, ◌&&◌, ◌||◌, Bool, false, if◌then◌else◌, List, [], ◌∷◌, ◌++◌, length, map, take, flat_map, find, Option, Some, None, chars}
use Rattle.std.specs.Bool.{then_some}
use Rattle.std.specs.List.{list_any}
use Rattle.std.specs.Str.{bytes_eq, is_utf8}
use Rattle.std.specs.Option.{option_to_list, option_map}
use Rattle.unicode_normalization.specs.Forms.{is_nfc}
use Rattle.nc_base.specs.declared.fault.FormatFault.{FormatFault}
use Rattle.nc_base.specs.declared.fault.FormatFault.TheVariants.{NotNetcdf, FloatingType}
use Rattle.nc_types.specs.Bytes.{Bytes}
use Rattle.nc_types.specs.Names.{is_name}
use Rattle.nc_findings.specs.declared.{entry.Content.Content, entry.Entry.Entry, place.FieldKind.FieldKind, finding.Fact.Fact, finding.Finding.Finding}
use Rattle.nc_findings.specs.declared.entry.Content.TheVariants as content
use Rattle.nc_findings.specs.declared.place.FieldKind.TheVariants as field
use Rattle.nc_findings.specs.declared.finding.Fact.TheVariants.{Fault, Hdf5, Gzip, EmptyFile, NameCharacters, LargeCount, LongName, NotNfc, Padding, HighRank}
use Rattle.nc_findings.specs.Limits.{highest_rank, large_count, longest_name}
use Rattle.nc_rules.specs.Indexed.{Indexed, finding}
use Rattle.nc_rules.specs.Superblocks.{is_hdf5}

-- ---- fields without a fault

-- a number of this many bytes has four, and its top bit is 1
abbrev pub is_large_count : ℕ → ℕ → Bool
is_large_count size n = (size == 4) && not (nat_lt n large_count)

-- the same, but that the number of records is the streaming mark if all of its bits are 1
abbrev pub is_large_numrecs : ℕ → ℕ → Bool
is_large_numrecs size n = is_large_count size n && not (n == 2 ^ 32 - 1)

-- of a number of this many bytes
abbrev pub number_fact : FieldKind → ℕ → ℕ → Option Fact
number_fact field.NumRecs size n = then_some (is_large_numrecs size n) LargeCount
number_fact field.Length size n = then_some (is_large_count size n) LargeCount
number_fact field.NameLength size n = then_some (nat_lt longest_name n) LongName
number_fact field.Rank size n = then_some (nat_lt highest_rank n) HighRank
number_fact place size n = None

-- a byte isn't 0
abbrev pub has_nonzero : Bytes → Bool
has_nonzero bytes = list_any (λ b. not (b == 0)) bytes

-- Of bytes. A name is one that the NetCDF Classic Format Specification allows (`name`), and what fills a name or an attribute up is zeros
-- (`padding`).
abbrev pub bytes_fact : FieldKind → Bytes → Option Fact
bytes_fact field.Name bytes = then_some (not (is_name bytes)) NameCharacters
bytes_fact field.NamePadding bytes = then_some (has_nonzero bytes) Padding
bytes_fact field.Padding bytes = then_some (has_nonzero bytes) Padding
bytes_fact place bytes = None

-- the bytes are the UTF-8 of a text that isn't in normal form NFC
abbrev pub is_not_nfc : Bytes → Bool
is_not_nfc bytes = is_utf8 bytes && not (is_nfc (chars bytes))

-- of the characters of a name. (The NetCDF Classic Format Specification wants names in normal form NFC.)
abbrev pub form_fact : FieldKind → Bytes → Option Fact
form_fact field.Name bytes = then_some (is_not_nfc bytes) NotNfc
form_fact place bytes = None

-- what is odd in a content of this many bytes, as a field of this kind
abbrev pub content_facts : FieldKind → ℕ → Content → List Fact
content_facts place size (content.Number n) = option_to_list (number_fact place size n)
content_facts place size (content.Bytes bytes) = option_to_list (bytes_fact place bytes) ++ option_to_list (form_fact place bytes)
content_facts place size other = []

-- ---- fields with a fault

-- the first bytes of a file that gzip has packed
abbrev pub gzip_signature : Bytes
gzip_signature = 0x1f ∷ 0x8b ∷ []

-- of a file that doesn't begin with `CDF`, by its start
abbrev pub magic_fact : Bytes → Fact
magic_fact start =
    if is_hdf5 start then Hdf5
    else if bytes_eq gzip_signature (take 2 start) then Gzip
    else if length start == 0 then EmptyFile
    else Fault NotNetcdf

-- of a field with this fault, in a file with this start
abbrev pub fault_fact : Bytes → FormatFault → Fact
fault_fact start NotNetcdf = magic_fact start
fault_fact start fault = Fault fault

-- ---- all fields

-- the facts of a field with this fault, or without one
abbrev pub facts_with : Bytes → Option FormatFault → FieldKind → ℕ → Content → List Fact
facts_with start (Some fault) place size c = fault_fact start fault ∷ []
facts_with start None place size c = content_facts place size c

abbrev pub facts_of : Bytes → Entry → List Fact
facts_of start entry = facts_with start entry.fault entry.place.field entry.size entry.content

abbrev pub findings_at : Bytes → Indexed → List Finding
findings_at start f = map (finding f) (facts_of start f.entry)

-- all findings at fields alone, in a file with this start
unfoldable pub field_findings : Bytes → List Indexed → List Finding
field_findings start fields = flat_map (findings_at start) fields

-- ---- floating types

-- a type code is that of float, 5, or double, 6
abbrev pub is_floating_in : FieldKind → Content → Bool
is_floating_in field.Type (content.Number code) = (code == 5) || (code == 6)
is_floating_in place c = false

abbrev pub is_floating : Indexed → Bool
is_floating f = is_floating_in f.entry.place.field f.entry.content

-- the first floating type
abbrev pub floating_finding : List Indexed → Option Finding
floating_finding fields = option_map (λ f. finding f (Fault FloatingType)) (find is_floating fields)

-- (A file may have hundreds. One is enough to say that the programs that read values stop there.)
unfoldable pub floating_findings : List Indexed → List Finding
floating_findings fields = option_to_list (floating_finding fields)
