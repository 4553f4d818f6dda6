-- Definition. What is said of what is found, and of what is expected in its place: the message of each fact.
use Rattle.std.specs.Prelude.{ℕ, ◌-◌, ◌^◌, ◌==◌, ◌&&◌, Bool, true, false, nat_lt, if◌then◌else◌, List, length, codes, Option, Some, None, Result, slice_get}
use Rattle.std.specs.Option.{option_map_or}
use Rattle.nc_types.specs.Bytes.{Bytes}
use Rattle.nc_base.specs.declared.{fault.FormatFault.FormatFault, header.Header.Header}
use Rattle.nc_base.specs.declared.fault.FormatFault.TheVariants as fault
use Rattle.nc_base.specs.Grammar.{attribute_tag, dimension_tag, variable_tag}
use Rattle.nc_findings.specs.declared.{listing.Listing.Listing, place.Owner.Owner, place.FieldKind.FieldKind, entry.Content.Content, entry.Entry.Entry}
use Rattle.nc_findings.specs.declared.place.Owner.TheVariants as owner
use Rattle.nc_findings.specs.declared.place.FieldKind.TheVariants as field
use Rattle.nc_findings.specs.declared.entry.Content.TheVariants as content
use Rattle.nc_findings.specs.Contents.{number_of}
use Rattle.nc_findings.specs.declared.layout_fact.Block.TheVariants as block
use Rattle.nc_findings.specs.declared.layout_fact.LayoutFact.{LayoutFact}
use Rattle.nc_findings.specs.declared.layout_fact.LayoutFact.TheVariants as layout
use Rattle.nc_findings.specs.declared.finding.Fact.{Fact}
use Rattle.nc_findings.specs.declared.finding.Fact.TheVariants as fact
use Rattle.nc_findings.specs.Limits.{highest_rank, large_count, longest_name}
use Rattle.check_lines.specs.declared.message.Part.TheVariants.{Number, Long, TypeCode, FieldContent, FieldType, FieldZeros, OfBlock}
use Rattle.check_lines.specs.Messages.{Message, nothing, found, instead, Said, words, with, with_both}

-- a number alone
abbrev pub number : ℕ → Said
number n = with (codes "_") (Number n)

-- the content of the field alone
abbrev pub field_content : Said
field_content = with (codes "_") FieldContent

-- ---- fields at which reading stops

-- the number that is the content of the field of this index, or 0
abbrev pub number_of_field : List Entry → ℕ → ℕ
number_of_field entries i = option_map_or (λ (e : Entry). number_of e.content) (slice_get entries i) 0

-- the greatest type code of the version, which the second field of a header has
abbrev pub last_type : List Entry → ℕ
last_type entries = if number_of_field entries 1 == 5 then 11 else 6

-- the tag of a list with elements
abbrev pub tag_of : FieldKind → ℕ
tag_of field.DimsTag = dimension_tag
tag_of field.VarsTag = variable_tag
tag_of field = attribute_tag

-- the numbers of this many bytes whose top bit is 0 are below this
abbrev pub top_bit_limit : ℕ → ℕ
top_bit_limit size = if size == 8 then 2 ^ 63 else 2 ^ 31

-- a field of this kind is the number of a list's elements
abbrev pub is_list_count : FieldKind → Bool
is_list_count field.DimsCount = true
is_list_count field.GlobalAttsCount = true
is_list_count field.VarsCount = true
is_list_count field.AttsCount = true
is_list_count field = false

-- the field of this kind, at which reading stops, is the number of a list's elements, and the tag before it is 0
abbrev pub is_after_zero_tag : List Entry → FieldKind → Bool
is_after_zero_tag entries field = is_list_count field && (number_of_field entries (length entries - 2) == 0)

abbrev pub fault_message : Listing → Entry → FormatFault → Message
fault_message l e fault.NotNetcdf = instead field_content (words (codes "0x434446"))
fault_message l e (fault.UnknownVersion version) = instead field_content (words (codes "1, 2 or 5"))
fault_message l e fault.HeaderTruncated = instead (number (l.file_len - e.offset)) (with (codes "_ bytes") (Long e.size))
fault_message l e fault.BadTag = instead field_content (with (codes "0 or _") (Number (tag_of e.place.field)))
fault_message l e fault.BadCount =
    if is_after_zero_tag l.entries e.place.field then instead field_content (words (codes "0"))
    else instead field_content (with (codes "below _") (Number (top_bit_limit e.size)))
fault_message l e fault.BadName = nothing
fault_message l e fault.FloatingType = found (with (codes "_") FieldType)
fault_message l e fault.BadType = instead (with (codes "_") FieldType) (with (codes "1 to _") (Number (last_type l.entries)))
-- a dimension id may be wrong only since it is that of the record dimension; the fifth field of a header is the number of dimensions
fault_message l e fault.BadShape =
    if nat_lt (number_of e.content) (number_of_field l.entries 4)
    then instead field_content (words (codes "no record dimension here"))
    else instead field_content (with (codes "below _") (Number (number_of_field l.entries 4)))
fault_message l e fault.TwoRecordDims = instead field_content (words (codes "at least 1"))
fault_message l e fault.BadOffset = instead field_content (with (codes "below _") (Number (top_bit_limit e.size)))
fault_message l e fault.TooLarge = nothing

-- ---- the layout

abbrev pub layout_message : LayoutFact → Message
layout_message (layout.Streaming n) = found (with (codes "the streaming mark, for _") (Number n))
layout_message (layout.UnusedRecords n) = instead (number n) (words (codes "0"))
layout_message (layout.LargeVariable var n limit) =
    instead (with (codes "a slab of _ bytes") (Number n)) (with (codes "at most _") (Number limit))
layout_message (layout.BeginInHeader n end) = instead (number n) (with (codes "at least _, the end of the header") (Number end))
layout_message (layout.Overlap n end of) = instead (number n) (with_both (codes "at least _, the end of _") (Long end) (OfBlock of))
layout_message (layout.Unpadded n end of) =
    instead (number n) (with_both (codes "at least _, the padded end of _") (Long end) (OfBlock of))
layout_message (layout.Order n least of) =
    instead (number n) (with_both (codes "at least _, the begin of _") (Number least) (OfBlock (block.Var of)))
layout_message (layout.AfterRecords n most) = instead (number n) (with (codes "at most _, the begin of the records") (Number most))
layout_message (layout.RecordPlace n place) = instead (number n) (number place)
layout_message (layout.Gap n of) = found (with_both (codes "_ unused bytes before _") (Number n) (OfBlock of))
layout_message (layout.Missing n end of) = instead (with (codes "_ bytes") (Number n)) (with (codes "at least _") (Long end))
layout_message (layout.EndPadding n end) = instead (with (codes "_ bytes") (Number n)) (with (codes "_") (Long end))
layout_message (layout.Trailing n end None) = instead (with (codes "_ bytes") (Number n)) (number end)
layout_message (layout.Trailing n end (Some records)) =
    instead (with (codes "_ bytes") (Number n)) (with_both (codes "_, or numrecs _") (Number end) (Number records))

-- ---- fields

-- the number of the dimension, attribute or variable
abbrev pub owner_number : Owner → ℕ
owner_number owner.Header = 0
owner_number (owner.Dim i) = i
owner_number (owner.GlobalAtt i) = i
owner_number (owner.Var i) = i
owner_number (owner.VarAtt i k) = k

-- the number of what the field of this index belongs to
abbrev pub owner_number_at : List Entry → ℕ → ℕ
owner_number_at entries i = option_map_or (λ (e : Entry). owner_number e.place.owner) (slice_get entries i) 0

-- of a fact in the data: about the layout, or that an HDF5 file of n bytes ends too early
abbrev pub data_message : Fact → Message
data_message (fact.Layout x) = layout_message x
data_message (fact.Hdf5Truncated n end) = instead (with (codes "_ bytes") (Number n)) (with (codes "at least _") (Number end))
data_message x = nothing

abbrev pub field_message : Listing → Entry → Fact → Message
field_message l e (fact.Fault fault) = fault_message l e fault
field_message l e fact.Hdf5 = found (words (codes "0x894844460d0a1a0a"))
field_message l e (fact.Hdf5Truncated n end) = data_message (fact.Hdf5Truncated n end)
field_message l e fact.Gzip = found (words (codes "0x1f8b"))
field_message l e fact.EmptyFile = found (words (codes "0 bytes"))
field_message l e fact.NameCharacters = nothing
field_message l e fact.LargeCount = instead field_content (with (codes "below _") (Number large_count))
field_message l e fact.EmptyList = instead field_content (words (codes "0"))
field_message l e fact.LongName = instead field_content (with (codes "at most _") (Number longest_name))
field_message l e (fact.DuplicateName first) = found (with (codes "the name of number _") (Number (owner_number_at l.entries first)))
field_message l e fact.NotNfc = nothing
field_message l e fact.Padding = instead field_content (with (codes "_") FieldZeros)
field_message l e fact.EmptyAttribute = instead field_content (words (codes "at least 1"))
field_message l e fact.TrailingNul = nothing
field_message l e (fact.FillType code) = instead (with (codes "_") FieldType) (with (codes "_, the variable's type") (TypeCode code))
field_message l e fact.FillCount = instead field_content (words (codes "1"))
field_message l e fact.HighRank = instead field_content (with (codes "at most _") (Number highest_rank))
field_message l e (fact.Vsize size) = instead field_content (number size)
field_message l e (fact.OddVsize size) = instead field_content (number size)
field_message l e (fact.Layout x) = layout_message x

-- what is found, or expected, of a fact at a field, or in the data
unfoldable pub details : (Result Header FormatFault → Content → Message → Option Bytes) → Listing → Option Entry → Fact → Option Bytes
details text l (Some e) x = text l.header e.content (field_message l e x)
details text l None x = text l.header content.Cut (data_message x)
