-- For contracts. Findings that need a whole header.
use Rattle.std.specs.Prelude.{◌≡◌, List, map, slice_get, Option, Some, None, option_map, Ok, Err}
use Rattle.std.specs.Option.{option_to_list}
use Rattle.nc_types.specs.declared.version.Version.{Version}
use Rattle.nc_findings.specs.declared.{listing.Listing.Listing, layout_fact.LayoutFinding.LayoutFinding, finding.Fact.Fact, finding.Finding.Finding}
use Rattle.nc_findings.specs.Contents.{number_of}
use Rattle.nc_layout.specs.declared.{slot.FileLayout.FileLayout, slot.Slot.Slot}
use Rattle.nc_findings.specs.declared.layout_fact.LayoutPlace.TheVariants as places
use Rattle.nc_layout.specs.Blocks.{each_slot}
use Rattle.nc_layout.specs.Findings.{IsSoundLayout}
use Rattle.nc_layout.specs.HeaderLayout.{layout_of}
use Rattle.nc_rules.specs.declared.{ahead.NumberField.NumberField, number_fields.NumberFields.NumberFields}
use Rattle.nc_findings.specs.declared.finding.Fact.TheVariants as fact
use Rattle.nc_rules.specs.Indexed.{Indexed, finding_at}
use Rattle.nc_rules.specs.WholeHeader.{is_numrecs, is_vsize, is_begin, named, vsize_fact}

-- what is kept of a field that is a number
abbrev pub number_field : Indexed → NumberField
number_field f = record { index = f.index; offset = f.entry.offset; number = number_of f.entry.content }

-- the number of records, the sizes and the begins of these fields
pub record HoldsNumbers (fields : List Indexed) (ns : NumberFields) : Type 0 where
  pub numrecs : ns.numrecs ≡ map number_field (named is_numrecs fields)
  pub vsizes : ns.vsizes ≡ map number_field (named is_vsize fields)
  pub begins : ns.begins ≡ map number_field (named is_begin fields)

-- the fact is found at the field, if there is one
abbrev pub found_at_number : Option NumberField → Fact → Finding
found_at_number (Some f) fact = finding_at f.index f.offset fact
found_at_number None fact = record { offset = 0; field = None; fact = fact }

-- a finding about the layout, at its field
abbrev pub located_number : NumberFields → LayoutFinding → Finding
located_number ns l = elim l.place [
  | places.NumRecs ↦ found_at_number (slice_get ns.numrecs 0) (fact.Layout l.fact)
  | places.Vsize i ↦ found_at_number (slice_get ns.vsizes i) (fact.Layout l.fact)
  | places.Begin i ↦ found_at_number (slice_get ns.begins i) (fact.Layout l.fact)
  | places.Data offset ↦ record { offset = offset; field = None; fact = fact.Layout l.fact }
]

-- what is found of the size of a variable
abbrev pub vsize_finding_at : Version → Slot → Option NumberField → Option Finding
vsize_finding_at v slot None = None
vsize_finding_at v slot (Some f) = option_map (finding_at f.index f.offset) (vsize_fact v slot f.number)

-- what is found of the sizes of all variables, whose fields these are
abbrev pub vsize_findings_at : FileLayout → List NumberField → List Finding
vsize_findings_at layout ns = each_slot (λ i slot. option_to_list (vsize_finding_at layout.version slot (slice_get ns i))) 0 layout.slots

-- the layout is sound (within the limits), if the header is whole: no field is wrong
abbrev pub HasSoundLayout : Listing → Type 0
HasSoundLayout l = elim l.header [ Ok h ↦ IsSoundLayout (layout_of h l.end l.file_len) | Err fault ↦ Unit {0} ]
