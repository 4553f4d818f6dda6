-- Definition. Findings that need a whole header: the sizes of its variables, and the layout of the file. And of a file without one: that it
-- is one of HDF5, and too short.
use Rattle.std.specs.Prelude.{ℕ, ◌==◌, ◌||◌, Bool, true, false, not, if◌then◌else◌, List, ◌++◌, filter, map, slice_get, Option, Some, None, option_map, Ok, Err}
use Rattle.std.specs.Option.{option_to_list}
use Rattle.nc_types.specs.declared.{version.Version.Version}
use Rattle.nc_types.specs.Versions.{vsize_of}
use Rattle.nc_findings.specs.declared.{listing.Listing.Listing, place.FieldKind.FieldKind, layout_fact.LayoutFinding.LayoutFinding, finding.Fact.Fact, finding.Finding.Finding}
use Rattle.nc_findings.specs.declared.place.FieldKind.TheVariants as field
use Rattle.nc_findings.specs.Contents.{number_of}
use Rattle.nc_layout.specs.declared.{slot.FileLayout.FileLayout, slot.Slot.Slot}
use Rattle.nc_findings.specs.declared.layout_fact.LayoutPlace.TheVariants as places
use Rattle.nc_layout.specs.Slots.{padded_slab_len}
use Rattle.nc_layout.specs.Blocks.{each_slot}
use Rattle.nc_layout.specs.Findings.{layout_findings}
use Rattle.nc_layout.specs.HeaderLayout.{layout_of}
use Rattle.nc_findings.specs.declared.finding.Fact.TheVariants as fact
use Rattle.nc_rules.specs.Indexed.{Indexed, indexed, finding}
use Rattle.nc_rules.specs.Superblocks.{hdf5_truncated}

-- ---- the fields that these findings lie at

abbrev pub is_numrecs : FieldKind → Bool
is_numrecs field.NumRecs = true
is_numrecs field = false

abbrev pub is_vsize : FieldKind → Bool
is_vsize field.Vsize = true
is_vsize field = false

abbrev pub is_begin : FieldKind → Bool
is_begin field.Begin = true
is_begin field = false

-- the fields whose kind passes the test
abbrev pub named : (FieldKind → Bool) → List Indexed → List Indexed
named test fields = filter (λ (f : Indexed). test f.entry.place.field) fields

-- ---- sizes

-- What is wrong or odd about this size of a variable (`vsize`), if it isn't the one that is written: odd is that of the slab without padding,
-- 0, and any if the padded slab doesn't fit the field. Any other contradicts the variable's type and shape.
abbrev pub vsize_fact : Version → Slot → ℕ → Option Fact
vsize_fact v slot found =
    let expected = vsize_of v (padded_slab_len slot) in
    if found == expected then None
    else if (found == slot.slab) || (found == 0) || not (expected == padded_slab_len slot) then Some (fact.OddVsize expected)
    else Some (fact.Vsize expected)

-- at its field, which a whole header has
abbrev pub vsize_finding : Version → Slot → Option Indexed → Option Finding
vsize_finding v slot None = None
vsize_finding v slot (Some f) = option_map (finding f) (vsize_fact v slot (number_of f.entry.content))

unfoldable pub vsize_findings : FileLayout → List Indexed → List Finding
vsize_findings layout fields = each_slot (λ i slot. option_to_list (vsize_finding layout.version slot (slice_get (named is_vsize fields) i))) 0 layout.slots

-- ---- the layout

-- the fact is found at the field (a whole header has it)
abbrev pub found_at : Option Indexed → Fact → Finding
found_at (Some f) fact = finding f fact
found_at None fact = record { offset = 0; field = None; fact = fact }

-- a finding about the layout, at its field
abbrev pub located : List Indexed → LayoutFinding → Finding
located fields l = elim l.place [
  | places.NumRecs ↦ found_at (slice_get (named is_numrecs fields) 0) (fact.Layout l.fact)
  | places.Vsize i ↦ found_at (slice_get (named is_vsize fields) i) (fact.Layout l.fact)
  | places.Begin i ↦ found_at (slice_get (named is_begin fields) i) (fact.Layout l.fact)
  | places.Data offset ↦ record { offset = offset; field = None; fact = fact.Layout l.fact }
]

-- ---- all of them

-- in a file with this layout, whose header has these fields
abbrev pub layout_facts : FileLayout → List Indexed → List Finding
layout_facts layout fields = vsize_findings layout fields ++ map (located fields) (layout_findings layout)

unfoldable pub whole_findings : Listing → List Finding
whole_findings l = elim l.header [
  | Ok h ↦ layout_facts (layout_of h l.end l.file_len) (indexed l.entries)
  | Err fault ↦ option_to_list (hdf5_truncated l.start l.file_len)
]
