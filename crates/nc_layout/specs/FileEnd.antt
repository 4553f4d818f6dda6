-- Definition. Findings at the end of the file: it ends before the values do, before their padding does, or after both. (The NetCDF Classic
-- Format Specification pads each slab but those of a sole record variable of narrow values, and nothing follows the data.)
use Rattle.std.specs.Prelude.{ℕ, Bool, ◌+◌, ◌-◌, ◌*◌, ◌==◌, max, nat_lt, nat_le, ◌&&◌, if◌then◌else◌, List, [], ◌∷◌, ◌++◌, filter, map, fold, Option, Some, None}
use Rattle.std.specs.List.{range_with_len}
use Rattle.std.specs.Option.{option_to_list, option_and_then}
use Rattle.nc_types.specs.Bytes.{padding_len}
use Rattle.nc_base.specs.declared.header.NumRecs.{NumRecs}
use Rattle.nc_base.specs.declared.header.NumRecs.TheVariants.{Known, Streaming}
use Rattle.nc_layout.specs.declared.{slot.Slot.Slot, slot.FileLayout.FileLayout, blocks.Extent.Extent, file_end.SlabPlace.SlabPlace}
use Rattle.nc_findings.specs.declared.{layout_fact.LayoutFinding.LayoutFinding}
use Rattle.nc_findings.specs.declared.layout_fact.Slab.TheVariants as slabs
use Rattle.nc_findings.specs.declared.layout_fact.LayoutPlace.TheVariants as places
use Rattle.nc_findings.specs.declared.layout_fact.LayoutFact.TheVariants as facts
use Rattle.nc_layout.specs.Slots.{record_size, records_by_length, record_count}
use Rattle.nc_layout.specs.Blocks.{each_slot, blocks, has_values}
use Rattle.nc_layout.specs.FindingIf.{finding_if}

-- ---- ends

-- the greatest end of the blocks that aren't empty, or the end of the header
abbrev pub values_end : FileLayout → ℕ
values_end layout = fold max layout.header_end (map (λ (b : Extent). b.end) (filter has_values (blocks layout)))

-- the same with the padding of the blocks
abbrev pub padding_end : FileLayout → ℕ
padding_end layout = fold max layout.header_end (map (λ (b : Extent). b.padded_end) (filter has_values (blocks layout)))

-- the same with the empty block of no records, which ends where records would begin
abbrev pub used_end : FileLayout → ℕ
used_end layout = fold max layout.header_end (map (λ (b : Extent). b.padded_end) (blocks layout))

-- ---- slabs

-- the slab of the record slot at this index in record r
abbrev pub record_slab : ℕ → ℕ → Slot → ℕ → SlabPlace
record_slab size i slot r =
    record { slab = slabs.Record i r; begin = slot.begin + r * size; end = slot.begin + r * size + slot.slab }

-- the slabs of the slot at this index over n records
abbrev pub slabs_of : ℕ → ℕ → ℕ → Slot → List SlabPlace
slabs_of size n i slot =
    if slot.is_record
    then map (record_slab size i slot) (range_with_len 0 n)
    else record { slab = slabs.Var i; begin = slot.begin; end = slot.begin + slot.slab } ∷ []

-- all slabs, in the order of the header
unfoldable pub all_slabs : FileLayout → List SlabPlace
all_slabs layout = each_slot (slabs_of (record_size layout.slots) (record_count layout)) 0 layout.slots

-- of two slabs, if there are two, the one that begins first: the earlier one, if they begin at one offset
abbrev pub first_of : Option SlabPlace → Option SlabPlace → Option SlabPlace
first_of None later = later
first_of (Some slab) None = Some slab
first_of (Some slab) (Some later) = Some (if nat_lt later.begin slab.begin then later else slab)

-- the slab that begins first: of several, the first in the list
abbrev pub first_slab : List SlabPlace → Option SlabPlace
first_slab [] = None
first_slab (slab ∷ others) = first_of (Some slab) (first_slab others)

-- it ends after a file of this length does
abbrev pub is_cut : ℕ → SlabPlace → Bool
is_cut file_len slab = nat_lt file_len slab.end

-- the first slab that isn't whole
unfoldable pub first_cut_slab : FileLayout → Option SlabPlace
first_cut_slab layout = first_slab (filter (is_cut layout.file_len) (all_slabs layout))

-- ---- findings

abbrev pub missing : FileLayout → Option LayoutFinding
missing layout =
    option_and_then (λ (cut : SlabPlace).
    finding_if (nat_lt layout.file_len (values_end layout)) (places.Data layout.file_len)
    (facts.Missing layout.file_len (values_end layout) cut.slab))
    (first_cut_slab layout)

abbrev pub end_padding : FileLayout → Option LayoutFinding
end_padding layout =
    finding_if (nat_le (values_end layout) layout.file_len && nat_lt layout.file_len (padding_end layout)) (places.Data layout.file_len)
    (facts.EndPadding layout.file_len (padding_end layout))

-- how many bytes follow those that are used
abbrev pub spare_len : FileLayout → ℕ
spare_len layout = layout.file_len - used_end layout

-- how many of them may be padding: what a sole record variable of narrow values lacks after its last record. netCDF-C writes it when it moves
-- the records. (All other records have a multiple of four bytes.)
abbrev pub spare_padding_len : FileLayout → ℕ
spare_padding_len layout = if record_count layout == 0 then 0 else padding_len (record_size layout.slots)

abbrev pub spare_padding : FileLayout → Option LayoutFinding
spare_padding layout =
    finding_if (nat_lt 0 (spare_len layout) && nat_le (spare_len layout) (spare_padding_len layout)) (places.Data (used_end layout))
    (facts.EndPadding layout.file_len (used_end layout))

-- how many whole records fit into the file, if the header counts fewer
abbrev pub numrecs_by_length : FileLayout → NumRecs → Option ℕ
numrecs_by_length layout (Known n) = if nat_lt n (records_by_length layout) then Some (records_by_length layout) else None
numrecs_by_length layout Streaming = None

abbrev pub trailing : FileLayout → Option LayoutFinding
trailing layout =
    finding_if (nat_lt (spare_padding_len layout) (spare_len layout)) (places.Data (used_end layout))
    (facts.Trailing layout.file_len (used_end layout) (numrecs_by_length layout layout.numrecs))

unfoldable pub end_findings : FileLayout → List LayoutFinding
end_findings layout =
    option_to_list (missing layout) ++ option_to_list (end_padding layout)
    ++ option_to_list (spare_padding layout) ++ option_to_list (trailing layout)
