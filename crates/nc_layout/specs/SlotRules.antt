-- Definition. Findings at the size or the begin of one variable. `large_variable` is the limit of CDF-1 and CDF-2 on a variable that isn't
-- the last (netCDF-C's `NC_check_vlens`). The others are netCDF-C's `NC_check_voffs`: variables begin after the header, in its order, those
-- that aren't record variables before the records; and the slabs of a record follow each other ("Note on vsize", "record" of the NetCDF
-- Classic Format Specification).
use Rattle.std.specs.Prelude.{ℕ, ◌+◌, ◌-◌, ◌^◌, max, Bool, not, nat_lt, ◌==◌, ◌&&◌, ◌||◌, if◌then◌else◌, List, ◌++◌, filter, map, fold, take, drop, sum_by, position, unwrap_or, Option, None, Some}
use Rattle.std.specs.List.{list_any}
use Rattle.std.specs.Option.{option_to_list, option_and_then}
use Rattle.nc_types.specs.declared.version.Version.{Version}
use Rattle.nc_types.specs.declared.version.Version.TheVariants.{Cdf1, Cdf2, Cdf5}
use Rattle.nc_layout.specs.declared.{slot.Slot.Slot, slot.FileLayout.FileLayout}
use Rattle.nc_findings.specs.declared.{layout_fact.LayoutFinding.LayoutFinding}
use Rattle.nc_findings.specs.declared.layout_fact.LayoutPlace.TheVariants as places
use Rattle.nc_findings.specs.declared.layout_fact.LayoutFact.TheVariants as facts
use Rattle.nc_layout.specs.Slots.{padded_slab_len, is_fixed, record_slots, records_begin}
use Rattle.nc_layout.specs.FindingIf.{finding_if}

-- ---- size

-- the greatest slab of a variable that isn't the last, if the version has a limit
abbrev pub large_limit : Version → Option ℕ
large_limit Cdf1 = Some (2 ^ 31 - 4)
large_limit Cdf2 = Some (2 ^ 32 - 4)
large_limit Cdf5 = None

-- the variable isn't the last: a slot of its kind follows, or it isn't a record slot and there are record slots
abbrev pub has_successor : List Slot → ℕ → Slot → Bool
has_successor slots i slot =
    if slot.is_record
    then list_any (λ (later : Slot). later.is_record) (drop (i + 1) slots)
    else list_any is_fixed (drop (i + 1) slots) || list_any (λ (other : Slot). other.is_record) slots

-- the slab is too great for a variable that isn't the last
abbrev pub large_variable : Version → Bool → ℕ → Slot → Option LayoutFinding
large_variable version is_followed i slot =
    option_and_then (λ limit. finding_if (nat_lt limit slot.slab && is_followed) (places.Vsize i) (facts.LargeVariable i slot.slab limit))
    (large_limit version)

-- ---- begin

abbrev pub begin_in_header : FileLayout → ℕ → Slot → Option LayoutFinding
begin_in_header layout i slot =
    finding_if (nat_lt slot.begin layout.header_end) (places.Begin i) (facts.BeginInHeader slot.begin layout.header_end)

-- the greatest begin of the slots that aren't record slots
abbrev pub greatest_begin : List Slot → ℕ
greatest_begin slots = fold max 0 (map (λ (slot : Slot). slot.begin) (filter is_fixed slots))

-- the index of the first slot that isn't a record slot and begins here
abbrev pub fixed_slot_at : List Slot → ℕ → ℕ
fixed_slot_at slots begin = unwrap_or (position (λ (slot : Slot). is_fixed slot && (slot.begin == begin)) slots) 0

-- it begins before one of the earlier slots that isn't a record slot either
abbrev pub order : List Slot → ℕ → Slot → Option LayoutFinding
order earlier i slot =
    let least = greatest_begin earlier in
    finding_if (is_fixed slot && nat_lt slot.begin least) (places.Begin i) (facts.Order slot.begin least (fixed_slot_at earlier least))

-- it isn't a record slot, but begins after the records do, if they begin somewhere
abbrev pub after_records : Option ℕ → ℕ → Slot → Option LayoutFinding
after_records begin i slot =
    option_and_then (λ most. finding_if (is_fixed slot && nat_lt most slot.begin) (places.Begin i) (facts.AfterRecords slot.begin most))
    begin

-- how many bytes of a record come before the slab of the record slot at this index
abbrev pub bytes_before : List Slot → ℕ → ℕ
bytes_before slots i = sum_by padded_slab_len (record_slots (take i slots))

-- the slab of a record slot isn't in its place, after this many bytes of the first record
abbrev pub record_place : Option ℕ → ℕ → ℕ → Slot → Option LayoutFinding
record_place begin bytes i slot =
    option_and_then (λ first.
    finding_if (slot.is_record && not (slot.begin == first + bytes)) (places.Begin i) (facts.RecordPlace slot.begin (first + bytes)))
    begin

-- all findings at the fields of one slot
unfoldable pub slot_findings : FileLayout → ℕ → Slot → List LayoutFinding
slot_findings layout i slot =
    option_to_list (large_variable layout.version (has_successor layout.slots i slot) i slot)
    ++ option_to_list (begin_in_header layout i slot)
    ++ option_to_list (order (take i layout.slots) i slot)
    ++ option_to_list (after_records (records_begin layout.slots) i slot)
    ++ option_to_list (record_place (records_begin layout.slots) (bytes_before layout.slots i) i slot)
