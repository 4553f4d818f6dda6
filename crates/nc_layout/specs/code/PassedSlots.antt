-- For contracts. What is kept of the slots that a loop has passed, for the rules on one slot.
use Rattle.std.specs.Prelude.{◌≡◌, ◌<◌, ◌+◌, ◌-◌, ℕ, max, Bool, nat_lt, ◌&&◌, ◌||◌, if◌then◌else◌, List, take, drop, count_by, Option}
use Rattle.nc_layout.specs.declared.{slot.Slot.Slot, slot_rules.PassedSlots.PassedSlots}
use Rattle.nc_findings.specs.declared.{layout_fact.LayoutFinding.LayoutFinding}
use Rattle.nc_findings.specs.declared.layout_fact.LayoutPlace.TheVariants as places
use Rattle.nc_findings.specs.declared.layout_fact.LayoutFact.TheVariants as facts
use Rattle.nc_layout.specs.FindingIf.{finding_if}
use Rattle.nc_layout.specs.Slots.{padded_slab_len, is_fixed}
use Rattle.nc_layout.specs.SlotRules.{greatest_begin, fixed_slot_at, bytes_before}

abbrev pub is_record_slot : Slot → Bool
is_record_slot slot = slot.is_record

-- what a pass over these slots keeps at index i: the slots before it have been passed
pub record HasPassed (slots : List Slot) (i : ℕ) (passed : PassedSlots) : Type 0 where
  pub begin : passed.latest_begin ≡ greatest_begin (take i slots)
  pub latest : 0 < passed.latest_begin → passed.latest ≡ fixed_slot_at (take i slots) passed.latest_begin
  pub bytes : passed.record_bytes ≡ bytes_before slots i
  pub fixed : passed.fixed_left ≡ count_by is_fixed (drop i slots)
  pub records : passed.records_left ≡ count_by is_record_slot (drop i slots)

-- what has been passed after one more slot, at index i
abbrev pub passed_after : PassedSlots → ℕ → Slot → PassedSlots
passed_after passed i slot =
    if slot.is_record
    then record passed { record_bytes = passed.record_bytes + padded_slab_len slot; records_left = passed.records_left - 1 }
    else record passed {
      latest_begin = max passed.latest_begin slot.begin;
      latest = (if nat_lt passed.latest_begin slot.begin then i else passed.latest);
      fixed_left = passed.fixed_left - 1;
    }

-- `slot`, the next one, isn't the last of its kind, or it isn't a record slot and there are record slots
abbrev pub next_has_successor : PassedSlots → Bool → Slot → Bool
next_has_successor passed has_records slot =
    if slot.is_record then nat_lt 1 passed.records_left else nat_lt 1 passed.fixed_left || has_records

-- the finding at the order of this slot, if the loop has passed these slots
abbrev pub order_after : PassedSlots → ℕ → Slot → Option LayoutFinding
order_after passed i slot =
    finding_if (is_fixed slot && nat_lt slot.begin passed.latest_begin) (places.Begin i)
    (facts.Order slot.begin passed.latest_begin passed.latest)
