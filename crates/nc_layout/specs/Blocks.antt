-- Definition. The blocks of a file, and their order. A slot that isn't a record slot has a block of its own: from its begin to the end of
-- its slab. All records together are one block. If there are record slots but no records, the block of the records is empty: it begins and
-- ends where they would begin.
use Rattle.std.specs.Prelude.{ℕ, ◌+◌, ◌-◌, ◌*◌, max, Bool, true, false, nat_lt, ◌==◌, ◌&&◌, ◌||◌, if◌then◌else◌, List, [], ◌∷◌, ◌++◌, filter, map, fold, position, unwrap_or}
use Rattle.std.specs.Option.{option_map_or}
use Rattle.nc_layout.specs.declared.{slot.Slot.Slot, slot.FileLayout.FileLayout, blocks.Extent.Extent}
use Rattle.nc_findings.specs.declared.{layout_fact.Block.Block}
use Rattle.nc_findings.specs.declared.layout_fact.Block.TheVariants.{Var, Records}
use Rattle.nc_layout.specs.Slots.{padded_slab_len, is_fixed, record_slots, slab_in_record, record_size, records_begin, record_count}

-- what f gives of each slot and its index, which counts from i
abbrev pub each_slot : {A : Type 0} → (ℕ → Slot → List A) → ℕ → List Slot → List A
each_slot f i [] = []
each_slot f i (slot ∷ slots) = f i slot ++ each_slot f (i + 1) slots

-- ---- blocks

-- the block of a slot that isn't a record slot, at this index
abbrev pub slot_block : ℕ → Slot → Extent
slot_block i slot =
    record { block = Var i; var = i; begin = slot.begin; end = slot.begin + slot.slab; padded_end = slot.begin + padded_slab_len slot }

-- the block of the slot at this index, unless it is a record slot
abbrev pub fixed_block : ℕ → Slot → List Extent
fixed_block i slot = if is_fixed slot then slot_block i slot ∷ [] else []

-- the index of the first record slot that begins here
abbrev pub record_slot_at : List Slot → ℕ → ℕ
record_slot_at slots begin = unwrap_or (position (λ (slot : Slot). slot.is_record && (slot.begin == begin)) slots) 0

-- the greatest end of a slab in the last of n records, if `bytes` of a slab count; without records, their begin
abbrev pub records_end : List Slot → ℕ → ℕ → (Slot → ℕ) → ℕ
records_end slots n begin bytes =
    if n == 0 then begin else fold max 0 (map (λ slot. slot.begin + (n - 1) * record_size slots + bytes slot) (record_slots slots))

-- the block of n records that begin here
abbrev pub records_block : List Slot → ℕ → ℕ → Extent
records_block slots n begin = record {
  block = Records;
  var = record_slot_at slots begin;
  begin = begin;
  end = records_end slots n begin (λ slot. slot.slab);
  padded_end = records_end slots n begin (slab_in_record slots);
}

-- all blocks: those of slots in the order of the header, then the records, if there are record slots
unfoldable pub blocks : FileLayout → List Extent
blocks layout = each_slot fixed_block 0 layout.slots
    ++ option_map_or (λ begin. records_block layout.slots (record_count layout) begin ∷ []) (records_begin layout.slots) []

-- it isn't empty
abbrev pub has_values : Extent → Bool
has_values b = nat_lt b.begin b.end

-- ---- their order

-- of two blocks that begin at one offset: those of slots in the order of the header, then the records
abbrev pub is_listed_before : Block → Block → Bool
is_listed_before (Var i) (Var j) = nat_lt i j
is_listed_before (Var i) Records = true
is_listed_before Records block = false

abbrev pub precedes : Extent → Extent → Bool
precedes b c = nat_lt b.begin c.begin || ((b.begin == c.begin) && is_listed_before b.block c.block)

-- those of these blocks that precede one
abbrev pub before : List Extent → Extent → List Extent
before bs b = filter (λ c. precedes c b) bs
