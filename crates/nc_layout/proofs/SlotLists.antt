-- What is left of a list of slots in a loop, one slot on.
use Rattle.nc_layout.proofs.Prelude.{common_steps, sum_by-le-sum_by, Slot, padded_slab_len, is_sole_narrow, record_slots, slab_in_record, record_size, slab_if, ◌≡◌, ℕ, ◌+◌, ◌<◌, ◌≤◌, Bool, true, List, ◌∷◌, length, get_or, drop, map, sum_by, ap, arith}
use Rattle.nc_base.proofs.SizeLaws.{sole}

-- the record slots from index i on
abbrev pub rest : List Slot → ℕ → List Slot
rest slots i = record_slots (drop i slots)

pub rest-taken : (slots : List Slot) (i : ℕ) (d : Slot) → i < length slots → (get_or slots i d).is_record ≡ true
    → rest slots i ≡ get_or slots i d ∷ rest slots (i + 1)
rest-taken slots i d lt is = grind (arith, common_steps)

-- ---- the sole record slot

abbrev pub narrow_slot : Slot → Bool
narrow_slot slot = slot.is_narrow

pub sole_is : (slots : List Slot) → is_sole_narrow slots ≡ sole (map narrow_slot slots)
sole_is v0 = grind arith

-- ---- the record size

pub record_size_is : (slots : List Slot) (narrow : Bool) → narrow ≡ is_sole_narrow (record_slots slots)
    → sum_by (slab_if narrow) (record_slots slots) ≡ record_size slots
unfolding record_size
record_size_is slots narrow is = ap (λ b. sum_by (slab_if b) (record_slots slots)) is

-- a record isn't larger than its padded slabs
pub record_size_le : (slots : List Slot) → record_size slots ≤ sum_by padded_slab_len (record_slots slots)
unfolding record_size
record_size_le slots =
    sum_by-le-sum_by (slab_in_record slots) padded_slab_len (record_slots slots) (λ slot. grind arith)
