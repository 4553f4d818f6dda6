-- The records of a header are those of its slots: their size, their begin and their number.
use Rattle.nccheck_laws.proofs.Prelude.{common_steps, Dim, Header, Var, fixed_vars, padded_total, record_size_of, record_vars, Slot, is_fixed, is_sole_narrow, record_count, record_size, records_begin, records_by_length, slot_of, layout_of, padded_slab_len, slots-total, kept-slots, record_slots-are, fixed_bytes, ◌≡◌, ℕ, ◌∙◌, min, List, Option, map, sum_by, ap, ap₂, arith}
use Rattle.std.specs.List.{reduce}
use Rattle.nc_base.specs.Sizes.{known_or, records_between, record_count as header_record_count, records_begin as header_records_begin}
use Rattle.nc_base.proofs.WholeValues.{map-map}
use Rattle.nc_layout.proofs.SlotLists.{record_size_is}

-- ---- the bytes of the slots that aren't record slots

pub fixed_slots-total : (dims : List Dim) (vars : List Var)
    → fixed_bytes (map (slot_of dims) vars) ≡ padded_total dims (fixed_vars dims vars)
fixed_slots-total dims vars = ap (sum_by padded_slab_len) (kept-slots is_fixed dims vars) ∙ slots-total dims (fixed_vars dims vars)

-- ---- the record size

pub size-is : (dims : List Dim) (vars : List Var) → record_size (map (slot_of dims) vars) ≡ record_size_of dims (record_vars dims vars)
size-is dims vars =
    let narrow = is_sole_narrow (map (slot_of dims) (record_vars dims vars)) in
    grind (arith, record_size_is (map (slot_of dims) vars) narrow, record_slots-are dims vars, common_steps)

-- ---- the number of records

begin-is : (dims : List Dim) (vars : List Var) → records_begin (map (slot_of dims) vars) ≡ header_records_begin (record_vars dims vars)
unfolding records_begin
begin-is dims vars =
    let begin = λ (slot : Slot). slot.begin in
    ap (λ (slots : List Slot). reduce min (map begin slots)) (record_slots-are dims vars)
    ∙ ap (reduce min) (map-map begin (slot_of dims) (record_vars dims vars))

pub count-is : (h : Header) (header_end file_len : ℕ) → record_count (layout_of h header_end file_len) ≡ header_record_count h file_len
unfolding record_count records_by_length
count-is h header_end file_len =
    ap₂ (λ (size : ℕ) (begin : Option ℕ). known_or h.numrecs (records_between size begin file_len)) (size-is h.dims h.vars) (begin-is h.dims h.vars)
