-- The slots whose slabs are all whole in the file, the end of the values, and the first slab that isn't whole.
use Rattle.nccheck_laws.proofs.Prelude.{Contains, lt-ltb, nat_tests, get_or-map-range_with_len, length-map-range_with_len, mul-le-mul_right, Slot, FileLayout, Extent, LayoutFact, Slab, SlabPlace, is_fixed, record_size, record_count, slot_block, records_block, blocks, has_values, values_end, first_slab, is_cut, record_slab, slabs_of, all_slabs, first_cut_slab, end_findings, IsSoundSlot, IsSoundLayout, contains-here, contains-none, contains-cases, contains-filter, filter-contains, greatest_from-above, greatest_from-least, MissingValuesHaveSlab, ◌≡◌, ℕ, ◌+◌, ◌-◌, ◌*◌, ◌<◌, ◌≤◌, Bool, true, false, not, List, [], ◌∷◌, filter, ap, arith, All, Some, None, slice_get, common_steps}
use Rattle.nc_findings.specs.declared.layout_fact.Slab.TheVariants as slabs
use Rattle.nc_findings.specs.declared.layout_fact.LayoutFact.TheVariants as facts
use Rattle.nccheck_laws.proofs.FoundNone.{Quiet}
use Rattle.nccheck_laws.proofs.IndexedSlots.{all-at, at-all, there-from}
use Rattle.nccheck_laws.proofs.LayoutBlocks.{each-block, fixed-there, records-there, records_end-above, records_end-le, first_begin, begins}

-- its slabs over n records, this size apart, are whole in a file of this length
pub record IsWholeSlot (file_len size n : ℕ) (slot : Slot) : Type 0 where
  pub fixed : slot.is_record ≡ false → slot.begin + slot.slab ≤ file_len
  pub records : slot.is_record ≡ true → (r : ℕ) → r < n → slot.begin + r * size + slot.slab ≤ file_len

-- of a slot of this layout
abbrev pub IsWhole : FileLayout → Slot → Type 0
IsWhole layout slot = IsWholeSlot layout.file_len (record_size layout.slots) (record_count layout) slot

abbrev pub AreWholeSlots : FileLayout → Type 0
AreWholeSlots layout = All (IsWhole layout) layout.slots

-- ---- the slots are whole, so the values end in the file

pub values-whole : (layout : FileLayout) → layout.header_end ≤ layout.file_len → AreWholeSlots layout → values_end layout ≤ layout.file_len
values-whole layout inside are =
    let n = record_count layout in
    greatest_from-least (λ (b : Extent). b.end) layout.header_end layout.file_len (filter has_values (blocks layout)) inside
    (λ c has. let h = filter-contains has_values (blocks layout) c has in
    each-block layout (λ b. has_values b ≡ true → b.end ≤ layout.file_len)
    (λ k x at is some. (all-at (IsWhole layout) layout.slots k x are at).fixed (grind arith))
    (λ begin found some. records_end-le layout.slots n begin layout.file_len (λ s. s.slab)
    (λ none. absurd (grind (arith, nat_tests)))
    (λ k x at is more. (all-at (IsWhole layout) layout.slots k x are at).records is (n - 1) (omega arith))) c h.0 h.1)

-- ---- the values end in the file, so the slots are whole

value-reached : (layout : FileLayout) (b : Extent) → Contains (blocks layout) b → b.begin < b.end → b.end ≤ values_end layout
value-reached layout b has some =
    greatest_from-above (λ (c : Extent). c.end) layout.header_end (filter has_values (blocks layout)) b
    (contains-filter has_values (blocks layout) b has (lt-ltb b.begin b.end some))

pub whole-values : (layout : FileLayout) → IsSoundLayout layout → values_end layout ≤ layout.file_len → AreWholeSlots layout
whole-values layout sound within =
    at-all (IsWhole layout) layout.slots (λ k x at.
    let some = (all-at IsSoundSlot layout.slots k x sound.sound_slots at).some_bytes in
    record {
      fixed = λ is. let le = value-reached layout (slot_block k x) (fixed-there layout k x at (ap not is)) (omega arith) in omega arith;
      records = λ is r lt.
          let n = record_count layout in
          let size = record_size layout.slots in
          let begin = first_begin layout.slots in
          let found = begins layout.slots k x at is in
          let above = records_end-above layout.slots n begin (λ s. s.slab) k x (omega arith) at is in
          let there = records-there layout begin found.0 in
          let le = value-reached layout (records_block layout.slots n begin) there (omega (arith, found.1)) in
          let up = mul-le-mul_right size (let e : r ≤ n - 1 = omega arith in e) in omega arith;
    })

-- ---- the slabs of one slot

-- the slab of a slot that isn't a record slot
abbrev pub fixed_slab : ℕ → Slot → SlabPlace
fixed_slab i x = record { slab = slabs.Var i; begin = x.begin; end = x.begin + x.slab }

-- what holds of it, or of the slabs of a record slot, holds of each slab of the slot
pub each-slab : (size n i : ℕ) (x : Slot) (P : SlabPlace → Type 0) → (is_fixed x ≡ true → P (fixed_slab i x))
    → (x.is_record ≡ true → (r : ℕ) → r < n → P (record_slab size i x r)) → (b : SlabPlace) → Contains (slabs_of size n i x) b → P b
each-slab size n i x P fixed records b (r, lt, at) = grind (arith, common_steps, get_or-map-range_with_len, length-map-range_with_len)

-- ---- slabs that are whole

none-cut : (file_len : ℕ) (xs : List SlabPlace) (c : SlabPlace) → first_slab (filter (is_cut file_len) xs) ≡ None → Contains xs c
    → c.end ≤ file_len
none-cut file_len [] c none has = absurd (contains-none c has)
none-cut file_len (x ∷ xs) c none has = grind (arith, nat_tests, contains-cases x c xs has, none-cut file_len xs c)

uncut-whole : (layout : FileLayout) → first_cut_slab layout ≡ None → AreWholeSlots layout
unfolding first_cut_slab all_slabs
uncut-whole layout none =
    let size = record_size layout.slots in
    let n = record_count layout in
    let whole = λ (k : ℕ) (x : Slot) (at : slice_get layout.slots k ≡ Some x) (c : SlabPlace) (has : Contains (slabs_of size n k x) c).
    none-cut layout.file_len (all_slabs layout) c none (there-from (slabs_of size n) 0 layout.slots k k x c at (omega arith) has) in
    at-all (IsWhole layout) layout.slots (λ k x at. record {
      fixed = λ is. whole k x at (fixed_slab k x) (rw is (contains-here (fixed_slab k x) []));
      records = λ is r lt. whole k x at (record_slab size k x r)
          (rw is (
            r,
            omega (arith, length-map-range_with_len (record_slab size k x) 0 n),
            get_or-map-range_with_len (record_slab size k x) 0 n r r (record_slab size k x r) lt (omega arith),
          ));
    })

uncut-values : (layout : FileLayout) → IsSoundLayout layout → first_cut_slab layout ≡ None → values_end layout ≤ layout.file_len
uncut-values layout sound none = values-whole layout sound.header_inside (uncut-whole layout none)

-- where the finding that values are missing is of the kind, and nothing of the kind is found, the values end in the file
pub quiet-values : (kind : LayoutFact → Bool) (layout : FileLayout) → IsSoundLayout layout
    → ((file_len end : ℕ) (slab : Slab) → kind (facts.Missing file_len end slab) ≡ true) → Quiet kind (end_findings layout)
    → values_end layout ≤ layout.file_len
unfolding end_findings
quiet-values kind layout sound is h = grind (arith, nat_tests, uncut-values layout sound, is layout.file_len (values_end layout))

pub missing-slab : MissingValuesHaveSlab
missing-slab layout sound less = grind (arith, uncut-values layout sound)
