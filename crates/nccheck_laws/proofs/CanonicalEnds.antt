-- Where slots and blocks end if each slot begins in its canonical place; so a file without findings at begins and at its end has the
-- length of a generated one.
use Rattle.nccheck_laws.proofs.Prelude.{Contains, cases_lt, lt-ltb, nat_tests, slice_get_within, Slot, FileLayout, Extent, padded_slab_len, is_fixed, slab_in_record, record_size, records_begin, record_count, slot_block, records_block, blocks, has_values, bytes_before, used_end, end_findings, IsSoundSlot, IsSoundLayout, is_record_slot, contains-filter, greatest_from-ge, greatest_from-above, greatest_from-least, fixed_bytes, is_of_end, canonical_begin, HasCanonicalBegins, canonical_len, QuietLengthIsCanonical, ◌≡◌, ℕ, zero, suc, ◌+◌, ◌-◌, ◌*◌, ◌<◌, ◌≤◌, true, length, filter, subst, arith, Option, Some, IfSome, max, refl, common_steps}
use Rattle.nc_layout.specs.FileEnd.{padding_end}
use Rattle.nccheck_laws.proofs.IndexedSlots.{At, all-at, total-below, total-whole, total-reach, slab-fits, part-le}
use Rattle.nccheck_laws.proofs.LayoutBlocks.{each-block, fixed-there, records-there, fixed_place, all-place, records_end-above, records_end-le, first_begin, begins, begin-is}
use Rattle.nccheck_laws.proofs.FoundNone.{quiet-end}
use Rattle.nccheck_laws.proofs.WholeSlots.{quiet-values}
use Rattle.nccheck_laws.proofs.CanonicalBegins.{quiet-begins}

-- ---- the canonical places

place : (layout : FileLayout) (i : ℕ) (x : Slot) → HasCanonicalBegins layout → At layout.slots i x → x.begin ≡ canonical_begin layout i x
place layout i x h at = subst (λ (o : Option Slot). IfSome o (λ (slot : Slot). slot.begin ≡ canonical_begin layout i slot)) at (h i)

pub fixed-place : (layout : FileLayout) (i : ℕ) (x : Slot) → HasCanonicalBegins layout → At layout.slots i x → is_fixed x ≡ true
    → x.begin ≡ fixed_place layout i
fixed-place layout i x h at is = grind (arith, place layout i x h at)

pub slab-place : (layout : FileLayout) (i : ℕ) (x : Slot) → HasCanonicalBegins layout → At layout.slots i x → x.is_record ≡ true
    → x.begin ≡ layout.header_end + fixed_bytes layout.slots + bytes_before layout.slots i
slab-place layout i x h at is = grind (arith, place layout i x h at)

pub records-place : (layout : FileLayout) (begin : ℕ) → HasCanonicalBegins layout → records_begin layout.slots ≡ Some begin
    → begin ≡ layout.header_end + fixed_bytes layout.slots
records-place layout begin h found =
    begin-is layout.slots begin (layout.header_end + fixed_bytes layout.slots) found (λ k x at is. slab-place layout k x h at is)

-- a slot that isn't a record slot ends before the next one begins
pub fixed-ends : (layout : FileLayout) (k i : ℕ) (x : Slot) → HasCanonicalBegins layout → At layout.slots k x → is_fixed x ≡ true → k < i
    → x.begin + padded_slab_len x ≤ fixed_place layout i
fixed-ends layout k i x h at is lt =
    let e = fixed-place layout k x h at is in let below = total-below padded_slab_len is_fixed layout.slots k i x at is lt in omega arith

-- and all of them before the records begin
pub fixed-ends-all : (layout : FileLayout) (k : ℕ) (x : Slot) → HasCanonicalBegins layout → At layout.slots k x → is_fixed x ≡ true
    → x.begin + padded_slab_len x ≤ layout.header_end + fixed_bytes layout.slots
fixed-ends-all layout k x h at is =
    let le = fixed-ends layout k (length layout.slots) x h at is (slice_get_within layout.slots k x at) in
    let all = all-place layout in omega arith

-- ---- the used end isn't greater than the canonical length

pub times-pred : (n m : ℕ) → 0 < n → (n - 1) * m + m ≡ n * m
times-pred zero m some = absurd (omega arith)
times-pred (suc n) m some = grind arith

pub used-le : (layout : FileLayout) → HasCanonicalBegins layout → used_end layout ≤ canonical_len layout
used-le layout h =
    let n = record_count layout in
    let len = canonical_len layout in
    greatest_from-least (λ (b : Extent). b.padded_end) layout.header_end len (blocks layout) (omega arith)
    (each-block layout (λ b. b.padded_end ≤ len) (λ k x at is. let le = fixed-ends-all layout k x h at is in omega arith)
    (λ begin found. records_end-le layout.slots n begin len (slab_in_record layout.slots)
    (λ none. let e = records-place layout begin h found in omega arith)
    (λ k x at is some. let e = slab-place layout k x h at is in let fits = slab-fits layout.slots k x at is in
    let times = times-pred n (record_size layout.slots) some in omega arith)))

-- ---- the end of the padding isn't less

reached : (layout : FileLayout) (b : Extent) → Contains (blocks layout) b → b.begin < b.end → b.padded_end ≤ padding_end layout
reached layout b has some =
    greatest_from-above (λ (c : Extent). c.padded_end) layout.header_end (filter has_values (blocks layout)) b
    (contains-filter has_values (blocks layout) b has (lt-ltb b.begin b.end some))

fixed-reached : (layout : FileLayout) → IsSoundLayout layout → HasCanonicalBegins layout
    → layout.header_end + fixed_bytes layout.slots ≤ padding_end layout
fixed-reached layout sound h =
    let reach = total-reach padded_slab_len is_fixed layout.slots layout.header_end (padding_end layout) (length layout.slots) (λ k x at lt is.
    let e = fixed-place layout k x h at is in
    let some = (all-at IsSoundSlot layout.slots k x sound.sound_slots at).some_bytes in
    let le = reached layout (slot_block k x) (fixed-there layout k x at is) (omega arith) in omega arith) in
    let ge = greatest_from-ge (λ (c : Extent). c.padded_end) layout.header_end (filter has_values (blocks layout)) in
    omega (arith, all-place layout)

-- the last record reaches its padded end
records-reached : (layout : FileLayout) → IsSoundLayout layout → HasCanonicalBegins layout → 0 < record_count layout
    → canonical_len layout ≤ max (canonical_len layout - record_size layout.slots) (padding_end layout)
unfolding record_size
records-reached layout sound h some =
    let slots = layout.slots in
    let n = record_count layout in
    let before = layout.header_end + fixed_bytes slots + (n - 1) * record_size slots in
    let reach = total-reach (slab_in_record slots) is_record_slot slots before (padding_end layout) (length slots) (λ k x at lt is.
    let found = begins slots k x at is in
    let place = slab-place layout k x h at is in
    let bytes = (all-at IsSoundSlot slots k x sound.sound_slots at).some_bytes in
    let values = records_end-above slots n (first_begin slots) (λ s. s.slab) k x some at is in
    let padded = records_end-above slots n (first_begin slots) (slab_in_record slots) k x some at is in
    let there = records-there layout (first_begin slots) found.0 in
    let le = reached layout (records_block slots n (first_begin slots)) there (omega (arith, found.1)) in
    omega (arith, part-le slots k)) in
    omega (arith, total-whole (slab_in_record slots) is_record_slot slots, times-pred n (record_size slots) some)

pub padding-ge : (layout : FileLayout) → IsSoundLayout layout → HasCanonicalBegins layout → canonical_len layout ≤ padding_end layout
padding-ge layout sound h = grind (arith, common_steps, cases_lt, fixed-reached, records-reached)

-- ---- the law

pub quiet-length : QuietLengthIsCanonical
unfolding end_findings
quiet-length layout sound quiet_begin quiet_end =
    let found = quiet-end is_of_end layout quiet_end in
    let within = quiet-values is_of_end layout sound (λ file_len end slab. refl) found in
    let begins = quiet-begins layout quiet_begin in
    let le = used-le layout begins in
    let ge = padding-ge layout sound begins in
    let no_more : layout.file_len ≤ used_end layout = grind (arith, nat_tests) in
    let no_less : padding_end layout ≤ layout.file_len = grind (arith, nat_tests) in omega arith
