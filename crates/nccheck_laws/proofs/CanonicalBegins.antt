-- If nothing is found at the begins, each slot begins where a generated file has it.
use Rattle.nccheck_laws.proofs.Prelude.{Contains, cases_lt, nat_tests, slice_get_within, Slot, FileLayout, Extent, padded_slab_len, is_fixed, records_begin, record_count, slot_block, records_block, blocks, before, precedes, greatest_begin, bytes_before, slot_findings, greatest_end, block_findings, padding_end, greatest_from-above, is_of_begin, FindsNone, fixed_bytes, canonical_begin, QuietBeginsAreCanonical, ◌≡◌, ℕ, zero, suc, ◌+◌, ◌<◌, ◌≤◌, max, true, length, take, filter, arith, Some}
use Rattle.nccheck_laws.proofs.FoundNone.{quiet-slot, quiet-block}
use Rattle.nccheck_laws.proofs.IndexedSlots.{At, at-filtered, total-below}
use Rattle.nccheck_laws.proofs.LayoutBlocks.{each-block, fixed-there, records-there, fixed_place, all-place, before-le, place-reached, begin-ge, first_begin, begins}

-- ---- what the rules say

pub record IsQuietSlot (layout : FileLayout) (i : ℕ) (slot : Slot) : Type 0 where
  pub after_header : layout.header_end ≤ slot.begin
  pub in_order : is_fixed slot ≡ true → greatest_begin (take i layout.slots) ≤ slot.begin
  pub before_records : (most : ℕ) → records_begin layout.slots ≡ Some most → is_fixed slot ≡ true → slot.begin ≤ most
  pub in_place : (begin : ℕ) → records_begin layout.slots ≡ Some begin → slot.is_record ≡ true
      → slot.begin ≡ begin + bytes_before layout.slots i

slot-of : (layout : FileLayout) (i : ℕ) (x : Slot) → FindsNone is_of_begin layout → At layout.slots i x → IsQuietSlot layout i x
unfolding slot_findings
slot-of layout i x quiet at = let h = quiet-slot is_of_begin layout i x quiet at in grind (arith, nat_tests)

-- it begins where the blocks before it end, with their padding, or the header
pub record IsQuietBlock (layout : FileLayout) (b : Extent) : Type 0 where
  pub not_before : greatest_end padding_end (before (blocks layout) b) ≤ b.begin
  pub not_after : b.begin ≤ max layout.header_end (greatest_end padding_end (before (blocks layout) b))

block-of : (layout : FileLayout) (b : Extent) → FindsNone is_of_begin layout → Contains (blocks layout) b → IsQuietBlock layout b
unfolding block_findings
block-of layout b quiet has =
    let h = quiet-block is_of_begin layout b quiet has in
    record { not_before = grind (arith, nat_tests); not_after = grind (arith, nat_tests) }

-- ---- slots that aren't record slots

in_order : (layout : FileLayout) (j k : ℕ) (y x : Slot) → FindsNone is_of_begin layout → j ≤ k → At layout.slots j y → At layout.slots k x
    → is_fixed y ≡ true → is_fixed x ≡ true → y.begin ≤ x.begin
in_order layout j k y x quiet le at_y at_x fixed_y fixed_x =
    let ordered = (slot-of layout k x quiet at_x).in_order fixed_x in
    let above = λ (lt : j < k). greatest_from-above (λ (s : Slot). s.begin) 0 (filter is_fixed (take k layout.slots)) y
    (at-filtered is_fixed layout.slots k j y at_y lt fixed_y) in
    grind (arith, cases_lt j k, above)

-- the slots before it are in their places, so it is too
abbrev AreInPlace : FileLayout → ℕ → Type 0
AreInPlace layout i = (k : ℕ) (x : Slot) → At layout.slots k x → k < i → is_fixed x ≡ true → x.begin ≡ fixed_place layout k

place-le : (layout : FileLayout) (i : ℕ) → AreInPlace layout i → (k : ℕ) (y : Slot) → At layout.slots k y → k < i → is_fixed y ≡ true
    → (slot_block k y).padded_end ≤ fixed_place layout i
place-le layout i done k y at lt is =
    let e = done k y at lt is in let below = total-below padded_slab_len is_fixed layout.slots k i y at is lt in omega arith

fixed-next : (layout : FileLayout) (i : ℕ) (x : Slot) → FindsNone is_of_begin layout → At layout.slots i x → is_fixed x ≡ true
    → AreInPlace layout i → x.begin ≡ fixed_place layout i
fixed-next layout i x quiet at fixed done =
    let slot = slot-of layout i x quiet at in
    let block = block-of layout (slot_block i x) quiet (fixed-there layout i x at fixed) in
    let ge = place-reached layout (slot_block i x) i (λ k y at_y lt is. (
      done k y at_y lt is,
      grind (arith, nat_tests, in_order layout k i y x quiet (omega arith) at_y at is fixed),
    )) in
    let le = before-le layout (slot_block i x) (fixed_place layout i)
    (each-block layout (λ c. precedes c (slot_block i x) ≡ true → c.padded_end ≤ fixed_place layout i)
    (λ k y at_y is first.
    let before = λ (lt : k < i). place-le layout i done k y at_y lt is in
    let after = λ (le : i ≤ k). in_order layout i k x y quiet le at at_y fixed is in grind (arith, nat_tests, cases_lt k i))
    (λ begin found first. absurd (grind (arith, nat_tests, slot.before_records begin found fixed)))) in
    omega (arith, slot.after_header, block.not_before, block.not_after)

fixed-below : (layout : FileLayout) (i : ℕ) → FindsNone is_of_begin layout → AreInPlace layout i
fixed-below layout zero quiet = λ k x at lt is. absurd (omega arith)
fixed-below layout (suc i) quiet = grind (arith, fixed-below layout i quiet, cases_lt, fixed-next)

-- ---- record slots

records-in-place : (layout : FileLayout) (begin : ℕ) → FindsNone is_of_begin layout → records_begin layout.slots ≡ Some begin
    → begin ≡ layout.header_end + fixed_bytes layout.slots
records-in-place layout begin quiet found =
    let n = length layout.slots in
    let b = records_block layout.slots (record_count layout) begin in
    let done = fixed-below layout n quiet in
    let header = begin-ge layout.slots begin layout.header_end found (λ k x at is. (slot-of layout k x quiet at).after_header) in
    let block = block-of layout b quiet (records-there layout begin found) in
    let le = before-le layout b (fixed_place layout n) (each-block layout (λ c. precedes c b ≡ true → c.padded_end ≤ fixed_place layout n)
    (λ k y at is first. place-le layout n done k y at (slice_get_within layout.slots k y at) is)
    (λ other again first. absurd (let same : other ≡ begin = cc in grind (arith, nat_tests)))) in
    let ge = place-reached layout b n (λ k y at lt is. (
      done k y at lt is,
      grind (arith, nat_tests, (slot-of layout k y quiet at).before_records begin found is),
    )) in
    omega (arith, all-place layout, block.not_before, block.not_after)

-- ---- the law

slot-canonical : (layout : FileLayout) (i : ℕ) (x : Slot) → FindsNone is_of_begin layout → At layout.slots i x
    → x.begin ≡ canonical_begin layout i x
slot-canonical layout i x quiet at =
    let begin = first_begin layout.slots in
    let found = begins layout.slots i x at in
    let fixed = fixed-below layout (suc i) quiet i x at (omega arith) in
    grind (arith, found, (slot-of layout i x quiet at).in_place begin, records-in-place layout begin quiet)

pub quiet-begins : QuietBeginsAreCanonical
quiet-begins layout quiet i = grind (arith, slot-canonical)
