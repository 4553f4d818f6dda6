-- Where each slot begins in its canonical place, nothing is found at the begins; nor at the end of a file of the canonical length. So nothing
-- is found in the layout of a generated file.
use Rattle.nccheck_laws.proofs.Prelude.{Contains, cases_lt, nat_tests, Slot, FileLayout, Extent, padded_slab_len, is_fixed, slab_in_record, record_count, slot_block, records_block, blocks, before, precedes, has_values, slot_findings, block_findings, greatest_end, used_end, end_findings, IsSoundSlot, IsSoundLayout, is_of_begin, is_of_end, HasCanonicalBegins, CanonicalBeginsAreQuiet, CanonicalLengthIsQuiet, value_end, filter-contains, greatest_from-ge, greatest_from-above, greatest_from-least, Header, Var, vars_with_begins, with_begins, header_spelling, slot_of, layout_of, GeneratedFilesAreQuiet, canonical_begin, ◌≡◌, ℕ, ◌+◌, ◌≤◌, max, true, length, take, filter, arith, refl, zero, suc, List, [], ◌∷◌, ◌++◌, map, slice_get, IfSome, sym, ◌∙◌, ap, append_assoc, length-append, fold, le_trans, le_refl}
use Rattle.nc_layout.specs.code.Sweep as sweep
use Rattle.nccheck_laws.proofs.FoundNone.{Quiet, all-quiet}
use Rattle.nccheck_laws.proofs.IndexedSlots.{At, all-at, filtered-at, slab-le}
use Rattle.nccheck_laws.proofs.LayoutBlocks.{each-block, all-place, before-le, place-reached, records_end-above, records_end-le}
use Rattle.nccheck_laws.proofs.CanonicalBegins.{IsQuietSlot, IsQuietBlock}
use Rattle.nccheck_laws.proofs.CanonicalEnds.{fixed-place, slab-place, records-place, fixed-ends, fixed-ends-all, used-le, padding-ge}
use Rattle.nccheck_laws.proofs.GeneratedFiles.{begins-bare, begin-is, canonical-is}

-- ---- what holds of a slot

slot-quiet : (layout : FileLayout) (i : ℕ) (x : Slot) → HasCanonicalBegins layout → At layout.slots i x → IsQuietSlot layout i x
slot-quiet layout i x h at = record {
  after_header = grind (arith, fixed-place layout i x h at, slab-place layout i x h at);
  in_order = λ fixed.
      greatest_from-least (λ (s : Slot). s.begin) 0 x.begin (filter is_fixed (take i layout.slots)) (omega arith) (λ c has.
      let k = filtered-at is_fixed layout.slots i c has in
      omega (arith, fixed-place layout i x h at fixed, fixed-ends layout k.0 i c h k.2 k.3 k.1));
  before_records = λ most found fixed. omega (arith, fixed-ends-all layout i x h at fixed, records-place layout most h found);
  in_place = λ begin found is. omega (arith, slab-place layout i x h at is, records-place layout begin h found);
}

-- ---- what holds of a block

-- its values don't end after its padding
end-padded : (layout : FileLayout) (c : Extent) → Contains (blocks layout) c → c.end ≤ c.padded_end
end-padded layout =
    let n = record_count layout in
    each-block layout (λ c. c.end ≤ c.padded_end) (λ k x at is. omega arith)
    (λ begin found. let padded = (records_block layout.slots n begin).padded_end in
    records_end-le layout.slots n begin padded (λ s. s.slab) (λ none. grind (arith, nat_tests))
    (λ k x at is some. omega (
      arith,
      records_end-above layout.slots n begin (slab_in_record layout.slots) k x some at is,
      (slab-le layout.slots x).0,
    )))

-- a block ends, with its padding, before those that it precedes begin
fixed-before-fixed : (layout : FileLayout) (k i : ℕ) (y x : Slot) → IsSoundLayout layout → HasCanonicalBegins layout
    → At layout.slots k y → At layout.slots i x → is_fixed y ≡ true → is_fixed x ≡ true
    → precedes (slot_block k y) (slot_block i x) ≡ true → y.begin + padded_slab_len y ≤ x.begin
fixed-before-fixed layout k i y x sound h at_y at_x fixed_y fixed_x first = grind (
  arith,
  nat_tests,
  cases_lt k i,
  cases_lt i k,
  fixed-ends layout k i y h at_y fixed_y,
  fixed-ends layout i k x h at_x fixed_x,
  fixed-place layout i x h at_x fixed_x,
  fixed-place layout k y h at_y fixed_y,
  (all-at IsSoundSlot layout.slots i x sound.sound_slots at_x).some_bytes,
)

ends-before : (layout : FileLayout) → IsSoundLayout layout → HasCanonicalBegins layout → (b : Extent) → Contains (blocks layout) b
    → (c : Extent) → Contains (blocks layout) c → precedes c b ≡ true → c.padded_end ≤ b.begin
ends-before layout sound h =
    let n = record_count layout in
    each-block layout (λ b. (c : Extent) → Contains (blocks layout) c → precedes c b ≡ true → c.padded_end ≤ b.begin)
    (λ i x at_x fixed_x. each-block layout (λ c. precedes c (slot_block i x) ≡ true → c.padded_end ≤ x.begin)
    (λ k y at_y fixed_y first. fixed-before-fixed layout k i y x sound h at_y at_x fixed_y fixed_x first)
    (λ begin found first. absurd (grind (
      arith,
      nat_tests,
      records-place layout begin h found,
      fixed-ends-all layout i x h at_x fixed_x,
      (all-at IsSoundSlot layout.slots i x sound.sound_slots at_x).some_bytes,
    ))))
    (λ begin found. each-block layout (λ c. precedes c (records_block layout.slots n begin) ≡ true → c.padded_end ≤ begin)
    (λ k y at_y fixed_y first. omega (arith, records-place layout begin h found, fixed-ends-all layout k y h at_y fixed_y))
    (λ other again first. absurd (let same : other ≡ begin = cc in grind (arith, nat_tests))))

-- it doesn't begin after the header and the blocks before it end
not-after : (layout : FileLayout) → HasCanonicalBegins layout → (b : Extent) → Contains (blocks layout) b
    → b.begin ≤ max layout.header_end (greatest_end sweep.padding_end (before (blocks layout) b))
not-after layout h =
    each-block layout (λ b. b.begin ≤ max layout.header_end (greatest_end sweep.padding_end (before (blocks layout) b)))
    (λ i x at_x fixed_x. omega (
      arith,
      fixed-place layout i x h at_x fixed_x,
      place-reached layout (slot_block i x) i (λ k y at_y lt fixed_y. (
        fixed-place layout k y h at_y fixed_y,
        grind (arith, nat_tests, fixed-place layout i x h at_x fixed_x, fixed-ends layout k i y h at_y fixed_y lt),
      )),
    ))
    (λ begin found. let b = records_block layout.slots (record_count layout) begin in
    omega (
      arith,
      records-place layout begin h found,
      all-place layout,
      place-reached layout b (length layout.slots) (λ k y at_y lt fixed_y. (
        fixed-place layout k y h at_y fixed_y,
        grind (arith, nat_tests, records-place layout begin h found, fixed-ends-all layout k y h at_y fixed_y),
      )),
    ))

block-quiet : (layout : FileLayout) (b : Extent) → IsSoundLayout layout → HasCanonicalBegins layout → Contains (blocks layout) b
    → IsQuietBlock layout b
block-quiet layout b sound h has = grind (arith, before-le, ends-before, not-after)

-- ---- no findings

slot-none : (layout : FileLayout) (i : ℕ) (x : Slot) → IsQuietSlot layout i x → Quiet is_of_begin (slot_findings layout i x)
unfolding slot_findings
slot-none layout i x h = grind (arith, nat_tests, h.after_header, h.in_order, h.before_records, h.in_place)

block-none : (layout : FileLayout) (b : Extent) → IsQuietBlock layout b → Quiet is_of_begin (block_findings layout.header_end (blocks layout) b)
unfolding block_findings
block-none layout b h =
    let xs = before (blocks layout) b in
    let end = greatest_end sweep.padding_end xs in
    let values : greatest_end value_end xs ≤ end = greatest_from-least value_end 0 end xs (omega arith)
    (λ c has. let above = greatest_from-above sweep.padding_end 0 xs c has in
    let le = end-padded layout c (filter-contains (λ x. precedes x b) (blocks layout) c has).0 in omega arith) in
    grind (arith, nat_tests, h.not_before, h.not_after)

end-begin : (layout : FileLayout) → Quiet is_of_begin (end_findings layout)
unfolding end_findings
end-begin layout = grind arith

pub begins-quiet : CanonicalBeginsAreQuiet
begins-quiet layout sound h = grind (arith, all-quiet, slot-none, slot-quiet, end-begin, block-none, block-quiet)

-- ---- the end of the file

slot-end : (layout : FileLayout) (i : ℕ) (x : Slot) → Quiet is_of_end (slot_findings layout i x)
unfolding slot_findings
slot-end layout i x = grind arith

-- the values end within the used end, with their padding and without it
ends-used : (layout : FileLayout) (end : Extent → ℕ) → ((b : Extent) → Contains (blocks layout) b → end b ≤ b.padded_end)
    → fold max layout.header_end (map end (filter has_values (blocks layout))) ≤ used_end layout
ends-used layout end le =
    greatest_from-least end layout.header_end (used_end layout) (filter has_values (blocks layout))
    (greatest_from-ge (λ (b : Extent). b.padded_end) layout.header_end (blocks layout))
    (λ c has. let there = (filter-contains has_values (blocks layout) c has).0 in
    le_trans (le c there) (greatest_from-above (λ (b : Extent). b.padded_end) layout.header_end (blocks layout) c there))

pub length-quiet : CanonicalLengthIsQuiet
unfolding block_findings end_findings
length-quiet layout sound h len =
    let padding = ends-used layout (λ b. b.padded_end) (λ b has. le_refl b.padded_end) in
    let values = ends-used layout (λ b. b.end) (end-padded layout) in
    grind (arith, used-le, padding-ge, all-quiet, slot-end, nat_tests)

-- ---- generated files

-- these variables, which follow others, have the begins of a generated file
begins-canonical : (h : Header) (file_len : ℕ) (before vars : List Var) → h.vars ≡ before ++ vars
    → vars_with_begins h before vars ≡ vars → (j : ℕ)
    → IfSome (slice_get (map (slot_of h.dims) vars) j) (λ (slot : Slot).
    slot.begin ≡ canonical_begin (layout_of h (length (header_spelling h)) file_len) (length before + j) slot)
begins-canonical h file_len before [] is same j = tt
begins-canonical h file_len before (var ∷ vars) is same zero =
    grind (arith, begin-is h (length (header_spelling h)) file_len before var vars is)
begins-canonical h file_len before (var ∷ vars) is same (suc j) =
    let more : vars_with_begins h (before ++ var ∷ []) vars ≡ vars = cc in
    grind (
      arith,
      length-append before (var ∷ []),
      begins-canonical h file_len (before ++ var ∷ []) vars (is ∙ sym (append_assoc before (var ∷ []) vars)) more j,
    )

generated-canonical : (h : Header) (file_len : ℕ) → with_begins h ≡ h
    → HasCanonicalBegins (layout_of h (length (header_spelling h)) file_len)
unfolding with_begins
generated-canonical h file_len same i =
    grind (arith, begins-canonical h file_len [] h.vars refl (ap (λ (x : Header). x.vars) same) i)

pub generated-quiet : GeneratedFilesAreQuiet
generated-quiet h arrays n file_len known are sound begins len =
    grind (arith, generated-canonical, begins-bare, begins-quiet, length-quiet, canonical-is)
