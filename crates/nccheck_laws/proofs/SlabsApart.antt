-- If none of the findings lets slabs share bytes, no two slabs have a byte in common.
use Rattle.nccheck_laws.proofs.Prelude.{Contains, AllPairs, cases_lt, nat_tests, All-append, Contains-get_or, get_or-map-range_with_len, length-map-range_with_len, AllPairs-cons, mul-le-mul_right, Slot, FileLayout, Extent, SlabPlace, padded_slab_len, is_fixed, record_size, record_count, each_slot, blocks, before, precedes, slot_findings, bytes_before, block_findings, record_slab, slabs_of, all_slabs, is_of_shared_bytes, FindsNone, AreApart, QuietSlabsAreApart, is_record_slot, value_end, contains-here, contains-there, contains-filter, greatest_from-above, ◌≡◌, ℕ, suc, ◌+◌, ◌-◌, ◌*◌, ◌<◌, ◌≤◌, true, List, [], ◌∷◌, ◌++◌, get_or, arith, refl}
use Rattle.nccheck_laws.proofs.FoundNone.{quiet-slot, quiet-block}
use Rattle.nccheck_laws.proofs.IndexedSlots.{At, in-from, in-each, total-below, slab-fits, slab-le}
use Rattle.nccheck_laws.proofs.LayoutBlocks.{fixed-there, records-there, records_end-above, first_begin, begins}
use Rattle.nccheck_laws.proofs.WholeSlots.{fixed_slab, each-slab}

-- ---- what holds of slots and blocks

-- a block begins after the end of each block that precedes it
ends-first : (layout : FileLayout) (b c : Extent) → FindsNone is_of_shared_bytes layout → Contains (blocks layout) b
    → Contains (blocks layout) c → precedes b c ≡ true → b.end ≤ c.begin
unfolding block_findings
ends-first layout b c quiet has_b has_c first =
    let found = quiet-block is_of_shared_bytes layout c quiet has_c in
    let there = contains-filter (λ x. precedes x c) (blocks layout) b has_b first in
    let above = greatest_from-above value_end 0 (before (blocks layout) c) b there in
    grind (arith, nat_tests)

-- ---- pairs of a list that is made of parts

pub append-pairs : {A : Type 0} (R : A → A → Type 0) (xs ys : List A) → AllPairs R xs → AllPairs R ys
    → ((a b : A) → Contains xs a → Contains ys b → R a b) → AllPairs R (xs ++ ys)
append-pairs {A} R [] ys in_xs in_ys across = in_ys
append-pairs {A} R (x ∷ xs) ys in_xs in_ys across =
    AllPairs-cons R x (xs ++ ys)
    (All-append (R x) xs ys (λ k d lt. in_xs 0 (suc k) d (omega arith) (omega arith))
    (λ k d lt. across x (get_or ys k d) (contains-here x xs) (Contains-get_or ys k d lt)))
    (append-pairs R xs ys (λ i j d lt within. in_xs (suc i) (suc j) d (omega arith) (omega arith)) in_ys
    (λ a b in_a in_b. across a b (contains-there x a xs in_a) in_b))

each-pairs : (R : SlabPlace → SlabPlace → Type 0) (f : ℕ → Slot → List SlabPlace) (i : ℕ) (slots : List Slot)
    → ((k m : ℕ) (x : Slot) → At slots k x → AllPairs R (f m x))
    → ((k l m n : ℕ) (x y : Slot) → k < l → At slots k x → At slots l y → (a b : SlabPlace)
    → Contains (f m x) a → Contains (f n y) b → R a b)
    → AllPairs R (each_slot f i slots)
each-pairs R f i [] own across = λ j k e lt within. absurd (omega arith)
each-pairs R f i (x ∷ xs) own across =
    append-pairs R (f i x) (each_slot f (i + 1) xs) (own 0 i x refl)
    (each-pairs R f (i + 1) xs (λ k m y at. own (suc k) m y at)
    (λ k l m n y z lt at_y at_z. across (suc k) (suc l) m n y z (omega arith) at_y at_z))
    (λ a b in_a in_b. in-from f (i + 1) xs (R a) (λ k n z at is c has. across 0 (suc k) i n x z (omega arith) refl at a c in_a has) b in_b)

-- ---- places in the record

-- record r ends before record q begins
pub next-record : (r q size : ℕ) → r < q → r * size + size ≤ q * size
next-record r q size lt = grind arith

-- a slab of a record slot lies in its record
in-record : (layout : FileLayout) (k : ℕ) (x : Slot) → At layout.slots k x → x.is_record ≡ true
    → bytes_before layout.slots k + x.slab ≤ record_size layout.slots
in-record layout k x at is = let fits = slab-fits layout.slots k x at is in let le = (slab-le layout.slots x).0 in omega arith

-- ---- two slabs

abbrev size : FileLayout → ℕ
size layout = record_size layout.slots

own-apart : (layout : FileLayout) (k m : ℕ) (x : Slot) → At layout.slots k x
    → AllPairs AreApart (slabs_of (size layout) (record_count layout) m x)
own-apart layout k m x at = grind (arith, length-map-range_with_len, next-record, in-record, get_or-map-range_with_len)

both-fixed : (layout : FileLayout) (k l : ℕ) (x y : Slot) → FindsNone is_of_shared_bytes layout → At layout.slots k x → At layout.slots l y
    → k < l → is_fixed x ≡ true → is_fixed y ≡ true → AreApart (fixed_slab k x) (fixed_slab l y)
both-fixed layout k l x y quiet at_x at_y lt is_x is_y =
    let b = fixed-there layout k x at_x is_x in
    let c = fixed-there layout l y at_y is_y in
    grind (arith, nat_tests, ends-first layout _ _ quiet b c, ends-first layout _ _ quiet c b)

-- where a record slot begins
in-place : (layout : FileLayout) (k : ℕ) (x : Slot) → FindsNone is_of_shared_bytes layout → At layout.slots k x → x.is_record ≡ true
    → x.begin ≡ first_begin layout.slots + bytes_before layout.slots k
unfolding slot_findings
in-place layout k x quiet at is =
    let h = quiet-slot is_of_shared_bytes layout k x quiet at in grind (arith, nat_tests, begins layout.slots k x at is)

both-record : (layout : FileLayout) (k l r q : ℕ) (x y : Slot) → FindsNone is_of_shared_bytes layout → At layout.slots k x
    → At layout.slots l y → k < l → x.is_record ≡ true → y.is_record ≡ true
    → AreApart (record_slab (size layout) k x r) (record_slab (size layout) l y q)
both-record layout k l r q x y quiet at_x at_y lt is_x is_y =
    let place_x = in-place layout k x quiet at_x is_x in
    let place_y = in-place layout l y quiet at_y is_y in
    let fits = in-record layout l y at_y is_y in
    let below = total-below padded_slab_len is_record_slot layout.slots k l x at_x is_x lt in
    grind (arith, cases_lt q r, next-record q r (size layout), λ (le : r ≤ q). mul-le-mul_right (size layout) le)

fixed-record : (layout : FileLayout) (k l q : ℕ) (x y : Slot) → FindsNone is_of_shared_bytes layout → At layout.slots k x → At layout.slots l y
    → is_fixed x ≡ true → y.is_record ≡ true → q < record_count layout → AreApart (fixed_slab k x) (record_slab (size layout) l y q)
fixed-record layout k l q x y quiet at_x at_y is_x is_y counted =
    let n = record_count layout in
    let begin = first_begin layout.slots in
    let b = fixed-there layout k x at_x is_x in
    let c = records-there layout begin (begins layout.slots l y at_y is_y).0 in
    let above = records_end-above layout.slots n begin (λ s. s.slab) l y (omega arith) at_y is_y in
    let last : q * size layout ≤ (n - 1) * size layout = mul-le-mul_right (size layout) (omega arith) in
    let place = in-place layout l y quiet at_y is_y in
    grind (arith, nat_tests, ends-first layout _ _ quiet b c, ends-first layout _ _ quiet c b)

across-apart : (layout : FileLayout) → FindsNone is_of_shared_bytes layout → (k l m n : ℕ) (x y : Slot) → k < l → At layout.slots k x
    → At layout.slots l y → (a b : SlabPlace) → Contains (slabs_of (size layout) (record_count layout) m x) a
    → Contains (slabs_of (size layout) (record_count layout) n y) b → AreApart a b
across-apart layout quiet k l m n x y lt at_x at_y a b in_a in_b =
    let count = record_count layout in
    each-slab (size layout) count m x (λ c. AreApart c b)
    (λ is_x. each-slab (size layout) count n y (AreApart (fixed_slab m x)) (both-fixed layout k l x y quiet at_x at_y lt is_x)
    (λ is_y q counted. fixed-record layout k l q x y quiet at_x at_y is_x is_y counted) b in_b)
    (λ is_x r counted. each-slab (size layout) count n y (AreApart (record_slab (size layout) m x r))
    (λ is_y. grind (arith, fixed-record layout l k r y x quiet at_y at_x is_y is_x counted))
    (λ is_y q within. both-record layout k l r q x y quiet at_x at_y lt is_x is_y) b in_b) a in_a

-- ---- the law

after-header : (layout : FileLayout) (b : SlabPlace) → FindsNone is_of_shared_bytes layout → Contains (all_slabs layout) b
    → layout.header_end ≤ b.begin
unfolding all_slabs slot_findings
after-header layout b quiet has =
    let count = record_count layout in
    in-each (slabs_of (size layout) count) layout.slots (λ c. layout.header_end ≤ c.begin) (λ k x at.
    let h = quiet-slot is_of_shared_bytes layout k x quiet at in
    let le : layout.header_end ≤ x.begin = grind (arith, nat_tests) in
    each-slab (size layout) count k x (λ c. layout.header_end ≤ c.begin) (λ is. le) (λ is r lt. omega arith)) b has

pub quiet-apart : QuietSlabsAreApart
unfolding all_slabs
quiet-apart layout quiet = record {
  slabs = each-pairs AreApart (slabs_of (record_size layout.slots) (record_count layout)) 0 layout.slots
      (λ k m x at. own-apart layout k m x at) (across-apart layout quiet);
  header = λ k e lt. after-header layout _ quiet (Contains-get_or (all_slabs layout) k e lt);
}
