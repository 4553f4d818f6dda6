-- The blocks of a layout: those of slots that aren't record slots, and that of the records.
use Rattle.nccheck_laws.proofs.Prelude.{Contains, option_map_or, cases_lt, nat_tests, Contains-append_left, Contains-append_cases, Slot, FileLayout, Extent, padded_slab_len, is_fixed, record_slots, record_size, records_begin, record_count, each_slot, slot_block, fixed_block, records_end, records_block, blocks, before, precedes, greatest_end, bytes_before, is_record_slot, padding_end, contains-here, contains-filter, filter-contains, greatest_from-above, greatest_from-least, fixed_bytes, ◌≡◌, ℕ, suc, ◌+◌, ◌-◌, ◌*◌, ◌<◌, ◌≤◌, max, min, true, false, List, [], ◌∷◌, length, take, fold, refl, ap, arith, Some, unwrap_or, if◌then◌else◌, common_steps}
use Rattle.nccheck_laws.proofs.IndexedSlots.{At, contains-at, at-contains, there-from, in-each, total-whole, total-reach}

-- ---- each of them

-- what holds of those of slots and of that of the records holds of each block
pub each-block : (layout : FileLayout) (P : Extent → Type 0)
    → ((k : ℕ) (x : Slot) → At layout.slots k x → is_fixed x ≡ true → P (slot_block k x))
    → ((begin : ℕ) → records_begin layout.slots ≡ Some begin → P (records_block layout.slots (record_count layout) begin))
    → (b : Extent) → Contains (blocks layout) b → P b
unfolding blocks
each-block layout P fixed records b has =
    let of_slots = in-each fixed_block layout.slots P (λ k x at c there. grind (arith, fixed k x at)) b in
    grind (arith, Contains-append_cases (each_slot fixed_block 0 layout.slots) _ b has, records)

pub fixed-there : (layout : FileLayout) (k : ℕ) (x : Slot) → At layout.slots k x → is_fixed x ≡ true → Contains (blocks layout) (slot_block k x)
unfolding blocks
fixed-there layout k x at is =
    Contains-append_left (each_slot fixed_block 0 layout.slots) _ (slot_block k x)
    (there-from fixed_block 0 layout.slots k k x (slot_block k x) at (omega arith)
    (rw is (contains-here (slot_block k x) [])))

pub records-there : (layout : FileLayout) (begin : ℕ) → records_begin layout.slots ≡ Some begin
    → Contains (blocks layout) (records_block layout.slots (record_count layout) begin)
unfolding blocks
records-there layout begin at = grind (arith, common_steps, contains-here)

-- ---- those before one

-- where a slot that isn't a record slot begins, if it begins after the padded slabs of those before it
abbrev pub fixed_place : FileLayout → ℕ → ℕ
fixed_place layout i = layout.header_end + fixed_bytes (take i layout.slots)

pub all-place : (layout : FileLayout) → fixed_place layout (length layout.slots) ≡ layout.header_end + fixed_bytes layout.slots
all-place layout = ap (λ n. layout.header_end + n) (total-whole padded_slab_len is_fixed layout.slots)

pub before-le : (layout : FileLayout) (b : Extent) (m : ℕ)
    → ((c : Extent) → Contains (blocks layout) c → precedes c b ≡ true → c.padded_end ≤ m)
    → greatest_end padding_end (before (blocks layout) b) ≤ m
before-le layout b m each =
    greatest_from-least padding_end 0 m (before (blocks layout) b) (omega arith)
    (λ c has. let h = filter-contains (λ x. precedes x b) (blocks layout) c has in each c h.0 h.1)

-- slots in their places that precede a block reach the place of the next one
pub place-reached : (layout : FileLayout) (b : Extent) (i : ℕ)
    → ((k : ℕ) (x : Slot) → At layout.slots k x → k < i → is_fixed x ≡ true
    → (x.begin ≡ fixed_place layout k) × (precedes (slot_block k x) b ≡ true))
    → fixed_place layout i ≤ max layout.header_end (greatest_end padding_end (before (blocks layout) b))
place-reached layout b i each =
    let m = greatest_end padding_end (before (blocks layout) b) in
    let reach = total-reach padded_slab_len is_fixed layout.slots layout.header_end m i (λ k x at lt is.
    let h = each k x at lt is in
    let there = contains-filter (λ c. precedes c b) (blocks layout) (slot_block k x) (fixed-there layout k x at is) h.1 in
    omega (arith, h.0, greatest_from-above padding_end 0 (before (blocks layout) b) (slot_block k x) there)) in omega arith

-- ---- the end of the records

-- where record slots end with the last record, if these bytes of a slab count
abbrev pub last_end : List Slot → ℕ → (Slot → ℕ) → Slot → ℕ
last_end slots n bytes x = x.begin + (n - 1) * record_size slots + bytes x

record-there : (slots : List Slot) (k : ℕ) (x : Slot) → At slots k x → x.is_record ≡ true → Contains (record_slots slots) x
record-there slots k x at is = contains-filter is_record_slot slots x (at-contains slots k x at) is

pub records_end-above : (slots : List Slot) (n begin : ℕ) (bytes : Slot → ℕ) (k : ℕ) (x : Slot) → 0 < n → At slots k x → x.is_record ≡ true
    → last_end slots n bytes x ≤ records_end slots n begin bytes
records_end-above slots n begin bytes k x some at is =
    grind (arith, nat_tests, greatest_from-above (last_end slots n bytes) 0 (record_slots slots) x (record-there slots k x at is))

pub records_end-le : (slots : List Slot) (n begin m : ℕ) (bytes : Slot → ℕ) → (n ≡ 0 → begin ≤ m)
    → ((k : ℕ) (x : Slot) → At slots k x → x.is_record ≡ true → 0 < n → last_end slots n bytes x ≤ m)
    → records_end slots n begin bytes ≤ m
records_end-le slots n begin m bytes none each =
    let least = λ (some : 0 < n). greatest_from-least (last_end slots n bytes) 0 m (record_slots slots) (omega arith) (λ x has.
    let h = filter-contains is_record_slot slots x has in
    let at = contains-at slots x h.0 in each at.0 x at.1 h.1 some) in grind (arith, nat_tests, cases_lt 0 n)

-- ---- the begin of the records

pub min-from : (a n : ℕ) (ns : List ℕ) → fold min (min a n) ns ≡ min a (fold min n ns)
min-from a n [] = refl
min-from a n (m ∷ ns) = grind (arith, min-from a (min n m) ns)

-- where the records begin with one more slot
begin-more : (x : Slot) (slots : List Slot)
    → records_begin (x ∷ slots)
    ≡ (if x.is_record then Some (option_map_or (min x.begin) (records_begin slots) x.begin) else records_begin slots)
unfolding records_begin
begin-more x slots = grind (arith, min-from)

-- the begin of the records, if there are record slots
abbrev pub first_begin : List Slot → ℕ
first_begin slots = unwrap_or (records_begin slots) 0

pub begins : (slots : List Slot) (k : ℕ) (x : Slot) → At slots k x → x.is_record ≡ true
    → (records_begin slots ≡ Some (first_begin slots)) × (first_begin slots ≤ x.begin)
begins [] k x at is = cc
begins (y ∷ ys) v1 x at is = grind (arith, begin-more y ys, λ (k : ℕ). begins ys k x)

pub begin-ge : (slots : List Slot) (begin m : ℕ) → records_begin slots ≡ Some begin
    → ((k : ℕ) (x : Slot) → At slots k x → x.is_record ≡ true → m ≤ x.begin) → m ≤ begin
unfolding records_begin
begin-ge [] begin m is each = cc
begin-ge (y ∷ ys) begin m is each =
    let more = λ (b : ℕ) (e : records_begin ys ≡ Some b). begin-ge ys b m e (λ k x at. each (suc k) x at) in
    grind (arith, begin-more y ys, each 0 y refl)

-- slots in their places in the record begin where the records do
pub begin-is : (slots : List Slot) (begin base : ℕ) → records_begin slots ≡ Some begin
    → ((k : ℕ) (x : Slot) → At slots k x → x.is_record ≡ true → x.begin ≡ base + bytes_before slots k) → begin ≡ base
unfolding records_begin
begin-is [] begin base is each = cc
begin-is (y ∷ ys) begin base is each =
    let ge = λ (b : ℕ) (e : records_begin ys ≡ Some b). begin-ge ys b base e (λ k x at rec. omega (arith, each (suc k) x at rec)) in
    let same = λ (fixed : y.is_record ≡ false) (b : ℕ) (e : records_begin ys ≡ Some b).
    begin-is ys b base e (λ k x at rec. grind (arith, each (suc k) x at rec)) in
    grind (arith, begin-more y ys, each 0 y refl)
