-- The first slab that isn't whole, part by part.
use Rattle.nc_layout.proofs.Prelude.{range_with_len, cases_lt, nat_tests, common_steps, filter-append, sum_by-append, take-append-drop, Slot, SlabPlace, record_slots, slab_in_record, record_size, IsSoundSlot, first_of, first_slab, is_cut, record_slab, ◌≡◌, ℕ, zero, suc, ◌+◌, ◌*◌, ◌<◌, ◌≤◌, true, List, [], ◌∷◌, ◌++◌, length, get_or, map, filter, refl, sym, ap, arith, Option, Some, None, All, if◌then◌else◌, nat_lt}
use Rattle.std.proofs.Math.Nat.{mul-le-mul_right}
use Rattle.nc_layout.proofs.SlotLists.{rest-taken}

-- ---- the first of several

pub first_of-assoc : (a b c : Option SlabPlace) → first_of (first_of a b) c ≡ first_of a (first_of b c)
first_of-assoc a b c = grind (arith, nat_tests)

pub first_slab-append : (xs ys : List SlabPlace) → first_slab (xs ++ ys) ≡ first_of (first_slab xs) (first_slab ys)
first_slab-append [] ys = refl
first_slab-append (x ∷ xs) ys = grind (arith, first_of-assoc (Some x) (first_slab xs) (first_slab ys), first_slab-append xs ys)

-- ---- the slabs of a record slot

-- the first slab that isn't whole of n records, from record a on
abbrev first_cut : ℕ → ℕ → ℕ → Slot → ℕ → ℕ → Option SlabPlace
first_cut file_len size i slot a n = first_slab (filter (is_cut file_len) (map (record_slab size i slot) (range_with_len a n)))

-- a slab that doesn't begin after those is the first of all
first_stays : (file_len size i : ℕ) (slot : Slot) (n a : ℕ) (x : SlabPlace) → x.begin ≤ slot.begin + a * size
    → first_of (Some x) (first_cut file_len size i slot a n) ≡ Some x
first_stays file_len size i slot zero a x le = refl
first_stays file_len size i slot (suc n) a x le =
    let next : a * size ≤ (a + 1) * size = mul-le-mul_right size (omega arith) in
    grind (arith, nat_tests, first_stays file_len size i slot n (a + 1) x, first_of-assoc)

-- if this many slabs are whole, then the next one is the first that isn't, unless there is no such record
pub first_cut_is : (file_len size i : ℕ) (slot : Slot) (whole n a : ℕ)
    → ((r : ℕ) → r < whole → slot.begin + r * size + slot.slab ≤ file_len)
    → ((r : ℕ) → whole ≤ r → file_len < slot.begin + r * size + slot.slab) → a ≤ whole
    → first_cut file_len size i slot a n ≡ (if nat_lt whole (a + n) then Some (record_slab size i slot whole) else None)
first_cut_is file_len size i slot whole zero a is_whole is_cut_after le = grind (arith, nat_tests)
first_cut_is file_len size i slot whole (suc n) a is_whole is_cut_after le =
    let next : a * size ≤ (a + 1) * size = mul-le-mul_right size (omega arith) in
    let more = first_cut_is file_len size i slot whole n (a + 1) is_whole is_cut_after in
    let last = first_stays file_len size i slot n (a + 1) (record_slab size i slot a) in
    grind (arith, nat_tests, cases_lt a whole, is_whole a, is_cut_after a)

-- after a slab, the first slab of two lists that isn't whole
pub first_cut-append : (file_len : ℕ) (first : Option SlabPlace) (xs ys : List SlabPlace)
    → first_of first (first_slab (filter (is_cut file_len) (xs ++ ys)))
    ≡ first_of (first_of first (first_slab (filter (is_cut file_len) xs))) (first_slab (filter (is_cut file_len) ys))
first_cut-append file_len first xs ys = grind (arith, filter-append (is_cut file_len) xs ys, first_slab-append, first_of-assoc)

-- ---- the record size isn't 0

pub record_size_positive : (slots : List Slot) (i : ℕ) (d : Slot) → All IsSoundSlot slots → i < length slots
    → (get_or slots i d).is_record ≡ true → 0 < record_size slots
unfolding record_size
record_size_positive slots i d sound lt is =
    let f = slab_in_record slots in
    let split = ap record_slots (sym (take-append-drop i slots)) in
    let first = rest-taken slots i d lt is in
    grind (arith, common_steps, filter-append, sum_by-append, (sound i d lt).some_bytes)
