-- What is kept of the slots that a loop has passed, one slot on.
use Rattle.nc_layout.proofs.Prelude.{nat_tests, list_any, prefix_len, common_steps, fold-append, at_drop_more, take_more, map-append, length-take-le, filter-append, All-head, All-tail, position_or_len_push, sum_by-append, take-append-drop, ForSome, Slot, PassedSlots, padded_slab_len, is_fixed, record_slots, records_begin, IsSoundSlot, greatest_begin, fixed_slot_at, bytes_before, has_successor, order, HasPassed, passed_after, next_has_successor, is_record_slot, order_after, ◌≡◌, ℕ, ◌+◌, ◌<◌, ◌≤◌, max, min, Bool, true, false, not, List, [], ◌∷◌, ◌++◌, length, get_or, drop, take, map, fold, filter, sum_by, count_by, refl, sym, ◌∙◌, ap, arith, Option, Some, ◌^◌, All, if◌then◌else◌, nat_lt, ◌==◌, ◌&&◌, is_some, slice_get}
use Rattle.std.proofs.lemmas.Option.{slice_get_within, get_or_from_slice_get}
use Rattle.nc_layout.proofs.SweptBlocks.{greatest_from-ge}

-- ---- successors

some_passes : (p : Slot → Bool) (xs : List Slot) → list_any p xs ≡ nat_lt 0 (count_by p xs)
some_passes p [] = refl
some_passes p (x ∷ xs) = grind (arith, common_steps, some_passes p xs)

-- there are record slots if and only if the records begin somewhere
pub records_begin-some : (slots : List Slot) → is_some (records_begin slots) ≡ list_any is_record_slot slots
unfolding records_begin
records_begin-some [] = refl
records_begin-some (slot ∷ slots) = grind (arith, records_begin-some slots)

-- a count that includes the next slot shows whether another follows
follows : (p : Slot → Bool) (slots : List Slot) (i left : ℕ) (slot : Slot) → slice_get slots i ≡ Some slot → p slot ≡ true
    → left ≡ count_by p (drop i slots) → nat_lt 1 left ≡ list_any p (drop (i + 1) slots)
follows p slots i left slot at is count =
    let step = at_drop_more (count_by p) slots i slot (slice_get_within slots i slot at) in
    grind (arith, common_steps, some_passes p (drop (i + 1) slots), get_or_from_slice_get slots i slot slot at)

pub has_successor_is : (slots : List Slot) (i : ℕ) (passed : PassedSlots) (begin : Option ℕ) (slot : Slot) → HasPassed slots i passed
    → begin ≡ records_begin slots → slice_get slots i ≡ Some slot
    → next_has_successor passed (is_some begin) slot ≡ has_successor slots i slot
has_successor_is slots i passed begin slot h at_begin at =
    let records = follows is_record_slot slots i passed.records_left slot at in
    let fixed = follows is_fixed slots i passed.fixed_left slot at in grind (arith, records_begin-some slots)

-- ---- bounds

fold_min-le : (n : ℕ) (ns : List ℕ) → fold min n ns ≤ n
fold_min-le n [] = omega arith
fold_min-le n (m ∷ ns) = let h = fold_min-le (min n m) ns in omega arith

pub records_begin-small : (slots : List Slot) (b : ℕ) → All IsSoundSlot slots → records_begin slots ≡ Some b → b < 2 ^ 63
unfolding records_begin
records_begin-small [] b sound is = cc
records_begin-small (slot ∷ slots) b sound is =
    grind (arith, All-head IsSoundSlot slot slots sound, fold_min-le, records_begin-small slots b (All-tail IsSoundSlot slot slots sound))

pub bytes_before-le : (slots : List Slot) (i : ℕ) → bytes_before slots i ≤ sum_by padded_slab_len (record_slots slots)
bytes_before-le slots i =
    let split = ap record_slots (sym (take-append-drop i slots)) in grind (arith, common_steps, filter-append, sum_by-append)

-- ---- the greatest begin

-- the greatest of a number and the begins of the slots that aren't record slots
abbrev greatest_from : ℕ → List Slot → ℕ
greatest_from a xs = fold max a (map (λ (slot : Slot). slot.begin) (filter is_fixed xs))

abbrev fails : ℕ → Slot → Bool
fails m slot = not (is_fixed slot && (slot.begin == m))

greatest-ge : (a : ℕ) (xs : List Slot) → a ≤ greatest_from a xs
greatest-ge a xs = greatest_from-ge (λ (slot : Slot). slot.begin) a (filter is_fixed xs)

-- where no slot begins as late as m, none begins at m
none_above : (xs : List Slot) (a m : ℕ) → greatest_from a xs < m → prefix_len (fails m) xs ≡ length xs
none_above [] a m small = refl
none_above (x ∷ xs) a m small = grind (arith, none_above xs a m, none_above xs (max a x.begin) m, greatest-ge)

-- a slot begins at the greatest begin, unless that is the number
attained : (xs : List Slot) (a m : ℕ) → m ≡ greatest_from a xs → a < m → prefix_len (fails m) xs < length xs
attained [] a m is more = absurd (omega arith)
attained (x ∷ xs) a m is more = grind (arith, attained xs a m, attained xs (max a x.begin) m, greatest-ge)

greatest_begin-push : (xs : List Slot) (y : Slot)
    → greatest_begin (xs ++ y ∷ []) ≡ (if y.is_record then greatest_begin xs else max (greatest_begin xs) y.begin)
greatest_begin-push xs y = simp (filter-append, map-append, fold-append) (grind arith)

fixed_slot_at-kept : (xs : List Slot) (y : Slot) (m : ℕ) → prefix_len (fails m) xs < length xs
    → fixed_slot_at (xs ++ y ∷ []) m ≡ fixed_slot_at xs m
fixed_slot_at-kept xs y m h = grind (arith, common_steps, position_or_len_push)

fixed_slot_at-new : (xs : List Slot) (y : Slot) (m : ℕ) → y.is_record ≡ false → y.begin ≡ m → prefix_len (fails m) xs ≡ length xs
    → fixed_slot_at (xs ++ y ∷ []) m ≡ length xs
fixed_slot_at-new xs y m rec at none = grind (arith, common_steps, position_or_len_push)

-- ---- one slot on

-- the state after one more slot is the one that it should be
pub passed-more : (slots : List Slot) (i : ℕ) (passed : PassedSlots) (d : Slot) → HasPassed slots i passed → i < length slots
    → HasPassed slots (i + 1) (passed_after passed i (get_or slots i d))
passed-more slots i passed d h lt =
    let x = get_or slots i d in
    let front = take i slots in
    let more = take_more slots i d lt in
    let len = length-take-le i slots (omega arith) in
    record {
      begin = grind (arith, greatest_begin-push front x);
      latest = λ some.
          let found = attained front 0 passed.latest_begin h.begin in
          let kept = fixed_slot_at-kept front x passed.latest_begin in
          let new = fixed_slot_at-new front x x.begin in
          grind (arith, nat_tests, none_above front 0 x.begin, greatest_begin-push front x);
      bytes = grind (arith, common_steps, filter-append, sum_by-append);
      fixed = grind (arith, common_steps, at_drop_more (count_by is_fixed) slots i d lt);
      records = grind (arith, common_steps, at_drop_more (count_by is_record_slot) slots i d lt);
    }

-- ---- the rules on the next slot

pub order_is : (slots : List Slot) (i : ℕ) (passed : PassedSlots) (slot : Slot) → HasPassed slots i passed
    → order_after passed i slot ≡ order (take i slots) i slot
order_is slots i passed slot h = grind (arith, nat_tests, h.begin, h.latest)

-- the records begin at a small offset
pub begin_is_small : (slots : List Slot) (o : Option ℕ) → All IsSoundSlot slots → o ≡ records_begin slots
    → ForSome o (λ begin. begin < 2 ^ 63)
begin_is_small slots o sound is = λ begin at. records_begin-small slots begin sound (sym is ∙ at)

pub bytes_are_small : (slots : List Slot) (i bytes : ℕ) → bytes ≡ bytes_before slots i → sum_by padded_slab_len (record_slots slots) ≤ 2 ^ 62
    → bytes ≤ 2 ^ 62
bytes_are_small slots i bytes is small = omega (arith, bytes_before-le slots i)
