-- The slots of a header's variables: which have records, and how many bytes they take.
use Rattle.nc_layout.proofs.Prelude.{common_steps, take_more, get_or-map, length-map, All-push, fold-map, sum-map, Dim, Header, Var, record_vars, padded_size, padded_total, slab_size, slab_limit, Slot, padded_slab_len, record_slots, IsSoundSlot, IsSoundLayout, slot_of, layout_of, ◌≡◌, ℕ, ◌+◌, ◌<◌, ◌≤◌, ◌∙◌, Bool, List, [], ◌∷◌, ◌++◌, length, get_or, take, map, filter, sum_by, ap, refl, subst, sym, arith, All}

-- ---- the slots of a loop

-- the slab of this variable keeps the limit
abbrev pub HasSmallSlab : List Dim → Var → Type 0
HasSmallSlab dims var = slab_size dims var ≤ slab_limit

-- these are the slots of these variables, whose slabs keep the limit
pub record AreSlots (dims : List Dim) (vars : List Var) (slots : List Slot) : Type 0 where
  pub are : slots ≡ map (slot_of dims) vars
  pub small : All (HasSmallSlab dims) vars

-- one more slot
pub slots_more : (dims : List Dim) (vars : List Var) (i : ℕ) (slots : List Slot) (x : Var) → i < length vars → x ≡ get_or vars i x
    → HasSmallSlab dims x → AreSlots dims (take i vars) slots → AreSlots dims (take (i + 1) vars) (slots ++ slot_of dims x ∷ [])
slots_more dims vars i slots x lt at small so_far =
    let more : take (i + 1) vars ≡ take i vars ++ x ∷ [] = cc (take_more vars i x lt) in
    rw more (record { are = grind (arith, common_steps); small = All-push (HasSmallSlab dims) (take i vars) x so_far.small small })

-- ---- their bytes

-- the padded slabs of these variables
pub slots-total : (dims : List Dim) (vars : List Var) → sum_by padded_slab_len (map (slot_of dims) vars) ≡ padded_total dims vars
slots-total dims vars = fold-map (λ (n : ℕ) (slot : Slot). n + padded_slab_len slot) (slot_of dims) 0 vars ∙ sym (sum-map (padded_size dims) vars)

-- the slots that pass a test are those of the variables whose slots pass it
pub kept-slots : (p : Slot → Bool) (dims : List Dim) (vars : List Var)
    → filter p (map (slot_of dims) vars) ≡ map (slot_of dims) (filter (λ (var : Var). p (slot_of dims var)) vars)
kept-slots p dims [] = refl
kept-slots p dims (var ∷ vars) = grind (arith, kept-slots p dims vars)

pub record_slots-are : (dims : List Dim) (vars : List Var)
    → record_slots (map (slot_of dims) vars) ≡ map (slot_of dims) (record_vars dims vars)
record_slots-are dims vars = kept-slots (λ (slot : Slot). slot.is_record) dims vars

pub record_slots-total : (dims : List Dim) (vars : List Var)
    → sum_by padded_slab_len (record_slots (map (slot_of dims) vars)) ≡ padded_total dims (record_vars dims vars)
record_slots-total dims vars = ap (sum_by padded_slab_len) (record_slots-are dims vars) ∙ slots-total dims (record_vars dims vars)

-- ---- sound layouts

-- what holds of the slots of variables
pub unmapped : (P : Slot → Type 0) (dims : List Dim) (vars : List Var) → All P (map (slot_of dims) vars)
    → All (λ (var : Var). P (slot_of dims var)) vars
unmapped P dims vars all =
    λ k d lt. subst P (get_or-map (slot_of dims) vars k d (slot_of dims d) lt) (all k (slot_of dims d) (simp length-map lt))

-- the slabs of a sound layout keep the limit
pub small_slabs : (h : Header) (header_end file_len : ℕ) → IsSoundLayout (layout_of h header_end file_len)
    → All (HasSmallSlab h.dims) h.vars
small_slabs h header_end file_len sound = λ k d lt. (unmapped IsSoundSlot h.dims h.vars sound.sound_slots k d lt).small_slab
