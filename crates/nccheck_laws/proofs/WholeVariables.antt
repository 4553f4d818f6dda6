-- The slabs of a variable are whole in a file if none of its values is missing, and the other way around.
use Rattle.nccheck_laws.proofs.Prelude.{position, range_with_len, map-append, All-cons, All-head, All-nil, All-tail, fails_before_first, Header, Var, Bytes, distance, ends_after, first_missing, slab_strides, value_offsets, vectors_below, is_record_var, product, slab_lens, slab_size, size_of, fixed-whole, record-whole, slot_of, ◌≡◌, ℕ, zero, suc, ◌+◌, ◌*◌, ◌<◌, ◌≤◌, Bool, true, false, List, [], ◌∷◌, ◌++◌, length, map, refl, arith, None, All, if◌then◌else◌, flat_map}
use Rattle.nc_base.specs.Sizes.{record_size}
use Rattle.nccheck_laws.proofs.WholeSlots.{IsWholeSlot}

-- ---- lists

all-parts : {X : Type 0} (P : X → Type 0) (xs ys : List X) → All P (xs ++ ys) → All P xs × All P ys
all-parts P [] ys all = (All-nil P, all)
all-parts P (x ∷ xs) ys all =
    let others = all-parts P xs ys (All-tail P x (xs ++ ys) all) in (All-cons P x xs (All-head P x (xs ++ ys) all) others.0, others.1)

-- ---- values at index vectors

-- the value of this size at an offset ends within a file of this length
abbrev EndsIn : ℕ → ℕ → ℕ → Type 0
EndsIn size len offset = offset + size ≤ len

-- the offset of a value after a base
abbrev pub at : ℕ → List ℕ → List ℕ → ℕ
at base strides index = base + distance index strides

abbrev AllEnd : ℕ → ℕ → ℕ → List ℕ → List (List ℕ) → Type 0
AllEnd size len base strides vectors = All (EndsIn size len) (map (at base strides) vectors)

-- the index vectors of a row
abbrev pub row : List (List ℕ) → ℕ → List (List ℕ)
row vectors i = map (λ (index : List ℕ). i ∷ index) vectors

none-ends : (size : ℕ) (b xs : List ℕ) → position (ends_after size (length b)) xs ≡ None → All (EndsIn size (length b)) xs
none-ends size b xs none = grind (arith, fails_before_first)

pub row-same : (base i stride : ℕ) (strides : List ℕ) (vs : List (List ℕ))
    → map (at base (stride ∷ strides)) (row vs i) ≡ map (at (base + i * stride) strides) vs
row-same base i stride strides [] = refl
row-same base i stride strides (v ∷ vs) = grind (arith, at, row-same base i stride strides vs)

-- where the values of some rows end in the file, those of each of them do
each-row-ends : (size len base stride : ℕ) (strides : List ℕ) (vs : List (List ℕ)) (k n : ℕ)
    → AllEnd size len base (stride ∷ strides) (flat_map (row vs) (range_with_len k n)) → (r m : ℕ) → r < n → m ≡ k + r
    → AllEnd size len (base + m * stride) strides vs
each-row-ends size len base stride strides vs k zero all r m lt is = absurd (omega arith)
each-row-ends size len base stride strides vs k (suc n) all zero m lt is =
    let first : AllEnd size len base (stride ∷ strides) (row vs k) = (all-parts (EndsIn size len) _ _ (simp map-append at all)).0 in
    grind (arith, row-same base k stride strides vs)
each-row-ends size len base stride strides vs k (suc n) all (suc q) m lt is =
    let others : AllEnd size len base (stride ∷ strides) (flat_map (row vs) (range_with_len (k + 1) n)) =
    (all-parts (EndsIn size len) _ _ (simp map-append at all)).1 in
    each-row-ends size len base stride strides vs (k + 1) n others q m (omega arith) (omega arith)

-- where the values of a slab end in the file, the slab does
slab-ends : (size len base : ℕ) (lens : List ℕ) → 0 < product lens → AllEnd size len base (slab_strides size lens) (vectors_below lens)
    → base + product lens * size ≤ len
slab-ends size len base [] some all = let h = All-head (EndsIn size len) (base + 0) [] all in omega arith
slab-ends size len base (zero ∷ lens) some all = absurd (omega arith)
slab-ends size len base (suc m ∷ lens) some all =
    let s = size * product lens in
    let last = slab-ends size len (base + m * s) lens (grind arith)
    (each-row-ends size len base s (slab_strides size lens) (vectors_below lens) 0 (suc m) all m m (omega arith) (omega arith)) in
    let a : suc m * product lens * size ≡ m * s + product lens * size = omega arith in
    omega arith

-- ---- of a variable

fixed-ends : (h : Header) (b : Bytes) (var : Var) (n : ℕ) → 0 < product (slab_lens h.dims var.dimids) → is_record_var h.dims var ≡ false
    → first_missing h b var n ≡ None → var.begin_at + slab_size h.dims var ≤ length b
unfolding value_offsets
fixed-ends h b var n some fixed none = grind (arith, none-ends, slab-ends)

record-ends : (h : Header) (b : Bytes) (var : Var) (n : ℕ) → 0 < product (slab_lens h.dims var.dimids) → is_record_var h.dims var ≡ true
    → first_missing h b var n ≡ None → (r : ℕ) → r < n → var.begin_at + r * record_size h + slab_size h.dims var ≤ length b
unfolding value_offsets
record-ends h b var n some growing none = at_kind (is_record_var h.dims var) growing (none-ends (size_of var.ty) b _ none)
  where
    lens : List ℕ
    lens = slab_lens h.dims var.dimids

    at_kind : (kind : Bool) → kind ≡ true
        → AllEnd (size_of var.ty) (length b) var.begin_at
        (if kind then record_size h ∷ slab_strides (size_of var.ty) lens else slab_strides (size_of var.ty) lens)
        (vectors_below (if kind then n ∷ lens else lens))
        → (r : ℕ) → r < n → var.begin_at + r * record_size h + product lens * size_of var.ty ≤ length b
    at_kind false e all r lt = cc
    at_kind true e all r lt =
        slab-ends (size_of var.ty) (length b) (var.begin_at + r * record_size h) lens some
        (each-row-ends (size_of var.ty) (length b) var.begin_at (record_size h) (slab_strides (size_of var.ty) lens) (vectors_below lens)
        0 n all r r lt (omega arith))

pub some-values : (count size : ℕ) → 1 ≤ count * size → 0 < count
some-values v0 size some = grind arith

pub whole-slot : (h : Header) (b : Bytes) (var : Var) (n : ℕ) → 1 ≤ slab_size h.dims var → first_missing h b var n ≡ None
    → IsWholeSlot (length b) (record_size h) n (slot_of h.dims var)
whole-slot h b var n some none = grind (arith, some-values, fixed-ends, record-ends)

pub whole-variable : (h : Header) (b : Bytes) (var : Var) (n : ℕ) → IsWholeSlot (length b) (record_size h) n (slot_of h.dims var)
    → first_missing h b var n ≡ None
whole-variable h b var n whole = grind (arith, record-whole, fixed-whole)
