-- Where the values of a variable lie, slab by slab: the bytes of all values, one after the other, are the slabs as the
-- file has them, and no value is missing where each slab lies inside of the file.
use Rattle.nc_base.proofs.Prelude.{◌≡◌, ℕ, zero, suc, ◌+◌, ◌*◌, ◌<◌, ◌≤◌, true, false, List, [], ◌∷◌, ◌++◌, length, take, drop, map, refl, sym, ◌∙◌, ap, subst, arith, append-nil, None, All, concat, flat_map, range_with_len, position, take-add, mul-le-mul_right, le-ltb, drop-drop, map-append, concat-append, position_or_len_is, All-nil, All-cons, All-append, Header, Var, size_of, product, is_record_var, slab_lens, slab_size, record_size, vectors_below, slab_strides, distance, value_offsets, bytes_at, stored_bytes, ends_after, first_missing}
use Rattle.nc_base.proofs.WholeValues.{none-found}

-- ---- index vectors whose first index goes over some rows

-- the offset of a value after a base
abbrev pub at : ℕ → List ℕ → List ℕ → ℕ
at base strides index = base + distance index strides

-- the bytes of the values at these index vectors
abbrev joined : ℕ → List ℕ → ℕ → List ℕ → List (List ℕ) → List ℕ
joined size b base strides vectors = concat (map (bytes_at size b) (map (at base strides) vectors))

-- one row
joined-row : (size : ℕ) (b : List ℕ) (base i stride : ℕ) (strides : List ℕ) (vs : List (List ℕ))
    → joined size b base (stride ∷ strides) (map (λ (index : List ℕ). i ∷ index) vs) ≡ joined size b (base + i * stride) strides vs
joined-row size b base i stride strides [] = refl
joined-row size b base i stride strides (v ∷ vs) = grind (arith, joined, joined-row size b base i stride strides vs)

-- all rows
joined-rows : (size : ℕ) (b : List ℕ) (base stride : ℕ) (strides : List ℕ) (vs : List (List ℕ)) (k n : ℕ)
    → joined size b base (stride ∷ strides) (flat_map (λ i. map (λ (index : List ℕ). i ∷ index) vs) (range_with_len k n))
    ≡ flat_map (λ i. joined size b (base + i * stride) strides vs) (range_with_len k n)
joined-rows size b base stride strides vs k zero = refl
joined-rows size b base stride strides vs k (suc n) =
    grind (arith, map-append, concat-append, joined-row, joined-rows size b base stride strides vs (k + 1) n)

pub flat_map-same : (f g : ℕ → List ℕ) (xs : List ℕ) → ((x : ℕ) → f x ≡ g x) → flat_map f xs ≡ flat_map g xs
flat_map-same f g [] same = refl
flat_map-same f g (x ∷ xs) same = ap (λ (ys : List ℕ). ys ++ flat_map f xs) (same x) ∙ ap (λ (ys : List ℕ). g x ++ ys) (flat_map-same f g xs same)

-- ---- one slab

-- runs that lie side by side are one run
runs : (b : List ℕ) (base len : ℕ) (k n : ℕ) → flat_map (λ i. take len (drop (base + i * len) b)) (range_with_len k n) ≡ take (n * len) (drop (base + k * len) b)
runs b base len k zero = let e : 0 ≡ 0 * len = omega arith in ap (λ (m : ℕ). take m (drop (base + k * len) b)) e
runs b base len k (suc n) = grind (arith, drop-drop, take-add, runs b base len (k + 1) n)

-- the values of a slab are one run of bytes
slab-run : (size : ℕ) (b : List ℕ) (base : ℕ) (lens : List ℕ) → joined size b base (slab_strides size lens) (vectors_below lens) ≡ take (product lens * size) (drop base b)
slab-run size b base [] = grind (arith, append-nil)
slab-run size b base (n ∷ lens) =
    let len = size * product lens in
    let f : product lens * size ≡ len = omega arith in
    let g : n * len ≡ n * product lens * size = omega arith in
    let h : base + 0 * len ≡ base = omega arith in
    joined-rows size b base len (slab_strides size lens) (vectors_below lens) 0 n
    ∙ flat_map-same _ (λ i. take len (drop (base + i * len) b)) (range_with_len 0 n)
    (λ i. slab-run size b (base + i * len) lens ∙ ap (λ (m : ℕ). take m (drop (base + i * len) b)) f)
    ∙ runs b base len 0 n
    ∙ ap (λ (m : ℕ). take (n * len) (drop m b)) h ∙ ap (λ (m : ℕ). take m (drop base b)) g

-- ---- of a variable

-- the offsets of its values, by whether it has records
pub fixed-offsets : (h : Header) (var : Var) (n : ℕ) → is_record_var h.dims var ≡ false
    → value_offsets h var n ≡ map (at var.begin_at (slab_strides (size_of var.ty) (slab_lens h.dims var.dimids))) (vectors_below (slab_lens h.dims var.dimids))
unfolding value_offsets
fixed-offsets h var n fixed = grind (arith, at)

pub record-offsets : (h : Header) (var : Var) (n : ℕ) → is_record_var h.dims var ≡ true
    → value_offsets h var n ≡ map (at var.begin_at (record_size h ∷ slab_strides (size_of var.ty) (slab_lens h.dims var.dimids))) (vectors_below (n ∷ slab_lens h.dims var.dimids))
unfolding value_offsets
record-offsets h var n growing = grind (arith, at)

-- the bytes of the values of a variable without records are its one slab
pub fixed-bytes : (h : Header) (b : List ℕ) (var : Var) (n : ℕ) → is_record_var h.dims var ≡ false
    → concat (stored_bytes h b var n) ≡ take (slab_size h.dims var) (drop var.begin_at b)
fixed-bytes h b var n fixed = rw (fixed-offsets h var n fixed) (slab-run (size_of var.ty) b var.begin_at (slab_lens h.dims var.dimids))

-- those of a record variable are its slabs, a record size apart
pub record-bytes : (h : Header) (b : List ℕ) (var : Var) (n : ℕ) → is_record_var h.dims var ≡ true
    → concat (stored_bytes h b var n) ≡ flat_map (λ r. take (slab_size h.dims var) (drop (var.begin_at + r * record_size h) b)) (range_with_len 0 n)
record-bytes h b var n growing =
    let lens = slab_lens h.dims var.dimids in
    let size = size_of var.ty in
    rw (record-offsets h var n growing) (joined-rows size b var.begin_at (record_size h) (slab_strides size lens) (vectors_below lens) 0 n
    ∙ flat_map-same _ (λ r. take (product lens * size) (drop (var.begin_at + r * record_size h) b)) (range_with_len 0 n) (λ r. slab-run size b (var.begin_at + r * record_size h) lens))

-- ---- missing values

-- the value of this size at an offset ends within n bytes
abbrev EndsIn : ℕ → ℕ → ℕ → Type 0
EndsIn size len offset = offset + size ≤ len

abbrev AllEnd : ℕ → ℕ → ℕ → List ℕ → List (List ℕ) → Type 0
AllEnd size len base strides vectors = All (EndsIn size len) (map (at base strides) vectors)

end-append : (size len base : ℕ) (strides : List ℕ) (xs ys : List (List ℕ)) → AllEnd size len base strides xs → AllEnd size len base strides ys → AllEnd size len base strides (xs ++ ys)
end-append size len base strides xs ys p q =
    subst (All (EndsIn size len)) (sym (map-append (at base strides) xs ys)) (All-append (EndsIn size len) (map (at base strides) xs) (map (at base strides) ys) p q)

rows-same : (base i stride : ℕ) (strides : List ℕ) (vs : List (List ℕ)) → map (at base (stride ∷ strides)) (map (λ (index : List ℕ). i ∷ index) vs) ≡ map (at (base + i * stride) strides) vs
rows-same base i stride strides [] = refl
rows-same base i stride strides (v ∷ vs) = grind (arith, at, rows-same base i stride strides vs)

end-rows : (size len base stride : ℕ) (strides : List ℕ) (vs : List (List ℕ)) (k n : ℕ)
    → ((i : ℕ) → i < k + n → AllEnd size len (base + i * stride) strides vs)
    → AllEnd size len base (stride ∷ strides) (flat_map (λ i. map (λ (index : List ℕ). i ∷ index) vs) (range_with_len k n))
end-rows size len base stride strides vs k zero each = All-nil _
end-rows size len base stride strides vs k (suc n) each =
    grind (arith, end-append, rows-same, end-rows size len base stride strides vs (k + 1) n)

slab-ends : (size len base : ℕ) (lens : List ℕ) → base + product lens * size ≤ len → AllEnd size len base (slab_strides size lens) (vectors_below lens)
slab-ends size len base [] within = All-cons (EndsIn size len) (base + 0) [] (omega arith) (All-nil _)
slab-ends size len base (n ∷ lens) within =
    let s = size * product lens in
    end-rows size len base s (slab_strides size lens) (vectors_below lens) 0 n (λ i lt.
    let up : (i + 1) * s ≤ n * s = mul-le-mul_right s (let h : i + 1 ≤ n = omega arith in h) in
    let a : (i + 1) * s ≡ i * s + s = omega arith in
    let b : n * s ≡ n * product lens * size = omega arith in
    let c : product lens * size ≡ s = omega arith in
    slab-ends size len (base + i * s) lens (omega arith))

none-missing : (size len : ℕ) (xs : List ℕ) → All (EndsIn size len) xs → position (ends_after size len) xs ≡ None
none-missing size len xs all =
    grind (arith, none-found (ends_after size len) xs, position_or_len_is (ends_after size len) xs (length xs) 0, le-ltb len)

pub fixed-whole : (h : Header) (b : List ℕ) (var : Var) (n : ℕ) → is_record_var h.dims var ≡ false
    → var.begin_at + slab_size h.dims var ≤ length b → first_missing h b var n ≡ None
fixed-whole h b var n fixed within =
    rw (fixed-offsets h var n fixed) (none-missing (size_of var.ty) (length b) _ (slab-ends (size_of var.ty) (length b) var.begin_at (slab_lens h.dims var.dimids) within))

pub record-whole : (h : Header) (b : List ℕ) (var : Var) (n : ℕ) → is_record_var h.dims var ≡ true
    → ((r : ℕ) → r < n → var.begin_at + r * record_size h + slab_size h.dims var ≤ length b) → first_missing h b var n ≡ None
record-whole h b var n growing within =
    let lens = slab_lens h.dims var.dimids in
    rw (record-offsets h var n growing) (none-missing (size_of var.ty) (length b) _
    (end-rows (size_of var.ty) (length b) var.begin_at (record_size h) (slab_strides (size_of var.ty) lens) (vectors_below lens) 0 n
    (λ r lt. slab-ends (size_of var.ty) (length b) (var.begin_at + r * record_size h) lens (within r (omega arith)))))
