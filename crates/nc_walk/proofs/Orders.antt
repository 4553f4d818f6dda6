-- The offsets of a variable's values by their index vectors are those by their numbers, in the same order.
use Rattle.nc_walk.proofs.Prelude.{◌≡◌, ℕ, zero, suc, ◌+◌, ◌*◌, ◌/◌, ◌%◌, ◌<◌, Bool, List, [], ◌∷◌, ◌++◌, length, map, sym, ◌∙◌, ap, refl, arith, if◌then◌else◌, range-add, flat_map, range_with_len, map-append, length-map-range_with_len, div-mul-add, mod-mul-add, mod_below, div-add-mod', Var, Header, size_of, product, is_record_var, slab_lens, record_size, value_count, vectors_below, slab_strides, distance, value_offset, value_offsets, lens_over, Slabs, total, offset, offsets_from, slabs_of, AreSlabsOf, Starts, standing, map-map, some_right}
use Rattle.nc_walk.proofs.Runs.{offset_at}

-- the i-th index vector in row-major order
abbrev pub vector_at : List ℕ → ℕ → List ℕ
vector_at [] i = []
vector_at (n ∷ ns) i = i / product ns ∷ vector_at ns (i % product ns)

-- ---- one offset

distance_at : (size : ℕ) (ns : List ℕ) (i : ℕ) → i < product ns → distance (vector_at ns i) (slab_strides size ns) ≡ i * size
distance_at size [] i lt = grind arith
distance_at size (n ∷ ns) i lt =
    let p = product ns in
    let below : i % p < p = mod_below i p (some_right n p i lt) in
    let e : i / p * (size * p) + i % p * size ≡ (i / p * p + i % p) * size = omega arith in
    ap (λ (k : ℕ). i / p * (size * p) + k) (distance_at size ns (i % p) below) ∙ e ∙ ap (λ (k : ℕ). k * size) (div-add-mod' i p)

pub at_first : (l : Slabs) (i : ℕ) → i < l.values_per_slab → offset l i ≡ l.begin + i * l.size
at_first l i lt = grind (arith, offset_at)

-- slabs of this shape, one for each of n records or one in all
abbrev shaped : ℕ → ℕ → ℕ → Bool → List ℕ → ℕ → Slabs
shaped begin size stride is_record lens n = record { begin = begin; stride = stride; values_per_slab = product lens; total_slabs = if is_record then n else 1; size = size }

abbrev over : Bool → List ℕ → ℕ → List ℕ
over is_record lens n = if is_record then n ∷ lens else lens

shaped_at : (begin size stride : ℕ) (is_record : Bool) (lens : List ℕ) (n i : ℕ) → i < total (shaped begin size stride is_record lens n)
    → begin + distance (vector_at (over is_record lens n) i) (if is_record then stride ∷ slab_strides size lens else slab_strides size lens)
    ≡ offset (shaped begin size stride is_record lens n) i
shaped_at begin size stride is_record lens n i h = grind (arith, mod_below, some_right, distance_at, at_first, shaped)

shaped_total : (begin size stride : ℕ) (is_record : Bool) (lens : List ℕ) (n : ℕ) → product (over is_record lens n) ≡ total (shaped begin size stride is_record lens n)
shaped_total begin size stride is_record lens n = grind arith

-- the offset of value number i is that of the i-th index vector
pub value_offset_at : (h : Header) (var : Var) (n i : ℕ) → i < total (slabs_of h var n) → value_offset h var (vector_at (lens_over h.dims var n) i) ≡ offset (slabs_of h var n) i
value_offset_at h var n i lt = shaped_at var.begin_at (size_of var.ty) (record_size h) (is_record_var h.dims var) (slab_lens h.dims var.dimids) n i lt

-- ---- all index vectors, in order

pub shifted : {A : Type 0} (f g : ℕ → A) (a k n : ℕ) → ((q : ℕ) → q < k + n → f q ≡ g (a + q)) → map f (range_with_len k n) ≡ map g (range_with_len (a + k) n)
shifted f g a k zero same = refl
shifted f g a k (suc n) same = grind (arith, shifted f g a (k + 1) n)

rows : (ns : List ℕ) (a n : ℕ) → flat_map (λ i. map (λ (index : List ℕ). i ∷ index) (map (vector_at ns) (range_with_len 0 (product ns)))) (range_with_len a n)
    ≡ map (λ (j : ℕ). j / product ns ∷ vector_at ns (j % product ns)) (range_with_len (a * product ns) (n * product ns))
rows ns a zero = let e : 0 ≡ 0 * product ns = omega arith in ap (λ (k : ℕ). map (λ (j : ℕ). j / product ns ∷ vector_at ns (j % product ns)) (range_with_len (a * product ns) k)) e
rows ns a (suc n) =
    let p = product ns in
    let g : ℕ → List ℕ = λ j. j / p ∷ vector_at ns (j % p) in
    let f : ℕ → List ℕ = λ q. a ∷ vector_at ns q in
    let same : (q : ℕ) → q < 0 + p → f q ≡ g (a * p + q) = λ q lt. sym (ap (λ (i : ℕ). i ∷ vector_at ns ((a * p + q) % p)) (div-mul-add a p q (omega arith)) ∙ ap (λ (i : ℕ). a ∷ vector_at ns i) (mod-mul-add a p q (omega arith))) in
    let start : a * p + 0 ≡ a * p = omega arith in
    let next : (a + 1) * p ≡ a * p + p = omega arith in
    let all : p + n * p ≡ suc n * p = omega arith in
    ap (λ xs. xs ++ flat_map (λ i. map (λ (index : List ℕ). i ∷ index) (map (vector_at ns) (range_with_len 0 p))) (range_with_len (a + 1) n))
    (map-map (λ (index : List ℕ). a ∷ index) (vector_at ns) (range_with_len 0 p) ∙ shifted f g (a * p) 0 p same ∙ ap (λ (k : ℕ). map g (range_with_len k p)) start)
    ∙ ap (λ xs. map g (range_with_len (a * p) p) ++ xs) (rows ns (a + 1) n ∙ ap (λ (k : ℕ). map g (range_with_len k (n * p))) next)
    ∙ sym (map-append g (range_with_len (a * p) p) (range_with_len (a * p + p) (n * p)))
    ∙ ap (map g) (sym (range-add (a * p) p (n * p)) ∙ ap (range_with_len (a * p)) all)

pub vectors_in_order : (ns : List ℕ) → vectors_below ns ≡ map (vector_at ns) (range_with_len 0 (product ns))
vectors_in_order [] = refl
vectors_in_order (n ∷ ns) = grind (arith, rows ns 0 n, vectors_in_order ns)

-- ---- of a variable

-- all offsets of a variable's values, in row-major order
pub offsets_in_order : (h : Header) (var : Var) (n : ℕ) → offsets_from (slabs_of h var n) 0 (total (slabs_of h var n)) ≡ value_offsets h var n
unfolding value_offsets offsets_from
offsets_in_order h var n =
    let ns = lens_over h.dims var n in
    let l = slabs_of h var n in
    let same : (q : ℕ) → q < 0 + total l → value_offset h var (vector_at ns q) ≡ offset l (0 + q) = λ q lt. let e : q ≡ 0 + q = omega arith in value_offset_at h var n q (omega arith) ∙ ap (offset l) e in
    let count : product ns ≡ total l = shaped_total var.begin_at (size_of var.ty) (record_size h) (is_record_var h.dims var) (slab_lens h.dims var.dimids) n in
    sym (
    ap (map (value_offset h var)) (vectors_in_order ns) ∙ map-map (value_offset h var) (vector_at ns) (range_with_len 0 (product ns))
    ∙ ap (λ (k : ℕ). map (λ (q : ℕ). value_offset h var (vector_at ns q)) (range_with_len 0 k)) count
    ∙ shifted (λ q. value_offset h var (vector_at ns q)) (offset l) 0 0 (total l) same
    )

pub count_of_offsets : (h : Header) (var : Var) (n : ℕ) → length (value_offsets h var n) ≡ value_count h.dims var n
unfolding offsets_from
count_of_offsets h var n = grind (arith, offsets_in_order h var n, total, length-map-range_with_len)

-- a walk over the slabs of a variable starts at its first value
pub starts : (h : Header) (v n : ℕ) (l : Slabs) (buf : List ℕ) → AreSlabsOf h v n l → Starts h v n (length buf) (standing l 0 buf)
starts h v n l buf slabs = grind (arith, count_of_offsets)
