-- Values that lie side by side.
use Rattle.nc_walk.proofs.Prelude.{◌≡◌, ℕ, zero, suc, ◌+◌, ◌-◌, ◌*◌, ◌/◌, ◌%◌, ◌<◌, ◌≤◌, List, length, get_or, take, drop, map, refl, sym, ◌∙◌, ap, subst, arith, All, concat, drop-drop, length-map-range_with_len, take-map-range_with_len, get_or-map-range_with_len, take-add, div-mul-add, mod-mul-add, div_below, div-add-mod', mul-le-mul_right, bytes_at, Slabs, total, offset, offsets_from, Ready, IsWhole}

pub offset_at : (l : Slabs) (r p : ℕ) → p < l.values_per_slab → offset l (r * l.values_per_slab + p) ≡ l.begin + r * l.stride + p * l.size
offset_at l r p lt = ap (λ (x : ℕ). l.begin + x * l.stride + (r * l.values_per_slab + p) % l.values_per_slab * l.size) (div-mul-add r l.values_per_slab p lt) ∙ ap (λ (x : ℕ). l.begin + r * l.stride + x * l.size) (mod-mul-add r l.values_per_slab p lt)

-- ---- lists of offsets

pub length-offsets : (l : Slabs) (i n : ℕ) → length (offsets_from l i n) ≡ n
unfolding offsets_from
length-offsets l i n = length-map-range_with_len (offset l) i n

pub take-offsets : (l : Slabs) (i n k : ℕ) → k ≤ n → take k (offsets_from l i n) ≡ offsets_from l i k
unfolding offsets_from
take-offsets l i n k le = take-map-range_with_len (offset l) i n k le

pub drop-offsets : (l : Slabs) (i n k : ℕ) → k ≤ n → drop k (offsets_from l i n) ≡ offsets_from l (i + k) (n - k)
unfolding offsets_from
drop-offsets l i n zero le = let e : i ≡ i + 0 = omega arith in let f : n ≡ n - 0 = omega arith in ap (λ (j : ℕ). offsets_from l j n) e ∙ ap (offsets_from l (i + 0)) f
drop-offsets l i zero (suc k) le = absurd (omega arith)
drop-offsets l i (suc n) (suc k) le = grind (arith, drop-offsets l (i + 1) n k)

pub first_offset : (l : Slabs) (i n : ℕ) → 0 < n → get_or (offsets_from l i n) 0 0 ≡ offset l i
unfolding offsets_from
first_offset l i n lt = get_or-map-range_with_len (offset l) i n 0 i 0 lt (omega arith)

-- ---- one run of bytes

bytes_in : (l : Slabs) (b : List ℕ) (r p n : ℕ) → p + n ≤ l.values_per_slab
    → concat (map (bytes_at l.size b) (offsets_from l (r * l.values_per_slab + p) n)) ≡ take (n * l.size) (drop (l.begin + r * l.stride + p * l.size) b)
unfolding offsets_from
bytes_in l b r p zero le = let e : 0 ≡ 0 * l.size = omega arith in ap (λ (k : ℕ). take k (drop (l.begin + r * l.stride + p * l.size) b)) e
bytes_in l b r p (suc n) le = grind (arith, offset_at, drop-drop, take-add, bytes_in l b r (suc p) n)

-- the bytes of values in one slab are one run
pub run_bytes : (l : Slabs) (b : List ℕ) (i n : ℕ) → i % l.values_per_slab + n ≤ l.values_per_slab → concat (map (bytes_at l.size b) (offsets_from l i n)) ≡ take (n * l.size) (drop (offset l i) b)
run_bytes l b i n le =
    ap (λ (k : ℕ). concat (map (bytes_at l.size b) (offsets_from l k n))) (sym (div-add-mod' i l.values_per_slab)) ∙ bytes_in l b (i / l.values_per_slab) (i % l.values_per_slab) n le

offset_along : (l : Slabs) (i j : ℕ) → i % l.values_per_slab + j < l.values_per_slab → offset l (i + j) ≡ offset l i + j * l.size
offset_along l i j lt =
    let q = i / l.values_per_slab in
    let m = i % l.values_per_slab in
    let e : i + j ≡ q * l.values_per_slab + (m + j) = omega (arith, div-add-mod' i l.values_per_slab) in
    let f : l.begin + q * l.stride + (m + j) * l.size ≡ l.begin + q * l.stride + m * l.size + j * l.size = omega arith in
    ap (offset l) e ∙ offset_at l q (m + j) lt ∙ f

pub run_within : (l : Slabs) (i n : ℕ) → 0 < l.values_per_slab → i < total l → i % l.values_per_slab + n ≤ l.values_per_slab → i + n ≤ total l
run_within l i n some lt le = grind (arith, div_below, mul-le-mul_right, div-add-mod')

-- each value that is ready is whole
pub ready_whole : (l : Slabs) (b : List ℕ) (i capacity n : ℕ) → Ready l i capacity (length b) n → All (IsWhole l.size b) (offsets_from l i n)
unfolding offsets_from
ready_whole l b i capacity n r = λ j d lt0.
    let lt : j < n = omega (arith, length-offsets l i n) in
    let here = offset_along l i j (omega (arith, r.in_slab)) in
    let end = r.whole (omega arith) in
    let up : (j + 1) * l.size ≤ n * l.size = mul-le-mul_right l.size (let h : j + 1 ≤ n = omega arith in h) in
    subst (IsWhole l.size b) (sym (get_or-map-range_with_len (offset l) i n j (i + j) d lt refl)) (omega (arith, here, end, up))
