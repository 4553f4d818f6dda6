-- A slab of an array whose last values are owed: what of it is listed, and fill values.
use Rattle.nc_walk.proofs.Prelude.{◌≡◌, ℕ, zero, suc, ◌+◌, ◌-◌, ◌*◌, ◌/◌, ◌<◌, ◌≤◌, Bool, true, false, List, ◌++◌, length, take, drop, replicate, refl, sym, ◌∙◌, ap, arith, append_assoc, length-append, length-take, length-drop, if◌then◌else◌, concat, mul-div_cancel, mul-le-mul_right, mul-le-mul_left, drop_at, Dim, Var, NcType, padding_len, fill_value, fill_bytes, padded_slab, slab_in, value_count, bytes_of_number, fills, owed_count, whole_array, IsListed, is_record_var, slab_count, slab_size, size_of, length-number, whole-padding, some_size, array_view, repeated, filled_slab, filled_record, filled_slabs, length-replicated, mul-sub, take_at}
use Rattle.nc_base.proofs.ListedArrays.{length-fills}
use Rattle.nc_walk.proofs.Repeats.{copies-add, drop-both, repeated-by, take-both}

-- ---- copies of one value

-- the bytes of n fill values
abbrev pub copies : Var → ℕ → List ℕ
copies var n = concat (replicate n (bytes_of_number var.ty (fill_value var)))

pub fills-copies : (var : Var) (n : ℕ) → fills var n ≡ copies var n
fills-copies var zero = refl
fills-copies var (suc n) = ap (λ (x : List ℕ). bytes_of_number var.ty (fill_value var) ++ x) (fills-copies var n)

length-values : (var : Var) (n : ℕ) → length (copies var n) ≡ n * size_of var.ty
length-values var n = length-replicated n (bytes_of_number var.ty (fill_value var)) ∙ ap (λ (k : ℕ). n * k) (length-number var.ty (fill_value var))

-- some of them after others
later-values : (var : Var) (j m n at : ℕ) → at ≡ j * size_of var.ty → j + m ≤ n → take (m * size_of var.ty) (drop at (copies var n)) ≡ copies var m
later-values var j m n at is le =
    let value = bytes_of_number var.ty (fill_value var) in
    let e : j + (m + (n - j - m)) ≡ n = omega arith in
    let split : copies var n ≡ copies var j ++ (copies var m ++ copies var (n - j - m)) = ap (copies var) (sym e) ∙ copies-add value j (m + (n - j - m)) ∙ ap (λ (x : List ℕ). copies var j ++ x) (copies-add value m (n - j - m)) in
    rw (split, drop_at (copies var j) (copies var m ++ copies var (n - j - m)) at (length-values var j ∙ sym is)) (take_at (copies var m) (copies var (n - j - m)) (m * size_of var.ty) (length-values var m))

-- copies of copies
copies-of : (unit : List ℕ) (k q : ℕ) → concat (replicate k (concat (replicate q unit))) ≡ concat (replicate (k * q) unit)
copies-of unit zero q = grind arith
copies-of unit (suc k) q = grind (arith, copies-add, copies-of unit k q)

-- eight bytes are whole values of each type
unit-count : (ty : NcType) → (size_of ty ≤ 8) × (1 ≤ 8 / size_of ty) × (8 / size_of ty * size_of ty ≡ 8)
unit-count ty = grind arith

-- the unit, repeated, is fill values
pub repeated-values : (var : Var) (n : ℕ) → repeated (fill_bytes var 8) (n * size_of var.ty) ≡ copies var n
unfolding fill_bytes
repeated-values var n =
    let q : ℕ = 8 / size_of var.ty in
    let unit = unit-count var.ty in
    let eight : length (copies var q) ≡ 8 = length-values var q ∙ unit.2 in
    let fits : n * size_of var.ty ≤ n * length (copies var q) = mul-le-mul_left n (omega (arith, unit.0, eight)) in
    let some : n * 1 ≤ n * q = mul-le-mul_left n unit.1 in
    sym (repeated-by (copies var q) (n * size_of var.ty) n (omega (arith, eight)) fits)
    ∙ ap (take (n * size_of var.ty)) (copies-of (bytes_of_number var.ty (fill_value var)) n q)
    ∙ later-values var 0 n (n * q) 0 (omega arith) (omega (arith, some))

-- ---- padded slabs

-- a slab: the bytes that are listed of it, and m fill values
pub padded-filled : (dims : List Dim) (var : Var) (listed part : List ℕ) (m : ℕ) → length part + m * size_of var.ty ≡ slab_size dims var
    → padded_slab var (part ++ fills var m) ≡ filled_slab (array_view dims var listed) part
unfolding padded_slab fill_bytes
padded-filled dims var listed part m long =
    let size : ℕ = size_of var.ty in
    let slab : ℕ = slab_size dims var in
    let q : ℕ = padding_len slab / size in
    let len : length (part ++ fills var m) ≡ slab = omega (arith, length-append part (fills var m), length-fills var m, long) in
    let all : (m + q) * size ≡ slab - length part + padding_len slab = omega (arith, whole-padding var.ty (slab_count dims var), long) in
    ap (λ (k : ℕ). (part ++ fills var m) ++ copies var (padding_len k / size)) len
    ∙ append_assoc part (fills var m) (copies var q)
    ∙ ap (λ (x : List ℕ). part ++ x) (ap (λ (x : List ℕ). x ++ copies var q) (fills-copies var m) ∙ sym (copies-add (bytes_of_number var.ty (fill_value var)) m q)
    ∙ sym (repeated-values var (m + q)) ∙ ap (repeated (fill_bytes var 8)) all)

-- ---- whole arrays

listed-count : (dims : List Dim) (n : ℕ) (var : Var) (listed : List ℕ) (is : IsListed dims n var listed) → owed_count dims n var listed ≡ value_count dims var n - is.count
listed-count dims n var listed is = grind (arith, mul-div_cancel, some_size)

-- the block of a variable without records
pub block-filled : (dims : List Dim) (n : ℕ) (var : Var) (listed : List ℕ) → is_record_var dims var ≡ false → IsListed dims n var listed
    → padded_slab var (whole_array dims n var listed) ≡ filled_slab (array_view dims var listed) listed
block-filled dims n var listed fixed is = grind (arith, listed-count, padded-filled)

-- how many of the c values of slab r lack, where `count` are listed
abbrev pub lacking : ℕ → ℕ → ℕ → ℕ
lacking count c r = c - (count - r * c)

-- what isn't listed of a slab
lacking-bytes : (z count c r : ℕ) (xs : List ℕ) → length xs ≡ count * z → lacking count c r * z ≡ c * z - length (drop (r * (c * z)) xs)
lacking-bytes z count c r xs long = omega (arith, mul-sub z c (count - r * c), mul-sub z count (r * c), long, length-drop (r * (c * z)) xs)

-- and what is are the slab
slab-length : (z count c r : ℕ) (xs : List ℕ) → length xs ≡ count * z → length (take (c * z) (drop (r * (c * z)) xs)) + lacking count c r * z ≡ c * z
slab-length z count c r xs long = omega (arith, lacking-bytes z count c r xs long, length-take (c * z) (drop (r * (c * z)) xs))

-- a slab of listed values and fill values after them
slab-cut : (var : Var) (count c r o : ℕ) (xs : List ℕ) → length xs ≡ count * size_of var.ty → r * c + c ≤ count + o
    → take (c * size_of var.ty) (drop (r * (c * size_of var.ty)) (xs ++ copies var o))
    ≡ take (c * size_of var.ty) (drop (r * (c * size_of var.ty)) xs) ++ copies var (lacking count c r)
slab-cut var count c r o xs long within =
    let z : ℕ = size_of var.ty in
    let d : ℕ = r * (c * z) in
    let later = later-values var (r * c - count) (lacking count c r) o (d - length xs) (omega (arith, mul-sub z (r * c) count, long)) (omega arith) in
    ap (take (c * z)) (drop-both d xs (copies var o)) ∙ take-both (c * z) (drop d xs) (drop (d - length xs) (copies var o))
    ∙ ap (λ (ys : List ℕ). take (c * z) (drop d xs) ++ ys) (rw (sym (lacking-bytes z count c r xs long)) later)

record-count : (dims : List Dim) (n : ℕ) (var : Var) → is_record_var dims var ≡ true → value_count dims var n ≡ slab_count dims var * n
record-count dims n var growing = ap (λ (b : Bool). slab_count dims var * (if b then n else 1)) growing

-- the slab of record r of a record variable
pub record-filled : (dims : List Dim) (n r : ℕ) (var : Var) (listed : List ℕ) → r < n → is_record_var dims var ≡ true → IsListed dims n var listed
    → padded_slab var (slab_in dims var (whole_array dims n var listed) r) ≡ filled_record r (array_view dims var listed)
record-filled dims n r var listed lt growing is =
    let c : ℕ = slab_count dims var in
    let s : ℕ = slab_size dims var in
    let o : ℕ = owed_count dims n var listed in
    let up : (r + 1) * c ≤ n * c = mul-le-mul_right c (let h : r + 1 ≤ n = omega arith in h) in
    let within : r * c + c ≤ is.count + o = omega (arith, listed-count dims n var listed is, record-count dims n var growing, up, is.within) in
    ap (λ (x : List ℕ). padded_slab var (take s (drop (r * s) (listed ++ x)))) (fills-copies var o)
    ∙ ap (padded_slab var) (slab-cut var is.count c r o listed is.whole within ∙ ap (λ (x : List ℕ). take s (drop (r * s) listed) ++ x) (sym (fills-copies var (lacking is.count c r))))
    ∙ padded-filled dims var listed (take s (drop (r * s) listed)) (lacking is.count c r) (slab-length (size_of var.ty) is.count c r listed is.whole)

-- the bytes that such an array lacks
owed-bytes : (dims : List Dim) (n : ℕ) (var : Var) (listed : List ℕ) → is_record_var dims var ≡ true → IsListed dims n var listed
    → (owed_count dims n var listed * size_of var.ty ≡ n * slab_size dims var - length listed) × (length listed ≤ n * slab_size dims var)
owed-bytes dims n var listed growing is =
    let z : ℕ = size_of var.ty in
    let all = record-count dims n var growing in
    let owed : owed_count dims n var listed ≡ slab_count dims var * n - is.count = omega (arith, listed-count dims n var listed is, all) in
    let up : is.count * z ≤ slab_count dims var * n * z = mul-le-mul_right z (omega (arith, is.within, all)) in
    (omega (arith, ap (λ (k : ℕ). z * k) owed, mul-sub z (slab_count dims var * n) is.count, is.whole), omega (arith, up, is.whole))

-- the bytes of a record variable's array
pub whole-length : (dims : List Dim) (n : ℕ) (var : Var) (listed : List ℕ) → is_record_var dims var ≡ true → IsListed dims n var listed
    → length (whole_array dims n var listed) ≡ n * slab_size dims var
whole-length dims n var listed growing is =
    let o : ℕ = owed_count dims n var listed in
    let owed = owed-bytes dims n var listed growing is in
    omega (arith, owed, length-append listed (fills var o), length-fills var o)

-- all slabs of a record variable
pub slabs-filled : (dims : List Dim) (n : ℕ) (var : Var) (listed : List ℕ) → is_record_var dims var ≡ true → IsListed dims n var listed
    → whole_array dims n var listed ≡ filled_slabs n (array_view dims var listed)
slabs-filled dims n var listed growing is =
    let o : ℕ = owed_count dims n var listed in
    ap (λ (x : List ℕ). listed ++ x) (fills-copies var o ∙ sym (repeated-values var o) ∙ ap (repeated (fill_bytes var 8)) (owed-bytes dims n var listed growing is).0)
