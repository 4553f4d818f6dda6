-- Each value of a generated file stands where the offsets by index vectors say.
use Rattle.nc_base.proofs.Prelude.{◌≡◌, ℕ, zero, suc, ◌+◌, ◌*◌, ◌/◌, ◌<◌, ◌≤◌, Bool, true, false, cond, not, List, [], ◌∷◌, ◌++◌, length, take, drop, replicate, map, refl, sym, ◌∙◌, ap, arith, append_assoc, length-append, length-take, length-drop, None, if◌then◌else◌, All, ℤ, zip, concat, flat_map, range_with_len, sum_by, mul-le-mul_right, filter-append, All-nil, sum-map, sum_by-append, Dim, Var, Header, NcType, padding_len, size_of, bytes_of_number, is_record_var, is_narrow, slab_count, slab_size, padded_size, padded_total, record_size_of, record_vars, record_size, IsArray, AreArrays, stored_bytes, first_missing, header_spelling, fill_bytes, padded_slab, block, is_sole_narrow, slab_in, record_part, fixed_vars, begin_after, vars_with_begins}
use Rattle.nc_base.proofs.SlabBytes.{fixed-bytes, record-bytes, fixed-whole, record-whole}
use Rattle.nc_base.proofs.IsAt.{IsAt, stands-at, stands-first, stands-second, stands-read, stands-within, runs-all}

-- ---- padding

pub length-number : (ty : NcType) (n : _) → length (bytes_of_number ty n) ≡ size_of ty
length-number ty n = grind arith

-- the padding of whole values is whole values
pub whole-padding : (ty : NcType) (c : ℕ) → padding_len (c * size_of ty) / size_of ty * size_of ty ≡ padding_len (c * size_of ty)
whole-padding ty c = grind arith

pub length-replicated : (n : ℕ) (xs : List ℕ) → length (concat (replicate n xs)) ≡ n * length xs
length-replicated zero xs = omega arith
length-replicated (suc n) xs = omega (arith, length-append xs (concat (replicate n xs)), length-replicated n xs)

-- ---- totals

pub padded_total-append : (dims : List Dim) (xs ys : List Var) → padded_total dims (xs ++ ys) ≡ padded_total dims xs + padded_total dims ys
padded_total-append dims xs ys = grind (arith, sum-map, sum_by-append)

-- how much of a record a record variable takes
abbrev pub slot : Bool → List Dim → Var → ℕ
slot is_sole dims var = if is_sole then slab_size dims var else padded_size dims var

abbrev pub slots : Bool → List Dim → List Var → ℕ
slots is_sole dims vars = sum_by (slot is_sole dims) (record_vars dims vars)

abbrev pub fixed_total : List Dim → List Var → ℕ
fixed_total dims vars = padded_total dims (fixed_vars dims vars)

one-fixed : (dims : List Dim) (var : Var) (kind : Bool) → padded_total dims (cond (not kind) (var ∷ []) []) ≡ (if kind then 0 else padded_size dims var)
one-fixed dims var kind = grind arith

fixed-cons : (dims : List Dim) (var : Var) (vars : List Var) → fixed_total dims (var ∷ vars) ≡ (if is_record_var dims var then 0 else padded_size dims var) + fixed_total dims vars
fixed-cons dims var vars =
    ap (padded_total dims) (filter-append (λ (v : Var). not (is_record_var dims v)) (var ∷ []) vars)
    ∙ padded_total-append dims (fixed_vars dims (var ∷ [])) (fixed_vars dims vars)
    ∙ ap (λ (n : ℕ). n + fixed_total dims vars) (one-fixed dims var (is_record_var dims var))

pub fixed-push : (dims : List Dim) (before : List Var) (var : Var) → fixed_total dims (before ++ var ∷ []) ≡ fixed_total dims before + (if is_record_var dims var then 0 else padded_size dims var)
fixed-push dims before var = grind (arith, filter-append, padded_total-append, one-fixed)

one-slot : (is_sole : Bool) (dims : List Dim) (var : Var) (kind : Bool) → sum_by (slot is_sole dims) (cond kind (var ∷ []) []) ≡ (if kind then slot is_sole dims var else 0)
one-slot is_sole dims var kind = grind arith

slots-cons : (is_sole : Bool) (dims : List Dim) (var : Var) (vars : List Var) → slots is_sole dims (var ∷ vars) ≡ (if is_record_var dims var then slot is_sole dims var else 0) + slots is_sole dims vars
slots-cons is_sole dims var vars =
    ap (sum_by (slot is_sole dims)) (filter-append (is_record_var dims) (var ∷ []) vars)
    ∙ sum_by-append (slot is_sole dims) (record_vars dims (var ∷ [])) (record_vars dims vars)
    ∙ ap (λ (n : ℕ). n + slots is_sole dims vars) (one-slot is_sole dims var (is_record_var dims var))

pub slots-push : (is_sole : Bool) (dims : List Dim) (before : List Var) (var : Var) → slots is_sole dims (before ++ var ∷ []) ≡ slots is_sole dims before + (if is_record_var dims var then slot is_sole dims var else 0)
slots-push is_sole dims before var = grind (arith, filter-append, sum_by-append, one-slot)

-- a record is its slots
sole-size : (dims : List Dim) (var : Var) (narrow : Bool) → (if narrow then slab_size dims var else padded_size dims var) ≡ slot narrow dims var
sole-size dims var narrow = grind arith

pub record_size_of-slots : (dims : List Dim) (vars : List Var) → record_size_of dims (record_vars dims vars) ≡ slots (is_sole_narrow (record_vars dims vars)) dims vars
record_size_of-slots dims vars = of (record_vars dims vars)
  where
    of : (xs : List Var) → record_size_of dims xs ≡ sum_by (slot (is_sole_narrow xs) dims) xs
    of [] = refl
    of (x ∷ []) = let e : slot (is_narrow x) dims x ≡ sum_by (slot (is_narrow x) dims) (x ∷ []) = omega arith in sole-size dims x (is_narrow x) ∙ e
    of (x ∷ y ∷ xs) = sum-map (padded_size dims) (x ∷ y ∷ xs)

-- where the slabs stand without padding, no record variable stands before another
sole-first : (xs : List Var) (x : Var) (ys : List Var) → is_sole_narrow (xs ++ x ∷ ys) ≡ true → xs ≡ []
sole-first [] x ys e = refl
sole-first (w ∷ []) x ys e = absurd cc
sole-first (w ∷ z ∷ xs) x ys e = absurd cc

-- what stands before a record variable in a record
pub before-slots : (dims : List Dim) (all before : List Var) (var : Var) (vars : List Var) → all ≡ before ++ var ∷ vars → is_record_var dims var ≡ true
    → padded_total dims (record_vars dims before) ≡ slots (is_sole_narrow (record_vars dims all)) dims before
before-slots dims all before var vars is growing = grind (arith, filter-append, sum-map, sole-first)

-- ---- slabs of an array

fixed-len : (dims : List Dim) (n : ℕ) (var : Var) (array : List ℕ) → IsArray dims n var array → is_record_var dims var ≡ false → length array ≡ slab_size dims var
fixed-len dims n var array is fixed = grind arith

pub record-len : (dims : List Dim) (n : ℕ) (var : Var) (array : List ℕ) → IsArray dims n var array → is_record_var dims var ≡ true → length array ≡ n * slab_size dims var
record-len dims n var array is growing =
    let e = is.whole ∙ ap (λ (b : Bool). slab_count dims var * (if b then n else 1) * size_of var.ty) growing in
    let f : slab_count dims var * n * size_of var.ty ≡ n * (slab_count dims var * size_of var.ty) = omega arith in e ∙ f

length-slab : (dims : List Dim) (n : ℕ) (var : Var) (array : List ℕ) (r : ℕ) → IsArray dims n var array → is_record_var dims var ≡ true → r < n → length (slab_in dims var array r) ≡ slab_size dims var
length-slab dims n var array r is growing lt = grind (arith, record-len, mul-le-mul_right, length-take, length-drop)

-- ---- lengths

length-block : (dims : List Dim) (n : ℕ) (var : Var) (array : List ℕ) → IsArray dims n var array
    → length (block dims (var, array)) ≡ (if is_record_var dims var then 0 else padded_size dims var)
unfolding padded_slab fill_bytes
length-block dims n var array is = grind (arith, length-append, length-replicated)

length-part : (is_sole : Bool) (dims : List Dim) (n : ℕ) (var : Var) (array : List ℕ) (r : ℕ) → r < n → IsArray dims n var array
    → length (record_part is_sole dims r (var, array)) ≡ (if is_record_var dims var then slot is_sole dims var else 0)
unfolding padded_slab fill_bytes
length-part is_sole dims n var array r lt is = grind (arith, length-append, length-replicated, length-slab)

pub length-blocks : (dims : List Dim) (n : ℕ) (vars : List Var) (arrays : List (List ℕ)) → AreArrays dims n vars arrays → length (flat_map (block dims) (zip vars arrays)) ≡ fixed_total dims vars
length-blocks dims n (var ∷ vars) (array ∷ arrays) are =
    grind (arith, length-append, length-block, fixed-cons, length-blocks dims n vars arrays are.1)
length-blocks dims n _ _ are = grind arith

pub length-record : (is_sole : Bool) (dims : List Dim) (n r : ℕ) (vars : List Var) (arrays : List (List ℕ)) → r < n → AreArrays dims n vars arrays
    → length (flat_map (record_part is_sole dims r) (zip vars arrays)) ≡ slots is_sole dims vars
length-record is_sole dims n r (var ∷ vars) (array ∷ arrays) lt are =
    grind (arith, length-append, length-part, slots-cons, length-record is_sole dims n r vars arrays lt are.1)
length-record is_sole dims n r _ _ lt are = grind arith

-- ---- each variable

-- the variable's array is its stored bytes, and no value of it is missing
pub record Agrees (h : Header) (bytes : List ℕ) (n : ℕ) (var : Var) (array : List ℕ) : Type 0 where
  pub array_is : array ≡ concat (stored_bytes h bytes var n)
  pub whole : first_missing h bytes var n ≡ None

pub Agree : Header → List ℕ → ℕ → List Var → List (List ℕ) → Type 0
Agree h bytes n [] [] = Unit {0}
Agree h bytes n [] (array ∷ arrays) = ⊥
Agree h bytes n (var ∷ vars) [] = ⊥
Agree h bytes n (var ∷ vars) (array ∷ arrays) = Agrees h bytes n var array × Agree h bytes n vars arrays

pub flat_map-below : (f g : ℕ → List ℕ) (k n : ℕ) → ((r : ℕ) → k ≤ r → r < k + n → f r ≡ g r) → flat_map f (range_with_len k n) ≡ flat_map g (range_with_len k n)
flat_map-below f g k zero same = refl
flat_map-below f g k (suc n) same = grind (arith, flat_map-below f g (k + 1) n)

-- what is left of the variables stands after those before them
pub record IsPlaced (h : Header) (bytes : List ℕ) (n stride : ℕ) (is_sole : Bool) (before vars : List Var) (arrays : List (List ℕ)) : Type 0 where
  pub fixed : IsAt (flat_map (block h.dims) (zip vars arrays)) (length (header_spelling h) + fixed_total h.dims before) bytes
  pub growing : (r : ℕ) → r < n
      → IsAt (flat_map (record_part is_sole h.dims r) (zip vars arrays)) (length (header_spelling h) + (fixed_total h.dims h.vars + (slots is_sole h.dims before + r * stride))) bytes

placed-next : (h : Header) (bytes : List ℕ) (n stride : ℕ) (is_sole : Bool) (before : List Var) (var : Var) (vars : List Var) (array : List ℕ) (arrays : List (List ℕ))
    → IsArray h.dims n var array → IsPlaced h bytes n stride is_sole before (var ∷ vars) (array ∷ arrays) → IsPlaced h bytes n stride is_sole (before ++ var ∷ []) vars arrays
placed-next h bytes n stride is_sole before var vars array arrays is placed = record {
  fixed = stands-at _ bytes _ _ (omega (arith, fixed-push h.dims before var, length-block h.dims n var array is)) (stands-second (block h.dims (var, array)) _ bytes _ placed.fixed);
  growing = λ r lt.
      stands-at _ bytes _ _ (omega (arith, slots-push is_sole h.dims before var, length-part is_sole h.dims n var array r lt is))
      (stands-second (record_part is_sole h.dims r (var, array)) _ bytes _ (placed.growing r lt));
}

-- a variable without records, whose array stands at its begin
agrees-fixed : (h : Header) (bytes : List ℕ) (n : ℕ) (var : Var) (array : List ℕ) → is_record_var h.dims var ≡ false
    → length array ≡ slab_size h.dims var → IsAt array var.begin_at bytes → Agrees h bytes n var array
agrees-fixed h bytes n var array fixed len s =
    grind (arith, stands-read array var.begin_at bytes (slab_size h.dims var) s len, fixed-bytes h bytes var n fixed, fixed-whole h bytes var n fixed, stands-within array var.begin_at bytes s)

-- a record variable, whose slabs stand a record size apart
agrees-record : (h : Header) (bytes : List ℕ) (n : ℕ) (var : Var) (array : List ℕ) → is_record_var h.dims var ≡ true
    → IsArray h.dims n var array → ((r : ℕ) → r < n → IsAt (slab_in h.dims var array r) (var.begin_at + r * record_size h) bytes) → Agrees h bytes n var array
agrees-record h bytes n var array growing is stands =
    let s = slab_size h.dims var in
    record {
      array_is =
          sym (runs-all array s n (record-len h.dims n var array is growing))
          ∙ flat_map-below (slab_in h.dims var array) (λ r. take s (drop (var.begin_at + r * record_size h) bytes)) 0 n
          (λ r low lt0. let lt : r < n = omega arith in
          sym (stands-read (slab_in h.dims var array r) (var.begin_at + r * record_size h) bytes s (stands r lt) (length-slab h.dims n var array r is growing lt)))
          ∙ sym (record-bytes h bytes var n growing);
      whole = record-whole h bytes var n growing (λ r lt.
          omega (arith, stands-within (slab_in h.dims var array r) (var.begin_at + r * record_size h) bytes (stands r lt), length-slab h.dims n var array r is growing lt));
    }

-- the array or the slab stands where its piece does
block-stands : (dims : List Dim) (var : Var) (array rest bytes : List ℕ) (at : ℕ) → is_record_var dims var ≡ false → IsAt (block dims (var, array) ++ rest) at bytes → IsAt array at bytes
unfolding padded_slab
block-stands dims var array rest bytes at fixed s = grind (arith, stands-first)

slab-stands : (is_sole : Bool) (dims : List Dim) (r : ℕ) (var : Var) (array rest bytes : List ℕ) (at : ℕ) → is_record_var dims var ≡ true
    → IsAt (record_part is_sole dims r (var, array) ++ rest) at bytes → IsAt (slab_in dims var array r) at bytes
unfolding padded_slab
slab-stands is_sole dims r var array rest bytes at growing s = grind (arith, stands-first)

agrees-one : (h : Header) (vs : List Var) (bytes : List ℕ) (n : ℕ) (before : List Var) (var : Var) (vars : List Var) (array : List ℕ) (arrays : List (List ℕ))
    → h.vars ≡ before ++ var ∷ vars → IsArray h.dims n var array
    → IsPlaced h bytes n (record_size (record h { vars = vs })) (is_sole_narrow (record_vars h.dims h.vars)) before (var ∷ vars) (array ∷ arrays)
    → Agrees (record h { vars = vs }) bytes n (record var { begin_at = begin_after h before var }) array
agrees-one h vs bytes n before var vars array arrays all is placed = of_kind (is_record_var h.dims var) refl
  where
    dims : List Dim
    dims = h.dims

    is_sole : Bool
    is_sole = is_sole_narrow (record_vars h.dims h.vars)

    head : ℕ
    head = length (header_spelling h)

    stride : ℕ
    stride = record_size (record h { vars = vs })

    begin-is : (kind : Bool) → is_record_var dims var ≡ kind
        → begin_after h before var ≡ head + (if kind then fixed_total dims h.vars + padded_total dims (record_vars dims before) else fixed_total dims before)
    begin-is true e = ap (λ (b : Bool). head + padded_total dims (if b then fixed_vars dims h.vars ++ record_vars dims before else fixed_vars dims before)) e
        ∙ ap (λ (n : ℕ). head + n) (padded_total-append dims (fixed_vars dims h.vars) (record_vars dims before))
    begin-is false e = ap (λ (b : Bool). head + padded_total dims (if b then fixed_vars dims h.vars ++ record_vars dims before else fixed_vars dims before)) e

    of_kind : (kind : Bool) → is_record_var dims var ≡ kind → Agrees (record h { vars = vs }) bytes n (record var { begin_at = begin_after h before var }) array
    of_kind false e =
        let own = block-stands dims var array (flat_map (block dims) (zip vars arrays)) bytes (head + fixed_total dims before) e placed.fixed in
        agrees-fixed (record h { vars = vs }) bytes n (record var { begin_at = begin_after h before var }) array e (fixed-len dims n var array is e)
        (stands-at array bytes (head + fixed_total dims before) (begin_after h before var) (sym (begin-is false e)) own)
    of_kind true e =
        agrees-record (record h { vars = vs }) bytes n (record var { begin_at = begin_after h before var }) array e
        (record { bytes = is.bytes; whole = is.whole; small = is.small })
        (λ r lt.
        let at : ℕ = head + (fixed_total dims h.vars + (slots is_sole dims before + r * stride)) in
        let own = slab-stands is_sole dims r var array (flat_map (record_part is_sole dims r) (zip vars arrays)) bytes at e (placed.growing r lt) in
        let sum_is = before-slots dims h.vars before var vars all e in
        let begin = begin-is true e in
        stands-at (slab_in dims var array r) bytes at (begin_after h before var + r * stride) (omega (arith, sum_is, begin)) own)

pub agree-all : (h : Header) (vs : List Var) (bytes : List ℕ) (n : ℕ) (before vars : List Var) (arrays : List (List ℕ))
    → h.vars ≡ before ++ vars → AreArrays h.dims n vars arrays
    → IsPlaced h bytes n (record_size (record h { vars = vs })) (is_sole_narrow (record_vars h.dims h.vars)) before vars arrays
    → Agree (record h { vars = vs }) bytes n (vars_with_begins h before vars) arrays
unfolding Agree
agree-all h vs bytes n before [] [] all are placed = tt
agree-all h vs bytes n before (var ∷ vars) (array ∷ arrays) all are placed = (
  agrees-one h vs bytes n before var vars array arrays all are.0 placed,
  agree-all h vs bytes n (before ++ var ∷ []) vars arrays (all ∙ sym (append_assoc before (var ∷ []) vars)) are.1
      (placed-next h bytes n (record_size (record h { vars = vs })) (is_sole_narrow (record_vars h.dims h.vars)) before var vars array arrays are.0 placed),
)
agree-all h vs bytes n before _ _ all are placed = absurd are

pub agree-arrays : (h : Header) (bytes : List ℕ) (n : ℕ) (vars : List Var) (arrays : List (List ℕ)) → Agree h bytes n vars arrays
    → arrays ≡ map (λ (var : Var). concat (stored_bytes h bytes var n)) vars
unfolding Agree
agree-arrays h bytes n [] [] are = refl
agree-arrays h bytes n (var ∷ vars) (array ∷ arrays) are = grind (arith, agree-arrays h bytes n vars arrays are.1)
agree-arrays h bytes n _ _ are = absurd are

pub agree-whole : (h : Header) (bytes : List ℕ) (n : ℕ) (vars : List Var) (arrays : List (List ℕ)) → Agree h bytes n vars arrays
    → All (λ (var : Var). first_missing h bytes var n ≡ None) vars
unfolding Agree
agree-whole h bytes n [] [] are = All-nil _
agree-whole h bytes n (var ∷ vars) (array ∷ arrays) are = grind (arith, agree-whole h bytes n vars arrays are.1)
agree-whole h bytes n _ _ are = absurd are

pub length-numbers : (ty : NcType) (values : List ℤ) → length (flat_map (bytes_of_number ty) values) ≡ length values * size_of ty
length-numbers ty [] = let e : 0 ≡ 0 * size_of ty = omega arith in e
length-numbers ty (x ∷ values) = grind (arith, length-number, length-append, length-numbers ty values)
