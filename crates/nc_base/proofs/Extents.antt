-- Where a variable ends: its last value is the one whose index is the greatest in each dimension.
use Rattle.nc_base.proofs.Prelude.{◌≡◌, ℕ, zero, suc, ◌+◌, ◌-◌, ◌*◌, ◌<◌, ◌==◌, Bool, true, false, List, [], ◌∷◌, ◌++◌, map, refl, sym, ◌∙◌, ap, arith, Option, Some, None, if◌then◌else◌, slice_get, IfSome, nat_tests, flat_map, range_with_len, last_or, Header, Var, size_of, product, is_record_var, slab_lens, slab_size, record_size, extent_sum, IsSound, IsSoundVar, vectors_below, slab_strides, distance, end_after, extent_end}
use Rattle.std.specs.Option.{option_map}
use Rattle.nc_base.proofs.Found.{all-at}
use Rattle.nc_base.proofs.SlabBytes.{at, fixed-offsets, record-offsets}
use Rattle.nc_base.proofs.SoundLaws.{some_count}

-- ---- the last of a list

last_or-append : {A : Type 0} (o : Option A) (xs ys : List A) → last_or o (xs ++ ys) ≡ last_or (last_or o xs) ys
last_or-append o [] ys = refl
last_or-append o (x ∷ xs) ys = last_or-append (Some x) xs ys

last_or-map : {A B : Type 0} (f : A → B) (o : Option A) (xs : List A) → last_or (option_map f o) (map f xs) ≡ option_map f (last_or o xs)
last_or-map f o [] = refl
last_or-map f o (x ∷ xs) = last_or-map f (Some x) xs

last_or-any : {A : Type 0} (o : Option A) (xs : List A) (x : A) → last_or None xs ≡ Some x → last_or o xs ≡ Some x
last_or-any o [] x e = absurd cc
last_or-any o (y ∷ xs) x e = e

-- the last element of several rows, if the last row is not empty
last-rows : {A : Type 0} (f : ℕ → List A) (k m : ℕ) (o : Option A) (x : A) → last_or None (f (k + m)) ≡ Some x
    → last_or o (flat_map f (range_with_len k (suc m))) ≡ Some x
last-rows f k zero o x e = grind (arith, last_or-append, last_or-any)
last-rows f k (suc m) o x e = grind (arith, last_or-append, last-rows f (k + 1) m (last_or o (f k)) x)

-- ---- the last index vector

-- the greatest index in each dimension
abbrev greatest : List ℕ → List ℕ
greatest [] = []
greatest (n ∷ ns) = (n - 1) ∷ greatest ns

last-vector : (ns : List ℕ) → 0 < product ns → last_or None (vectors_below ns) ≡ Some (greatest ns)
last-vector (suc m ∷ ns) some =
    grind (arith, last-rows (λ i. map (λ (index : List ℕ). i ∷ index) (vectors_below ns)) 0 m None, last_or-map (λ (index : List ℕ). (0 + m) ∷ index) None, last-vector ns)
last-vector _ some = grind arith

-- its distance from the first value, and a value more, is the slab
greatest-distance : (size : ℕ) (ns : List ℕ) → 0 < product ns → distance (greatest ns) (slab_strides size ns) + size ≡ product ns * size
greatest-distance size (suc m ∷ ns) some = grind (arith, greatest-distance size ns)
greatest-distance size _ some = grind arith

-- ---- of a variable

-- the values of a slab that begins so end with the slab
slab-end : (begin more size : ℕ) (ns : List ℕ) → 0 < product ns
    → begin + (more + distance (greatest ns) (slab_strides size ns)) + size ≡ begin + more + product ns * size
slab-end begin more size ns some = omega (arith, greatest-distance size ns some)

-- the value at the last of these index vectors ends there
ended : (begin size : ℕ) (strides : List ℕ) (vectors : List (List ℕ)) (index : List ℕ) → last_or None vectors ≡ Some index
    → end_after begin size (last_or None (map (at begin strides) vectors)) ≡ begin + distance index strides + size
ended begin size strides vectors index e = ap (end_after begin size) (last_or-map (at begin strides) None vectors ∙ ap (option_map (at begin strides)) e)

fixed-end : (h : Header) (var : Var) (n : ℕ) → 0 < product (slab_lens h.dims var.dimids) → is_record_var h.dims var ≡ false → extent_end h var n ≡ var.begin_at + slab_size h.dims var
fixed-end h var n some fixed =
    let lens = slab_lens h.dims var.dimids in
    rw (fixed-offsets h var n fixed) (ended var.begin_at (size_of var.ty) _ (vectors_below lens) (greatest lens) (last-vector lens some)
    ∙ (let e : var.begin_at + distance (greatest lens) (slab_strides (size_of var.ty) lens) + size_of var.ty ≡ var.begin_at + product lens * size_of var.ty = omega (arith, greatest-distance (size_of var.ty) lens some) in e))

record-end : (h : Header) (var : Var) (n : ℕ) → 0 < product (slab_lens h.dims var.dimids) → is_record_var h.dims var ≡ true
    → extent_end h var n ≡ (if n == 0 then var.begin_at else var.begin_at + (n - 1) * record_size h + slab_size h.dims var)
record-end h var zero some growing = rw (record-offsets h var zero growing) refl
record-end h var (suc k) some growing =
    let lens = slab_lens h.dims var.dimids in
    let not_zero : (suc k == 0) ≡ false = grind (arith, nat_tests) in
    let all : 0 < suc k * product lens = omega (arith, some) in
    rw (record-offsets h var (suc k) growing) (ended var.begin_at (size_of var.ty) _ (vectors_below (suc k ∷ lens)) (greatest (suc k ∷ lens)) (last-vector (suc k ∷ lens) all)
    ∙ slab-end var.begin_at ((suc k - 1) * record_size h) (size_of var.ty) lens some
    ∙ sym (ap (λ (t : Bool). if t then var.begin_at else var.begin_at + (suc k - 1) * record_size h + slab_size h.dims var) not_zero))

-- by whether it has records, and by their number
end-at-kind : (h : Header) (var : Var) (n : ℕ) → 0 < product (slab_lens h.dims var.dimids)
    → extent_end h var n
    ≡ (if is_record_var h.dims var
    then (if n == 0 then var.begin_at else var.begin_at + (n - 1) * record_size h + slab_size h.dims var)
    else var.begin_at + slab_size h.dims var)
end-at-kind h var n some = elim (is_record_var h.dims var) as (λ kind. is_record_var h.dims var ≡ kind
    → extent_end h var n ≡ (if kind then (if n == 0 then var.begin_at else var.begin_at + (n - 1) * record_size h + slab_size h.dims var) else var.begin_at + slab_size h.dims var))
    [ true ↦ record-end h var n some | false ↦ fixed-end h var n some ] refl

pub extent-found : (h : Header) (v n end : ℕ) → IsSound h → IfSome (slice_get h.vars v) (λ var. end ≡ extent_sum h n var)
    → IfSome (slice_get h.vars v) (λ var. end ≡ extent_end h var n)
extent-found h v n end sound = grind (arith, end-at-kind, some_count, all-at (IsSoundVar h.version h.dims) h.vars v)
