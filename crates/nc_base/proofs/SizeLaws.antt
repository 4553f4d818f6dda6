-- The sizes of slabs and of records.
use Rattle.nc_base.proofs.Prelude.{◌≡◌, ℕ, zero, ◌+◌, ◌*◌, ◌<◌, ◌≤◌, min, nat_le, nat_tests, common_steps, Bool, true, false, List, [], ◌∷◌, length, get_or, drop, map, refl, arith, drop-cons, None, Some, if◌then◌else◌, list_all, sum_by, mul-le-mul_left, product, is_narrow, is_record_var, is_sole_narrow, record_vars, record_limit, has_small_slab, slab_if, checked_record_size, Dim, Var, Header}
use Rattle.std.proofs.Math.ListN.{drop_of_length-le}
use Rattle.nc_base.proofs.FilePlaces.{slot, record_size_of-slots}

-- a number that is cut off at c may be cut off before it is multiplied
pub min-mul : (a b c : ℕ) → min (min a c * b) c ≡ min (a * b) c
min-mul a zero c = grind (arith, mul-le-mul_left)
min-mul a _ c = grind (arith, mul-le-mul_left)

-- one more length of a capped product
pub capped_more : (f : ℕ → ℕ) (ids : List ℕ) (n i m c : ℕ) → i < length ids
    → min (n * product (map f (drop i ids))) c ≡ m
    → min (min (n * f (get_or ids i 0)) c * product (map f (drop (i + 1) ids))) c ≡ m
capped_more f ids n i m c lt inv = grind (arith, drop-cons, min-mul)

-- a capped product is the capped product of all lengths once none is left
pub capped_all : (f : ℕ → ℕ) (ids : List ℕ) (n i m c : ℕ) → length ids ≤ i → n ≤ c
    → min (n * product (map f (drop i ids))) c ≡ m → n ≡ m
capped_all f ids n i m c done small inv = grind (arith, drop_of_length-le)

-- the record variables from index i on
abbrev pub rest : List Dim → List Var → ℕ → List Var
rest dims vars i = record_vars dims (drop i vars)

pub rest_taken : (dims : List Dim) (vars : List Var) (i : ℕ) (x : Var) → i < length vars → x ≡ get_or vars i x → is_record_var dims x ≡ true
    → rest dims vars i ≡ x ∷ rest dims vars (i + 1)
rest_taken dims vars i x lt at is = grind (arith, common_steps)

pub rest_skipped : (dims : List Dim) (vars : List Var) (i : ℕ) (x : Var) → i < length vars → x ≡ get_or vars i x → is_record_var dims x ≡ false
    → rest dims vars i ≡ rest dims vars (i + 1)
rest_skipped dims vars i x lt at fixed = grind (arith, common_steps)

-- a sole variable is narrow or not, whatever else it is
abbrev pub sole : List Bool → Bool
sole (narrow ∷ []) = narrow
sole narrow = false

pub sole_is : (vars : List Var) → is_sole_narrow vars ≡ sole (map is_narrow vars)
sole_is v0 = grind arith

-- ---- the record size

small-bytes : (dims : List Dim) (narrow : Bool) (vars : List Var) → list_all (has_small_slab dims) vars ≡ true
    → sum_by (slab_if dims narrow) vars ≡ sum_by (slot narrow dims) vars
small-bytes dims narrow [] small = refl
small-bytes dims narrow (var ∷ vars) small = grind (arith, common_steps, small-bytes dims narrow vars)

large-bytes : (dims : List Dim) (narrow : Bool) (vars : List Var) → list_all (has_small_slab dims) vars ≡ false
    → record_limit < sum_by (slab_if dims narrow) vars
large-bytes dims narrow [] large = cc
large-bytes dims narrow (var ∷ vars) large = grind (arith, common_steps, large-bytes dims narrow vars)

-- the record size is this sum, unless the sum passes the limit
pub checked-is : (h : Header) (narrow : Bool) (size : ℕ) → narrow ≡ is_sole_narrow (record_vars h.dims h.vars)
    → size ≡ min (sum_by (slab_if h.dims narrow) (record_vars h.dims h.vars)) (record_limit + 1)
    → checked_record_size h ≡ (if nat_le size record_limit then Some size else None)
checked-is h narrow size sole is =
    let vars = record_vars h.dims h.vars in
    grind (arith, nat_tests, small-bytes h.dims narrow vars, large-bytes h.dims narrow vars, record_size_of-slots h.dims h.vars)
