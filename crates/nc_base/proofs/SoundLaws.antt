-- What a sound header keeps.
use Rattle.nc_base.proofs.Prelude.{◌≡◌, ℕ, ◌*◌, ◌/◌, ◌%◌, ◌<◌, ◌≤◌, Bool, true, ◌&&◌, ◌||◌, List, [], ◌∷◌, ◌++◌, length, get_or, drop, map, refl, sym, ◌∙◌, ap, subst, arith, Option, Some, filter, nat_lt, ◌==◌, not, if◌then◌else◌, IsTrue, All, IsSome, SomeIff, is_some, IfSome, ◌-◌, list_all, count_by, mul-le-mul_left, mod-eq-sub-div-mul, div-mul-le_self, le-leb, ltb-true, lt-ltb, length-map, div-mul-add, nat_tests, All-filter, All-head, All-tail, All-weaker, All-get_or, All-map, length-filter, size_of, dim_len, product, is_record_var, slab_lens, slab_size, record_vars, record_size, slab_limit, record_limit, checked_record_size, records_begin, slab_at, is_fixed_dim, has_values, IsSound, IsSoundVar, HasWholeValues, AreDimids, NcType, Version, count_limit, Att, Dim, Var, Header, Streaming, record_count, and_right}

passes : (test : Var → Bool) (xs : List Var) → All (λ x. test x ≡ true) xs → list_all test xs ≡ true
passes test [] h = refl
passes test (x ∷ xs) h = ap (λ b. b && list_all test xs) (All-head (λ (v : Var). test v ≡ true) x xs h) ∙ passes test xs (All-tail (λ (v : Var). test v ≡ true) x xs h)

all_pass : (p test : Var → Bool) (xs : List Var) → All (λ x. test x ≡ true) xs → list_all test (filter p xs) ≡ true
all_pass p test xs h = passes test (filter p xs) (All-filter p (λ (x : Var). test x ≡ true) xs h)

-- sound variables and a record that keeps the limit
pub checked-small : (h : Header) → All (IsSoundVar h.version h.dims) h.vars → record_size h ≤ record_limit → checked_record_size h ≡ Some (record_size h)
checked-small h vars small = grind (arith, all_pass, All-weaker, le-leb)

-- a sound header has a record size
pub checked-sound : (h : Header) → IsSound h → checked_record_size h ≡ Some (record_size h)
checked-sound h sound = checked-small h sound.vars sound.small_records

pub small-checked : (h : Header) → is_some (checked_record_size h) ≡ true → record_size h ≤ record_limit
small-checked h some = grind arith

pub some_product : (a b : ℕ) → 0 < a → 0 < b → 0 < a * b
some_product a b p q = omega (arith, mul-le-mul_left a (let h : 1 ≤ b = omega arith in h))

push_is_some : (xs : List ℕ) (x : ℕ) → xs ++ x ∷ [] ≡ [] → ⊥
push_is_some [] x h = cc
push_is_some (y ∷ ys) x h = cc

-- the lengths of a sound shape after its first place
some_later : (dims : List Dim) (before ids : List ℕ) → (before ≡ [] → ⊥) → AreDimids dims before ids → 0 < product (map (dim_len dims) ids)
some_later dims before [] some h = omega arith
some_later dims before (id ∷ ids) some h = grind (arith, some_product, some_later dims (before ++ id ∷ []) ids (push_is_some before id) h.1)

-- a slab of a sound shape has values
pub some_count : (dims : List Dim) (ids : List ℕ) → AreDimids dims [] ids → 0 < product (slab_lens dims ids)
some_count dims ids h = grind (arith, nat_tests, some_later)

pub some_size : (ty : NcType) → 0 < size_of ty
some_size ty = grind arith

-- a slab of a sound header keeps the limit
pub slab_at-small : (h : Header) (v : ℕ) → IsSound h → v < length h.vars → slab_at h v ≤ slab_limit
slab_at-small h v sound lt =
    All-get_or (λ n. n ≤ slab_limit) (map (slab_size h.dims) h.vars) v 0 (omega (arith, length-map h.vars (slab_size h.dims)))
    (All-map (λ n. n ≤ slab_limit) (slab_size h.dims) h.vars
    (All-weaker (IsSoundVar h.version h.dims) (λ (var : Var). slab_size h.dims var ≤ slab_limit) (λ var s. s.slab) h.vars sound.vars))

pub IsSome-from_SomeIff : (o : Option ℕ) (P : Type 0) (n : ℕ) → SomeIff o P n → P → IsSome o
IsSome-from_SomeIff o P n h h2 = grind arith

-- a shape after its first place
fixed_shape : (dims : List Dim) (before ids : List ℕ) → list_all (is_fixed_dim dims) ids ≡ true → AreDimids dims before ids
fixed_shape dims before [] h = tt
fixed_shape dims before (id ∷ ids) h = grind (arith, fixed_shape dims (before ++ id ∷ []) ids (and_right (is_fixed_dim dims id) _ h))

shape_fixed : (dims : List Dim) (before ids : List ℕ) → (before ≡ [] → ⊥) → AreDimids dims before ids → list_all (is_fixed_dim dims) ids ≡ true
shape_fixed dims before [] some h = refl
shape_fixed dims before (id ∷ ids) some h = grind (arith, shape_fixed dims (before ++ id ∷ []) ids (push_is_some before id) h.1)

pub sound_shape : (dims : List Dim) (ids : List ℕ) → 0 < length ids → get_or ids 0 0 < length dims
    → (IsTrue (list_all (is_fixed_dim dims) (drop 1 ids)) → AreDimids dims [] ids) × (AreDimids dims [] ids → IsTrue (list_all (is_fixed_dim dims) (drop 1 ids)))
sound_shape dims ids h h2 = grind (arith, fixed_shape, shape_fixed)

pub whole_part : (n size : ℕ) → n % size ≡ 0 → n ≡ n / size * size
whole_part n size none = omega (arith, mod-eq-sub-div-mul n size, div-mul-le_self n size)

part_whole : (n size count : ℕ) → 0 < size → n ≡ count * size → (n % size ≡ 0) × (n / size ≡ count)
part_whole n size count some whole = grind (arith, div-mul-add, mod-eq-sub-div-mul)

pub whole_values-iff : (v : Version) (att : Att) → length att.vals % size_of att.ty ≡ 0
    → (IsTrue (nat_lt (length att.vals / size_of att.ty) (count_limit v)) → HasWholeValues v att)
    × (HasWholeValues v att → IsTrue (nat_lt (length att.vals / size_of att.ty) (count_limit v)))
whole_values-iff v att none = (
  λ few. record { count = length att.vals / size_of att.ty; counted = ltb-true _ _ few; whole = whole_part (length att.vals) (size_of att.ty) none },
  λ w. lt-ltb _ _ (subst (λ n. n < count_limit v) (sym (part_whole (length att.vals) (size_of att.ty) w.count (some_size att.ty) w.whole).1) w.counted),
)

-- at most one dimension of length 0
pub one_record_dim : (dims : List Dim) → length (filter (λ (dim : Dim). dim.len == 0) dims) ≡ count_by (λ (dim : Dim). dim.len == 0) dims
one_record_dim dims = length-filter (λ (dim : Dim). dim.len == 0) dims

-- where a sound header doesn't tell its number of records, it is that of the whole records
pub streamed : (h : Header) (len begin quotient : ℕ) (size : Option ℕ) → h.numrecs ≡ Streaming → records_begin (record_vars h.dims h.vars) ≡ Some begin
    → size ≡ checked_record_size h → IfSome size (λ s. quotient ≡ (len - begin) / s) → IsSound h → quotient ≡ record_count h len
streamed h len begin quotient size streaming found is_size divided sound = grind (arith, checked-sound)

count_tested : (c n : ℕ) (b : Bool) → 0 < c → nat_lt 0 (c * (if b then n else 1)) ≡ (nat_lt 0 n || not b)
count_tested c n b h = grind arith

-- a variable of a sound shape has values unless it has records and there are none
pub has_values-unless_empty : (dims : List Dim) (var : Var) (n : ℕ) → AreDimids dims [] var.dimids → has_values dims n var ≡ (nat_lt 0 n || not (is_record_var dims var))
has_values-unless_empty dims var n shape = count_tested (product (slab_lens dims var.dimids)) n (is_record_var dims var) (some_count dims var.dimids shape)
