-- Slots at their indices, the bytes of the slots before an index, and what each slot gives.
use Rattle.nccheck_laws.proofs.Prelude.{◌++◌, Contains, common_steps, length-take, All-contains, Contains-append_left, Contains-append_right, Contains-append_cases, sum_by-cons, sum_by-le-sum_by, slice_get_within, get_or_from_slice_get, slice_get-get_or, take-length, Slot, padded_slab_len, is_sole_narrow, record_slots, slab_in_record, record_size, each_slot, bytes_before, is_record_slot, contains-none, contains-filter, filter-contains, ◌≡◌, ℕ, zero, suc, ◌+◌, ◌<◌, max, ◌≤◌, Bool, true, false, List, [], ◌∷◌, length, take, filter, sum_by, refl, sym, ◌∙◌, ap, subst, arith, Some, slice_get, if◌then◌else◌, All}

-- ---- elements

-- the element at this index
abbrev pub At : {X : Type 0} → List X → ℕ → X → Type 0
At xs i x = slice_get xs i ≡ Some x

pub contains-at : {X : Type 0} (xs : List X) (x : X) → Contains xs x → (k : ℕ) × At xs k x
contains-at {X} xs x (k, lt, is) = (k, slice_get-get_or xs k x lt ∙ ap (λ (y : X). Some y) is)

pub at-contains : {X : Type 0} (xs : List X) (k : ℕ) (x : X) → At xs k x → Contains xs x
at-contains {X} xs k x at = (k, slice_get_within xs k x at, get_or_from_slice_get xs k x x at)

pub at-middle : {X : Type 0} (before : List X) (x : X) (after : List X) → At (before ++ x ∷ after) (length before) x
at-middle {X} [] x after = refl
at-middle {X} (y ∷ before) x after = at-middle before x after

pub all-at : {X : Type 0} (P : X → Type 0) (xs : List X) (k : ℕ) (x : X) → All P xs → At xs k x → P x
all-at {X} P xs k x all at = All-contains P xs x all (at-contains xs k x at)

pub at-all : {X : Type 0} (P : X → Type 0) (xs : List X) → ((k : ℕ) (x : X) → At xs k x → P x) → All P xs
at-all {X} P xs each = λ k d lt. each k _ (slice_get-get_or xs k d lt)

taken-same : {X : Type 0} (xs : List X) (i k : ℕ) → k < i → slice_get (take i xs) k ≡ slice_get xs k
taken-same {X} xs zero k lt = absurd (omega arith)
taken-same {X} [] (suc i) k lt = refl
taken-same {X} (y ∷ ys) (suc i) zero lt = refl
taken-same {X} (y ∷ ys) (suc i) (suc k) lt = taken-same ys i k (omega arith)

-- of the first elements, those that pass a test
pub at-filtered : {X : Type 0} (p : X → Bool) (xs : List X) (i k : ℕ) (x : X) → At xs k x → k < i → p x ≡ true
    → Contains (filter p (take i xs)) x
at-filtered {X} p xs i k x at lt is = contains-filter p (take i xs) x (at-contains (take i xs) k x (taken-same xs i k lt ∙ at)) is

pub filtered-at : {X : Type 0} (p : X → Bool) (xs : List X) (i : ℕ) (x : X) → Contains (filter p (take i xs)) x
    → (k : ℕ) × (k < i) × At xs k x × (p x ≡ true)
filtered-at {X} p xs i x has =
    let h = filter-contains p (take i xs) x has in
    let at = contains-at (take i xs) x h.0 in
    let lt : at.0 < i = omega (arith, slice_get_within (take i xs) at.0 x at.1, length-take i xs) in
    (at.0, lt, sym (taken-same xs i at.0 lt) ∙ at.1, h.1)

-- ---- what a function gives of each slot

pub there-from : {A : Type 0} (f : ℕ → Slot → List A) (i : ℕ) (slots : List Slot) (k m : ℕ) (x : Slot) (a : A) → At slots k x → m ≡ i + k
    → Contains (f m x) a → Contains (each_slot f i slots) a
there-from {A} f i [] k m x a at is has = cc
there-from {A} f i (y ∷ ys) v3 m x a at is has = grind (arith, Contains-append_left, Contains-append_right, λ (k : ℕ). there-from f (i + 1) ys k m x a)

pub in-from : {A : Type 0} (f : ℕ → Slot → List A) (i : ℕ) (slots : List Slot) (P : A → Type 0)
    → ((k m : ℕ) (x : Slot) → At slots k x → m ≡ i + k → (a : A) → Contains (f m x) a → P a) → (a : A)
    → Contains (each_slot f i slots) a → P a
in-from {A} f i [] P each a has = absurd (contains-none a has)
in-from {A} f i (x ∷ xs) P each a has =
    let later = in-from f (i + 1) xs P (λ k m y at is b there. each (suc k) m y at (omega arith) b there) a in
    grind (arith, Contains-append_cases (f i x) (each_slot f (i + 1) xs) a has, each 0 i x refl (omega arith) a)

-- what holds of what each slot gives
pub in-each : {A : Type 0} (f : ℕ → Slot → List A) (slots : List Slot) (P : A → Type 0)
    → ((k : ℕ) (x : Slot) → At slots k x → (a : A) → Contains (f k x) a → P a) → (a : A) → Contains (each_slot f 0 slots) a → P a
in-each {A} f slots P each =
    in-from f 0 slots P (λ k m x at is a has. each k x at a (subst (λ n. Contains (f n x) a) (let e : m ≡ k = omega arith in e) has))

-- ---- sums over the slots before an index

-- the sum over those of the first slots that pass a test
abbrev pub total : (Slot → ℕ) → (Slot → Bool) → List Slot → ℕ → ℕ
total f p slots i = sum_by f (filter p (take i slots))

pub total-below : (f : Slot → ℕ) (p : Slot → Bool) (slots : List Slot) (k i : ℕ) (x : Slot) → At slots k x → p x ≡ true → k < i
    → total f p slots k + f x ≤ total f p slots i
total-below f p slots k zero x at is lt = absurd (omega arith)
total-below f p [] k (suc i) x at is lt = cc
total-below f p (y ∷ ys) zero (suc i) x at is lt = grind (arith, common_steps)
total-below f p (y ∷ ys) (suc k) (suc i) x at is lt = grind (arith, common_steps, total-below f p ys k i x at is)

pub total-whole : (f : Slot → ℕ) (p : Slot → Bool) (slots : List Slot) → total f p slots (length slots) ≡ sum_by f (filter p slots)
total-whole f p slots = ap (λ (xs : List Slot). sum_by f (filter p xs)) (take-length slots)

-- a bound on where each of them ends is one on the sum
pub total-reach : (f : Slot → ℕ) (p : Slot → Bool) (slots : List Slot) (b m i : ℕ)
    → ((k : ℕ) (x : Slot) → At slots k x → k < i → p x ≡ true → b + total f p slots k + f x ≤ m) → b + total f p slots i ≤ max b m
total-reach f p slots b m zero each = omega arith
total-reach f p [] b m (suc i) each = omega arith
total-reach f p (y ∷ ys) b m (suc i) each =
    let others = total-reach f p ys (b + (if p y then f y else 0)) m i (λ k x at lt is. grind (arith, common_steps, each (suc k) x at)) in
    grind (arith, common_steps, each 0 y refl)

-- ---- a slab in the record

pub slab-le : (slots : List Slot) (x : Slot) → (x.slab ≤ slab_in_record slots x) × (slab_in_record slots x ≤ padded_slab_len x)
slab-le slots x = grind arith

sole-length : (rs : List Slot) → is_sole_narrow rs ≡ true → sum_by (λ (x : Slot). 1) rs ≡ 1
sole-length v0 is = grind arith

none-sum : (f : Slot → ℕ) (rs : List Slot) → sum_by (λ (x : Slot). 1) rs ≡ 0 → sum_by f rs ≡ 0
none-sum f [] none = refl
none-sum f (x ∷ rs) none = absurd (grind (arith, sum_by-cons (λ (y : Slot). 1) x rs))

pub slab-fits : (slots : List Slot) (k : ℕ) (x : Slot) → At slots k x → x.is_record ≡ true
    → bytes_before slots k + slab_in_record slots x ≤ record_size slots
unfolding record_size
slab-fits slots k x at is = by_kind (is_sole_narrow (record_slots slots)) refl
  where
    below : (f : Slot → ℕ) → total f is_record_slot slots k + f x ≤ sum_by f (record_slots slots)
    below f =
        let le = total-below f is_record_slot slots k (length slots) x at is in
        grind (arith, slice_get_within slots k x at, total-whole f is_record_slot slots)

    by_kind : (b : Bool) → is_sole_narrow (record_slots slots) ≡ b
        → bytes_before slots k + (if b then x.slab else padded_slab_len x)
        ≤ sum_by (λ (s : Slot). if b then s.slab else padded_slab_len s) (record_slots slots)
    by_kind true sole =
        let count = sole-length (record_slots slots) sole in
        grind (arith, below (λ s. 1), none-sum padded_slab_len (record_slots (take k slots)), below (λ s. s.slab))
    by_kind false other = below padded_slab_len

-- the sum of the slabs in a record over the slots before an index isn't greater than that of the padded slabs
pub part-le : (slots : List Slot) (k : ℕ) → total (slab_in_record slots) is_record_slot slots k ≤ bytes_before slots k
part-le slots k = sum_by-le-sum_by (slab_in_record slots) padded_slab_len (record_slots (take k slots)) (λ x. (slab-le slots x).1)
