-- The order of blocks, and blocks that have been sorted by their begins.
use Rattle.nc_layout.proofs.Prelude.{Contains, AllPairs, AllPairs-filter, nat_tests, Block, Extent, is_listed_before, precedes, ◌≡◌, suc, ◌≤◌, Bool, true, false, cond, List, [], ◌∷◌, filter, refl, sym, subst, arith, ◌⊎◌}
use Rattle.std.specs.List.Sorted.{IsNonDecreasingBy, IsStableByKey, ties}
use Rattle.std.specs.Ordering.{nat_cmp, is_lt}

-- ---- one block before another

listed-irrefl : (b : Block) → is_listed_before b b ≡ false
listed-irrefl v0 = grind arith

listed-asym : (b c : Block) → is_listed_before b c ≡ true → is_listed_before c b ≡ false
listed-asym v0 v1 h = grind arith

-- a block doesn't precede one that precedes it
pub precedes-asym : (b c : Extent) → precedes b c ≡ true → precedes c b ≡ false
precedes-asym b c h = grind (arith, nat_tests, listed-asym b.block c.block)

pub precedes-irrefl : (b : Extent) → precedes b b ≡ false
precedes-irrefl b = grind (arith, nat_tests, listed-irrefl b.block)

-- ---- lists of them

-- each block precedes all after it
abbrev pub Ascending : List Extent → Type 0
Ascending [] = Unit {0}
Ascending (b ∷ bs) = ((c : Extent) → Contains bs c → precedes b c ≡ true) × Ascending bs

-- they are listed in their order, where they begin at one offset
abbrev pub Listed : Extent → Extent → Type 0
Listed b c = is_listed_before b.block c.block ≡ true

-- ---- elements

pub contains-here : {X : Type 0} (x : X) (xs : List X) → Contains (x ∷ xs) x
contains-here {X} x xs = (0, omega arith, refl)

pub contains-there : {X : Type 0} (x c : X) (xs : List X) → Contains xs c → Contains (x ∷ xs) c
contains-there {X} x c xs (k, lt, at) = (suc k, omega arith, at)

pub contains-cases : {X : Type 0} (x c : X) (xs : List X) → Contains (x ∷ xs) c → (x ≡ c) ⊎ Contains xs c
contains-cases {X} x c xs v4 = grind arith

pub contains-none : {X : Type 0} (c : X) → Contains [] c → ⊥
contains-none {X} c (k, lt, at) = omega arith

-- what a filter keeps is in the list and passes, and what passes is kept
pub contains-filter : {X : Type 0} (p : X → Bool) (xs : List X) (c : X) → Contains xs c → p c ≡ true → Contains (filter p xs) c
contains-filter {X} p [] c has passes = absurd (contains-none c has)
contains-filter {X} p (x ∷ xs) c has passes = by_test (p x) refl (λ h. contains-filter p xs c h passes)
  where
    by_test : (t : Bool) → p x ≡ t → (Contains xs c → Contains (filter p xs) c) → Contains (cond t (x ∷ filter p xs) (filter p xs)) c
    by_test true is ih = grind (arith, ih, contains-cases x c xs has, contains-here x (filter p xs), contains-there x c (filter p xs))
    by_test false is ih = grind (arith, ih, contains-cases x c xs has)

pub filter-contains : {X : Type 0} (p : X → Bool) (xs : List X) (c : X) → Contains (filter p xs) c → Contains xs c × (p c ≡ true)
filter-contains {X} p [] c has = absurd (contains-none c has)
filter-contains {X} p (x ∷ xs) c has =
    grind (arith, filter-contains p xs c, contains-cases x c (filter p xs), contains-here, contains-there)

-- ---- what a stable sort by begins leaves

abbrev begins_before : Extent → Extent → Bool
begins_before b c = is_lt (nat_cmp b.begin c.begin)

ties-same : (b c : Extent) → b.begin ≡ c.begin → ties begins_before b c ≡ true
ties-same b c same = grind (arith, nat_tests)

-- blocks that begin at one offset are listed in their order
abbrev TiesAreListed : List Extent → Type 0
TiesAreListed bs = (x : Extent) → AllPairs Listed (filter (ties begins_before x) bs)

ties-tail : (b : Extent) (bs : List Extent) → TiesAreListed (b ∷ bs) → TiesAreListed bs
ties-tail b bs h x = by_test (ties begins_before x b) (h x)
  where
    by_test : (t : Bool) → AllPairs Listed (cond t (b ∷ filter (ties begins_before x) bs) (filter (ties begins_before x) bs))
        → AllPairs Listed (filter (ties begins_before x) bs)
    by_test true k = λ i j d lt within. k (suc i) (suc j) d (omega arith) (omega arith)
    by_test false k = k

listed-after : (b c : Extent) (bs : List Extent) → TiesAreListed (b ∷ bs) → Contains bs c → b.begin ≡ c.begin → Listed b c
listed-after b c bs h has same = after (contains-filter (ties begins_before b) bs c has (ties-same b c same))
  where
    after : Contains (filter (ties begins_before b) bs) c → Listed b c
    after (k, lt, at) = grind (arith, h b 0 (suc k) c, ties-same b b)

ascending : (bs : List Extent) → IsNonDecreasingBy (λ (b : Extent). b.begin) bs → TiesAreListed bs → Ascending bs
ascending [] up tied = tt
ascending (b ∷ bs) up tied = (
  λ c has. grind (arith, nat_tests, later c has, listed-after b c bs tied has),
  ascending bs (λ i j d le lt. up (suc i) (suc j) d (omega arith) (omega arith)) (ties-tail b bs tied),
)
  where
    later : (c : Extent) → Contains bs c → b.begin ≤ c.begin
    later c (k, lt, at) = grind (arith, up 0 (suc k) c)

pub ascending-sorted : (xs ys : List Extent) → IsNonDecreasingBy (λ (b : Extent). b.begin) ys
    → IsStableByKey (λ (b : Extent). b.begin) nat_cmp xs ys
    → AllPairs Listed xs → Ascending ys
ascending-sorted xs ys up stable pairs =
    ascending ys up (λ x. subst (λ (bs : List Extent). AllPairs Listed bs) (sym (stable x))
    (AllPairs-filter Listed (ties begins_before x) xs pairs))
