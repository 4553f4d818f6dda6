-- One pass over the blocks in their order finds what the definition says of each block.
use Rattle.nc_layout.proofs.Prelude.{flat_map, IsPermutation, Contains, find, list_any, cases_lt, nat_tests, Contains-get_or, Contains-append_left, Contains-append_cases, Contains-push, Contains-push_cases, list_any_none, list_any_at, Contains-permutation, IsPermutation-sym, LayoutFinding, Extent, Reached, precedes, before, value_end, padding_end, further, reached_with, end_of, findings_at, swept, ◌≡◌, ℕ, ◌<◌, ◌≤◌, max, Bool, true, false, not, List, [], ◌∷◌, ◌++◌, get_or, map, fold, filter, refl, sym, ◌∙◌, ap, subst, arith, Option, Some, None, ◌==◌, ◌⊎◌, append_assoc}
use Rattle.nc_layout.specs.BlockRules.{greatest_end, first_block, first_at_end, findings_after, block_findings}
use Rattle.nc_layout.proofs.BlockOrder.{precedes-asym, precedes-irrefl, Ascending, contains-here, contains-there, contains-cases, contains-none, contains-filter, filter-contains}
use Rattle.nc_layout.proofs.FlatPermutation.{flat_map-IsPermutation}

-- ---- the greatest end

pub greatest_from-ge : {X : Type 0} (end : X → ℕ) (a : ℕ) (xs : List X) → a ≤ fold max a (map end xs)
greatest_from-ge {X} end a [] = omega arith
greatest_from-ge {X} end a (x ∷ xs) = let h = greatest_from-ge end (max a (end x)) xs in omega arith

pub greatest_from-above : {X : Type 0} (end : X → ℕ) (a : ℕ) (xs : List X) (c : X) → Contains xs c → end c ≤ fold max a (map end xs)
greatest_from-above {X} end a [] c has = absurd (contains-none c has)
greatest_from-above {X} end a (x ∷ xs) c has =
    grind (arith, contains-cases x c xs has, greatest_from-above end (max a (end x)) xs c, greatest_from-ge end (max a (end x)) xs)

pub greatest_from-least : {X : Type 0} (end : X → ℕ) (a m : ℕ) (xs : List X) → a ≤ m → ((c : X) → Contains xs c → end c ≤ m)
    → fold max a (map end xs) ≤ m
greatest_from-least {X} end a m [] le h = le
greatest_from-least {X} end a m (x ∷ xs) le h =
    let here = h x (contains-here x xs) in
    greatest_from-least end (max a (end x)) m xs (omega arith) (λ c has. h c (contains-there x c xs has))

-- ---- the first block

find-only : (p : Extent → Bool) (bs : List Extent) (c : Extent) → Contains bs c → p c ≡ true
    → ((d : Extent) → Contains bs d → p d ≡ true → d ≡ c) → find p bs ≡ Some c
find-only p [] c has passes only = absurd (contains-none c has)
find-only p (b ∷ bs) c has passes only =
    let others = λ (d : Extent) (k : Contains bs d). only d (contains-there b d bs k) in
    grind (arith, find-only p bs c, contains-cases b c bs has, only b (contains-here b bs))

some_precedes : (bs : List Extent) (c d : Extent) → Contains bs c → precedes c d ≡ true → list_any (λ e. precedes e d) bs ≡ true
some_precedes bs c d (k, lt, at) is = list_any_at (λ e. precedes e d) bs k c lt (ap (λ (x : Extent). precedes x d) at ∙ is)

none_precedes : (bs : List Extent) (c : Extent) → ((d : Extent) → Contains bs d → (c ≡ d) ⊎ (precedes c d ≡ true))
    → list_any (λ e. precedes e c) bs ≡ false
none_precedes bs c first =
    list_any_none (λ e. precedes e c) bs
    (λ k d lt. grind (arith, first (get_or bs k d) (Contains-get_or bs k d lt), precedes-irrefl c, precedes-asym c (get_or bs k d)))

-- a block of the list that precedes all others is the first
first_block-is : (bs : List Extent) (c : Extent) → Contains bs c → ((d : Extent) → Contains bs d → (c ≡ d) ⊎ (precedes c d ≡ true))
    → first_block bs ≡ Some c
first_block-is bs c has first =
    find-only (λ b. not (list_any (λ e. precedes e b) bs)) bs c has (ap not (none_precedes bs c first))
    (λ d k t. grind (arith, first d k, some_precedes bs c d has))

-- ---- the block that reaches furthest

-- c is the first of these blocks that has their greatest end
pub record IsFurthest (end : Extent → ℕ) (bs : List Extent) (c : Extent) : Type 0 where
  pub among : Contains bs c
  pub most : (d : Extent) → Contains bs d → end d ≤ end c
  pub first : (d : Extent) → Contains bs d → end d ≡ end c → (c ≡ d) ⊎ (precedes c d ≡ true)

-- the block is the one that reaches furthest, if there are blocks
abbrev pub Furthest : (Extent → ℕ) → List Extent → Option Extent → Type 0
Furthest end bs None = bs ≡ []
Furthest end bs (Some c) = IsFurthest end bs c

furthest-next : (end : Extent → ℕ) (bs : List Extent) (c b : Extent) → IsFurthest end bs c
    → ((d : Extent) → Contains bs d → precedes d b ≡ true)
    → end c < end b → IsFurthest end (bs ++ b ∷ []) b
furthest-next end bs c b h below more = record {
  among = Contains-push bs b;
  most = λ d has. grind (arith, Contains-push_cases bs b d has, h.most d);
  first = λ d has same. grind (arith, Contains-push_cases bs b d has, h.most d);
}

furthest-kept : (end : Extent → ℕ) (bs : List Extent) (c b : Extent) → IsFurthest end bs c
    → ((d : Extent) → Contains bs d → precedes d b ≡ true)
    → end b ≤ end c → IsFurthest end (bs ++ b ∷ []) c
furthest-kept end bs c b h below less = record {
  among = Contains-append_left bs (b ∷ []) c h.among;
  most = λ d has. grind (arith, Contains-push_cases bs b d has, h.most d);
  first = λ d has same. grind (arith, Contains-push_cases bs b d has, h.first d, below c h.among);
}

-- one more block, which all others precede
furthest-more : (end : Extent → ℕ) (bs : List Extent) (o : Option Extent) (b : Extent) → Furthest end bs o
    → ((d : Extent) → Contains bs d → precedes d b ≡ true)
    → Furthest end (bs ++ b ∷ []) (further end o b)
furthest-more end bs None b none below = grind arith
furthest-more end bs (Some c) b h below =
    grind (arith, nat_tests, cases_lt (end c) (end b), furthest-next end bs c b h below, furthest-kept end bs c b h below)

-- ---- the definition goes by the same blocks in another order

-- the two lists have the same blocks
pub record HaveSame (xs ys : List Extent) : Type 0 where
  pub there : (c : Extent) → Contains xs c → Contains ys c
  pub back : (c : Extent) → Contains ys c → Contains xs c

no_elements : (xs : List Extent) → ((c : Extent) → Contains xs c → ⊥) → xs ≡ []
no_elements [] none = refl
no_elements (x ∷ xs) none = absurd (none x (contains-here x xs))

-- what the pass has kept gives the greatest end, and the first block with this end
abbrev Tells : (Extent → ℕ) → List Extent → Option Extent → Type 0
Tells end xs o = (first_at_end end xs ≡ o) × (greatest_end end xs ≡ end_of end o)

furthest-tells : (end : Extent → ℕ) (xs bs : List Extent) (o : Option Extent) → HaveSame xs bs → Furthest end bs o → Tells end xs o
furthest-tells end xs bs None same none =
    let none_there = λ (c : Extent) (has : Contains xs c). contains-none c (subst (λ (ys : List Extent). Contains ys c) none (same.there c has)) in
    let empty = no_elements xs none_there in grind arith
furthest-tells end xs bs (Some c) same h =
    let least = greatest_from-least end 0 (end c) xs (omega arith) (λ d has. h.most d (same.there d has)) in
    let above = greatest_from-above end 0 xs c (same.back c h.among) in
    let greatest : greatest_end end xs ≡ end c = omega arith in
    let at_end = λ (b : Extent). end b == greatest_end end xs in (
      first_block-is (filter at_end xs) c
          (contains-filter at_end xs c (same.back c h.among) (grind (arith, nat_tests)))
          (λ d has. let k = filter-contains at_end xs d has in grind (arith, nat_tests, h.first d (same.there d k.0))),
      greatest,
    )

-- ---- the findings at one block

-- what the pass keeps of the blocks before one
pub record HasReached (bs : List Extent) (reached : Reached) : Type 0 where
  pub values : Furthest value_end bs reached.values
  pub padding : Furthest padding_end bs reached.padding

findings-same : (header_end : ℕ) (xs bs : List Extent) (reached : Reached) (b : Extent) → HaveSame xs bs → HasReached bs reached
    → findings_at header_end reached b ≡ findings_after header_end xs b
findings-same header_end xs bs reached b same h =
    let values = furthest-tells value_end xs bs reached.values same h.values in
    let padding = furthest-tells padding_end xs bs reached.padding same h.padding in
    grind (arith, nat_tests, values.0, values.1, padding.0, padding.1)

-- ---- the whole pass

-- the blocks before one are those that the pass has been over
before-same : (bs sorted done rest : List Extent) (b : Extent) → IsPermutation bs sorted → sorted ≡ done ++ b ∷ rest
    → ((c : Extent) → Contains done c → precedes c b ≡ true) → ((c : Extent) → Contains rest c → precedes b c ≡ true)
    → HaveSame (before bs b) done
before-same bs sorted done rest b same split below above = record { there = there; back = back }
  where
    there : (c : Extent) → Contains (before bs b) c → Contains done c
    there c has =
        let k = filter-contains (λ d. precedes d b) bs c has in
        let inside = subst (λ (xs : List Extent). Contains xs c) split (Contains-permutation bs sorted c same k.0) in
        let place = Contains-append_cases done (b ∷ rest) c inside in
        grind (arith, contains-cases b c rest, precedes-irrefl b, precedes-asym b c, above c)

    back : (c : Extent) → Contains done c → Contains (before bs b) c
    back c has =
        let inside = subst (λ (xs : List Extent). Contains xs c) (sym split) (Contains-append_left done (b ∷ rest) c has) in
        contains-filter (λ d. precedes d b) bs c (Contains-permutation sorted bs c (IsPermutation-sym bs sorted same) inside) (below c has)

swept-is : (header_end : ℕ) (bs sorted done rest : List Extent) (reached : Reached) → IsPermutation bs sorted → sorted ≡ done ++ rest
    → ((c d : Extent) → Contains done c → Contains rest d → precedes c d ≡ true) → Ascending rest → HasReached done reached
    → swept header_end reached rest ≡ flat_map (block_findings header_end bs) rest
unfolding block_findings
swept-is header_end bs sorted done [] reached same split below up h = refl
swept-is header_end bs sorted done (b ∷ rest) reached same split below up h =
    let before_b = λ (c : Extent) (has : Contains done c). below c b has (contains-here b rest) in
    let here = findings-same header_end (before bs b) done reached b (before-same bs sorted done rest b same split before_b up.0) h in
    let moved = split ∙ sym (append_assoc done (b ∷ []) rest) in
    let after = swept-is header_end bs sorted (done ++ b ∷ []) rest (reached_with reached b) same moved (λ c d in_done in_rest.
    let earlier = λ (has : Contains done c). below c d has (contains-there b d rest in_rest) in
    grind (arith, Contains-push_cases done b c in_done, up.0 d in_rest)) up.1
    (record {
      values = furthest-more value_end done reached.values b h.values before_b;
      padding = furthest-more padding_end done reached.padding b h.padding before_b;
    }) in
    grind (arith, here, after)

-- one pass over the sorted blocks finds what there is to find at each of them
pub swept-blocks : (header_end : ℕ) (bs sorted : List Extent) → IsPermutation bs sorted → Ascending sorted
    → IsPermutation (flat_map (block_findings header_end bs) bs) (swept header_end (record { values = None; padding = None }) sorted)
swept-blocks header_end bs sorted same up =
    subst (λ (xs : List LayoutFinding). IsPermutation (flat_map (block_findings header_end bs) bs) xs)
    (sym (swept-is header_end bs sorted [] sorted (record { values = None; padding = None }) same refl
    (λ c d has. absurd (contains-none c has)) up (record { values = refl; padding = refl })))
    (flat_map-IsPermutation (block_findings header_end bs) bs sorted same)
