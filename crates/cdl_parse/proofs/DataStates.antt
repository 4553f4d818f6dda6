-- What the statements of the data section make of what is listed.
use Rattle.cdl_parse.proofs.Prelude.{◌≡◌, ℕ, zero, suc, ◌+◌, ◌<◌, ◌≤◌, Bool, true, false, List, [], ◌∷◌, length, refl, ap, ◌∙◌, arith, Option, Some, if◌then◌else◌, map, replicate, slice_index_or, slice_set, ℤ, flat_map, position_from, bytes_eq, bytes_of_number, Dim, Var, Draft, AllList, Lists, unlisted_drafts, AllSuit, Suits, listed_bytes, names_of, with_listed, position_of, Target, given_at}

-- the drafts have the names of their variables
pub names_are : (vars : List Var) (arrays : List (List ℕ)) (ds : List Draft) → AllList vars arrays ds → names_of ds ≡ map (λ (var : Var). var.name) vars
names_are [] [] [] h = refl
names_are (var ∷ vars) (a ∷ arrays) (d ∷ ds) h = ap (λ n. n ∷ names_of ds) (ap (λ (v : Var). v.name) h.0.is) ∙ ap (λ ns. var.name ∷ ns) (names_are vars arrays ds h.1)
names_are _ _ _ h = absurd h

-- before the section nothing is listed
pub none_listed : (dims : List Dim) (vars : List Var) (ts : List Target) → AllSuit dims ts (unlisted_drafts vars) → AllList vars (replicate (length ts) []) (unlisted_drafts vars)
none_listed dims [] [] h = tt
none_listed dims (var ∷ vars) (t ∷ ts) h = (record { is = refl; bytes = refl }, none_listed dims vars ts h.1)
none_listed dims _ _ h = absurd h

module _ (dims : List Dim) (name : List ℕ) (values : List ℤ) where
  first_lists : (var : Var) (a : List ℕ) (d : Draft) → Lists var a d → Lists var (flat_map (bytes_of_number d.var.ty) values) (record d { listed = Some values })
  first_lists var a d h = record { is = h.is; bytes = ap (λ (v : Var). flat_map (bytes_of_number v.ty) values) h.is }

  first_suits : (t : Target) (d : Draft) → Suits dims t d → Suits dims (record t { given = true }) (record d { listed = Some values })
  first_suits t d h = record { given = refl; fills = h.fills; takes = h.takes }

  -- what is listed afterwards, at a position after the first i
  abbrev Found : ℕ → List Var → List (List ℕ) → List Target → List Draft → ℕ → Type 0
  Found i vars arrays ts ds k =
      (j : ℕ) × (k ≡ i + j) × AllList vars (slice_set arrays j (listed_bytes name values ds)) (with_listed name values ds) × AllSuit dims (given_at j ts) (with_listed name values ds)

  found_at : (i : ℕ) (vars : List Var) (arrays : List (List ℕ)) (ts : List Target) (ds : List Draft) (k : ℕ) → AllList vars arrays ds → AllSuit dims ts ds →
      position_from (λ other. bytes_eq other name) i (names_of ds) ≡ Some k → Found i vars arrays ts ds k
  found_at i vars arrays ts [] k h suit is = cc
  found_at i [] [] ts (d ∷ ds) k h suit is = absurd h
  found_at i [] (a ∷ arrays) ts (d ∷ ds) k h suit is = absurd h
  found_at i (var ∷ vars) [] ts (d ∷ ds) k h suit is = absurd h
  found_at i (var ∷ vars) (a ∷ arrays) [] (d ∷ ds) k h suit is = absurd suit
  found_at i (var ∷ vars) (a ∷ arrays) (t ∷ ts) (d ∷ ds) k h suit is = by (bytes_eq d.var.name name) (found_at (i + 1) vars arrays ts ds k h.1 suit.1) is
    where
      rest : Option ℕ
      rest = position_from (λ other. bytes_eq other name) (i + 1) (names_of ds)

      by : (same : Bool) → (rest ≡ Some k → Found (i + 1) vars arrays ts ds k) → (if same then Some i else rest) ≡ Some k →
          (j : ℕ) × (k ≡ i + j) ×
          AllList (var ∷ vars) (slice_set (a ∷ arrays) j (if same then flat_map (bytes_of_number d.var.ty) values else listed_bytes name values ds)) (if same then record d { listed = Some values } ∷ ds else d ∷ with_listed name values ds) ×
          AllSuit dims (given_at j (t ∷ ts)) (if same then record d { listed = Some values } ∷ ds else d ∷ with_listed name values ds)
      by true more is = (0, (let first : i ≡ k = cc in omega (arith, first)), (first_lists var a d h.0, h.1), (first_suits t d suit.0, suit.1))
      by false more is = let found = more is in (suc found.0, omega (arith, found.1), (h.0, found.2), (suit.0, found.3))

  pub listed_at : (vars : List Var) (arrays : List (List ℕ)) (ts : List Target) (ds : List Draft) (k : ℕ) → AllList vars arrays ds → AllSuit dims ts ds → position_of (names_of ds) name ≡ Some k →
      AllList vars (slice_set arrays k (listed_bytes name values ds)) (with_listed name values ds) × AllSuit dims (given_at k ts) (with_listed name values ds)
  listed_at vars arrays ts ds k h suit is = grind (arith, found_at 0 vars arrays ts ds k h suit is)

-- the target at a position, written
pub given_is : (ts : List Target) (i : ℕ) (t d : Target) → i < length ts → t ≡ slice_index_or ts i d → slice_set ts i (record t { given = true }) ≡ given_at i ts
given_is [] i t d less is = absurd (let e : ⊥ = omega (arith, less) in e)
given_is (x ∷ ts) zero t d less is = ap (λ (y : Target). record y { given = true } ∷ ts) is
given_is (x ∷ ts) (suc i) t d less is = ap (λ ys. x ∷ ys) (given_is ts i t d (let e : i < length ts = omega (arith, less) in e) is)

pub none_given : (ts : List Target) (i : ℕ) → length ts ≤ i → ts ≡ given_at i ts
none_given [] i past = refl
none_given (x ∷ ts) zero past = absurd (let e : ⊥ = omega (arith, past) in e)
none_given (x ∷ ts) (suc i) past = ap (λ ys. x ∷ ys) (none_given ts i (let e : length ts ≤ i = omega (arith, past) in e))
