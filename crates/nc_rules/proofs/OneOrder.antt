-- Lists in a total order that tells all values apart: two of them with the same elements are the same.
use Rattle.nc_rules.proofs.Prelude.{IsPermutation, All, AllPairs, sum_by, Ordering, IsTotalOrder, is_lt, is_gt, ordering_reverse, tied_itself, ranks_by, sorted_far, sum_by-IsPermutation, ◌≡◌, ℕ, zero, suc, false, cond, List, [], ◌∷◌, get_or, refl, sym, ap, ◌∙◌, arith}
use Rattle.std.specs.declared.cmp.Ordering.TheVariants.{Equal}
use Rattle.std.specs.List.Sorted.{IsSorted}
use Rattle.std.proofs.lemmas.List.Elements.{All-cons, All-head, All-tail}
use Rattle.std.proofs.lemmas.List.Sums.{sum_by-cons}

module _ {X : Type 0} (R : X → X → Ordering) (order : IsTotalOrder R) where
  abbrev pub UpTo : X → X → Type 0
  UpTo x y = is_gt (R x y) ≡ false

  turned : (r s : Ordering) → r ≡ ordering_reverse s → is_lt r ≡ false → is_gt s ≡ false
  turned v0 v1 e h = grind arith

  -- what a sort gives
  pub sorted-order : (xs : List X) → IsSorted R xs → AllPairs UpTo xs
  sorted-order xs up i j d lt within =
      turned (R (get_or xs j d) (get_or xs i d)) (R (get_or xs i d) (get_or xs j d)) (order.antisymm _ _)
      (sorted_far (λ x y. is_lt (R x y)) (ranks_by order (λ (x : X). x)) xs up i j d (omega (arith, lt)) within)

  pub pairs-head : (x : X) (xs : List X) → AllPairs UpTo (x ∷ xs) → All (UpTo x) xs
  pairs-head x xs h k d lt = h zero (suc k) d (omega arith) (omega arith)

  pub pairs-tail : (x : X) (xs : List X) → AllPairs UpTo (x ∷ xs) → AllPairs UpTo xs
  pairs-tail x xs h i j d lt within = h (suc i) (suc j) d (omega arith) (omega arith)

  -- 1 for an element before y, and else 0
  abbrev one_if_less : Ordering → ℕ
  one_if_less r = cond (is_lt r) 1 0

  abbrev before : X → X → ℕ
  before y z = one_if_less (R z y)

  not-before : (r s : Ordering) → r ≡ ordering_reverse s → is_gt s ≡ false → one_if_less r ≡ 0
  not-before v0 v1 e h = grind arith

  none-before : (y : X) (zs : List X) → All (UpTo y) zs → sum_by (before y) zs ≡ 0
  none-before y [] up = refl
  none-before y (z ∷ zs) up =
      let first = not-before (R z y) (R y z) (order.antisymm z y) (All-head (UpTo y) z zs up) in
      let others = none-before y zs (All-tail (UpTo y) z zs up) in
      omega (arith, sum_by-cons (before y) z zs, first, others)

  neither : (r s : Ordering) → r ≡ ordering_reverse s → one_if_less r ≡ 0 → one_if_less s ≡ 0 → r ≡ Equal
  neither v0 v1 e h k = grind arith

  -- the first of a list in order comes after none of the same elements
  first-first : (x y : X) (xs ys : List X) → AllPairs UpTo (y ∷ ys) → sum_by (before y) (x ∷ xs) ≡ sum_by (before y) (y ∷ ys)
      → one_if_less (R x y) ≡ 0
  first-first x y xs ys up same =
      let itself : UpTo y y = ap is_gt (tied_itself order y) in
      let none = none-before y (y ∷ ys) (All-cons (UpTo y) y ys itself (pairs-head y ys up)) in
      omega (arith, sum_by-cons (before y) x xs, same, none)

  module _ (sure : (x y : X) → R x y ≡ Equal → x ≡ y) where
    same-counts : (xs ys : List X) → AllPairs UpTo xs → AllPairs UpTo ys → ((f : X → ℕ) → sum_by f xs ≡ sum_by f ys) → xs ≡ ys
    same-counts [] [] p q same = refl
    same-counts [] (y ∷ ys) p q same = absurd (omega (arith, sum_by-cons (λ _. 1) y ys, same (λ _. 1)))
    same-counts (x ∷ xs) [] p q same = absurd (omega (arith, sum_by-cons (λ _. 1) x xs, same (λ _. 1)))
    same-counts (x ∷ xs) (y ∷ ys) p q same =
        let first =
        sure x y (neither (R x y) (R y x) (order.antisymm x y) (first-first x y xs ys q (same (before y)))
        (first-first y x ys xs p (sym (same (before x))))) in
        let others =
        same-counts xs ys (pairs-tail x xs p) (pairs-tail y ys q)
        (λ f. omega (arith, sum_by-cons f x xs, sum_by-cons f y ys, same f, ap f first)) in
        ap (λ w. w ∷ xs) first ∙ ap (λ zs. y ∷ zs) others

    pub same-lists : (xs ys : List X) → IsPermutation xs ys → AllPairs UpTo xs → AllPairs UpTo ys → xs ≡ ys
    same-lists xs ys moved p q = same-counts xs ys p q (λ f. sym (sum_by-IsPermutation f xs ys moved))
