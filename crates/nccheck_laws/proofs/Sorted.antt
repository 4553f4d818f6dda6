-- Each list has a permutation in a total order.
use Rattle.nccheck_laws.proofs.Prelude.{All-nil, All-cons, Ordering, Less, Equal, Greater, IsPermutation-sym, IsPermutation-trans, All-permutation, IsPermutation, AllPairs, is_gt, ordering_reverse, upto, All-weaker, AllPairs-cons, IsPermutation-refl, IsPermutation-cons, IsPermutation-middle, UpTo, pairs-head, pairs-tail, ◌≡◌, Bool, true, false, cond, List, [], ◌∷◌, refl, ap, arith}
use Rattle.std.specs.Cmp.{IsTotalOrder}

module _ {X : Type 0} (R : X → X → Ordering) (order : IsTotalOrder R) where
  -- the element, before the first one that it isn't after
  abbrev inserted : X → List X → List X
  inserted x [] = x ∷ []
  inserted x (y ∷ ys) = cond (is_gt (R x y)) (y ∷ inserted x ys) (x ∷ y ∷ ys)

  abbrev pub sorted : List X → List X
  sorted [] = []
  sorted (x ∷ xs) = inserted x (sorted xs)

  inserted-permutation : (x : X) (ys : List X) → IsPermutation (x ∷ ys) (inserted x ys)
  inserted-permutation x [] = IsPermutation-refl (x ∷ [])
  inserted-permutation x (y ∷ ys) = by-test (is_gt (R x y)) (inserted-permutation x ys)
    where
      by-test : (b : Bool) → IsPermutation (x ∷ ys) (inserted x ys) → IsPermutation (x ∷ y ∷ ys) (cond b (y ∷ inserted x ys) (x ∷ y ∷ ys))
      by-test false more = IsPermutation-refl (x ∷ y ∷ ys)
      by-test true more =
          IsPermutation-trans (x ∷ y ∷ ys) (y ∷ x ∷ ys) (y ∷ inserted x ys)
          (IsPermutation-sym (y ∷ x ∷ ys) (x ∷ y ∷ ys) (IsPermutation-middle (y ∷ []) x ys))
          (IsPermutation-cons y (x ∷ ys) (inserted x ys) more)

  pub sorted-permutation : (xs : List X) → IsPermutation xs (sorted xs)
  sorted-permutation [] = IsPermutation-refl []
  sorted-permutation (x ∷ xs) =
      IsPermutation-trans (x ∷ xs) (x ∷ sorted xs) (inserted x (sorted xs)) (IsPermutation-cons x xs (sorted xs) (sorted-permutation xs))
      (inserted-permutation x (sorted xs))

  back : (r s : Ordering) → s ≡ ordering_reverse r → is_gt r ≡ true → is_gt s ≡ false
  back Less s e h = cc
  back Equal s e h = cc
  back Greater s e h = ap is_gt e

  inserted-order : (x : X) (ys : List X) → AllPairs (UpTo R order) ys → AllPairs (UpTo R order) (inserted x ys)
  inserted-order x [] up = AllPairs-cons (UpTo R order) x [] (All-nil (UpTo R order x)) up
  inserted-order x (y ∷ ys) up = by-test (is_gt (R x y)) refl (inserted-order x ys (pairs-tail R order y ys up))
    where
      by-test : (b : Bool) → is_gt (R x y) ≡ b → AllPairs (UpTo R order) (inserted x ys)
          → AllPairs (UpTo R order) (cond b (y ∷ inserted x ys) (x ∷ y ∷ ys))
      by-test false is more =
          AllPairs-cons (UpTo R order) x (y ∷ ys)
          (All-cons (UpTo R order x) y ys is
          (All-weaker (UpTo R order y) (UpTo R order x) (λ z after. upto order x y z is after) ys (pairs-head R order y ys up))) up
      by-test true is more =
          AllPairs-cons (UpTo R order) y (inserted x ys)
          (All-permutation (UpTo R order y) (x ∷ ys) (inserted x ys) (inserted-permutation x ys)
          (All-cons (UpTo R order y) x ys (back (R x y) (R y x) (order.antisymm y x) is) (pairs-head R order y ys up))) more

  pub sorted-up : (xs : List X) → AllPairs (UpTo R order) (sorted xs)
  sorted-up [] = λ i j d lt within. absurd (omega arith)
  sorted-up (x ∷ xs) = inserted-order x (sorted xs) (sorted-up xs)
