-- A list in another order gives the same lists joined in another order.
use Rattle.nc_layout.proofs.Prelude.{flat_map, IsPermutation, swap, IsPermutation-refl, IsPermutation-trans, IsPermutation-append_left, IsPermutation-append_right, IsPermutation-append_comm, IsPermutation-keeps, ℕ, zero, suc, ◌<◌, List, [], ◌∷◌, ◌++◌, length, get_or, set, arith, append_assoc}

fronts_exchanged : {Y : Type 0} (a b c : List Y) → IsPermutation (a ++ (b ++ c)) (b ++ (a ++ c))
fronts_exchanged {Y} a b c = simp append_assoc at (IsPermutation-append_left c (a ++ b) (b ++ a) (IsPermutation-append_comm a b))

-- the element before a list takes the place of one in it
exchanged : {X Y : Type 0} (f : X → List Y) (l : List X) (j : ℕ) (a d : X) → j < length l
    → IsPermutation (f a ++ flat_map f l) (f (get_or l j d) ++ flat_map f (set l j a))
exchanged f [] j a d lt = absurd (omega arith)
exchanged f (b ∷ l) zero a d lt = fronts_exchanged (f a) (f b) (flat_map f l)
exchanged f (b ∷ l) (suc j) a d lt =
    IsPermutation-trans _ _ _ (fronts_exchanged (f a) (f b) (flat_map f l))
    (IsPermutation-trans _ _ _ (IsPermutation-append_right (f b) _ _ (exchanged f l j a d (omega arith)))
    (fronts_exchanged (f b) (f (get_or l j d)) (flat_map f (set l j a))))

swapped : {X Y : Type 0} (f : X → List Y) (l : List X) (i j : ℕ) (d : X) → i < length l → j < length l
    → IsPermutation (flat_map f l) (flat_map f (set (set l i (get_or l j d)) j (get_or l i d)))
swapped f [] i j d in_i in_j = absurd (omega arith)
swapped f (a ∷ l) zero zero d in_i in_j = IsPermutation-refl (flat_map f (a ∷ l))
swapped f (a ∷ l) zero (suc j) d in_i in_j = exchanged f l j a d (omega arith)
swapped f (a ∷ l) (suc i) zero d in_i in_j = exchanged f l i a d (omega arith)
swapped f (a ∷ l) (suc i) (suc j) d in_i in_j = IsPermutation-append_right (f a) _ _ (swapped f l i j d (omega arith) (omega arith))

pub flat_map-IsPermutation : {X Y : Type 0} (f : X → List Y) (xs ys : List X) → IsPermutation xs ys
    → IsPermutation (flat_map f xs) (flat_map f ys)
flat_map-IsPermutation {X} f xs ys same =
    IsPermutation-keeps xs (λ (zs : List X). IsPermutation (flat_map f xs) (flat_map f zs)) (IsPermutation-refl _) step ys same
  where
    step : (l : List X) (i j : ℕ) → i < length l → j < length l → IsPermutation (flat_map f xs) (flat_map f l)
        → IsPermutation (flat_map f xs) (flat_map f (swap l i j))
    step [] i j in_i in_j h = h
    step (d ∷ l) i j in_i in_j h = IsPermutation-trans _ _ _ h (swapped f (d ∷ l) i j d in_i in_j)
