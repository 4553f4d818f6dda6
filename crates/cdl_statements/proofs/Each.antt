-- Lists, one element at a time.
use Rattle.cdl_statements.proofs.Prelude.{ℕ, suc, List, [], ◌∷◌, ◌++◌, arith, All, take, drop}

-- P holds of each element
abbrev pub Each : {X : Type 0} → (X → Type 0) → List X → Type 0
Each P [] = Unit {0}
Each P (x ∷ xs) = P x × Each P xs

pub each_of : {X : Type 0} (P : X → Type 0) (xs : List X) → All P xs → Each P xs
each_of P [] all = tt
each_of P (x ∷ xs) all = (all 0 x (omega arith), each_of P xs (λ k d h. all (suc k) d (omega (arith, h))))

pub all_of : {X : Type 0} (P : X → Type 0) (xs : List X) → Each P xs → All P xs
all_of P (x ∷ xs) e (suc k) d h = all_of P xs e.1 k d (omega (arith, h))
all_of _ _ e _ d h = grind arith

pub each_map : {X : Type 0} (P Q : X → Type 0) (xs : List X) → ((x : X) → P x → Q x) → Each P xs → Each Q xs
each_map P Q [] f e = tt
each_map P Q (x ∷ xs) f e = (f x e.0, each_map P Q xs f e.1)

pub each_more : {X : Type 0} (P : X → Type 0) (xs ys : List X) → Each P xs → Each P ys → Each P (xs ++ ys)
each_more P [] ys p q = q
each_more P (x ∷ xs) ys p q = (p.0, each_more P xs ys p.1 q)

pub each_take : {X : Type 0} (P : X → Type 0) (n : ℕ) (xs : List X) → Each P xs → Each P (take n xs)
each_take P (suc n) (x ∷ xs) p = (p.0, each_take P n xs p.1)
each_take P _ _ p = tt

pub each_drop : {X : Type 0} (P : X → Type 0) (n : ℕ) (xs : List X) → Each P xs → Each P (drop n xs)
each_drop P (suc n) (x ∷ xs) p = each_drop P n xs p.1
each_drop _ _ _ p = grind arith
