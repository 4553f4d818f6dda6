-- Copies of bytes, one after the other.
use Rattle.cdl_parse.proofs.Prelude.{◌≡◌, ℕ, zero, suc, ◌+◌, List, ◌++◌, refl, sym, ap, ◌∙◌, append_assoc, append-nil, replicate, rules, concat, flat_map}

more_copies : (n : ℕ) (xs : List ℕ) → concat (replicate n xs) ++ xs ≡ concat (replicate (suc n) xs)
more_copies zero xs = sym (append-nil xs)
more_copies (suc n) xs = append_assoc xs (concat (replicate n xs)) xs ∙ ap (λ ys. xs ++ ys) (more_copies n xs)

-- one copy more
pub copy_added : (before so_far after xs : List ℕ) (n : ℕ) → so_far ≡ before ++ concat (replicate n xs) → after ≡ so_far ++ xs → after ≡ before ++ concat (replicate (n + 1) xs)
copy_added before so_far after xs n was is = search (rules, append_assoc, more_copies)

pub copies_of : {X : Type 0} (f : X → List ℕ) (x : X) (n : ℕ) → concat (replicate n (f x)) ≡ flat_map f (replicate n x)
copies_of f x zero = refl
copies_of f x (suc n) = ap (λ ys. f x ++ ys) (copies_of f x n)
