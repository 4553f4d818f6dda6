-- Values that stand one after the other, and the first of them that is missing.
use Rattle.nc_base.proofs.Prelude.{◌≡◌, ℕ, ◌+◌, ◌*◌, ◌/◌, ◌≤◌, Bool, cond, List, [], ◌∷◌, length, drop, map, refl, ◌∙◌, ap, arith, length-append, length-take, length-drop, None, Some, All, ◌++◌, zero, suc, range_with_len, concat, position, position_or_len, mul-div_cancel, le-ltb, take_at, drop_at, All-head, All-tail, NcType, size_of, number_of, numbers_from, numbers, bytes_at}
use Rattle.nc_base.proofs.SoundLaws.{some_size}

pub range-add : (i m n : ℕ) → range_with_len i (m + n) ≡ range_with_len i m ++ range_with_len (i + m) n
range-add i zero n = ap (range_with_len i) (let none : 0 + n ≡ n = omega arith in none) ∙ ap (λ k. range_with_len k n) (let same : i ≡ i + 0 = omega arith in same)
range-add i (suc m) n =
    ap (range_with_len i) (let more : suc m + n ≡ suc (m + n) = omega arith in more) ∙ ap (λ (r : List ℕ). i ∷ r) (range-add (i + 1) m n ∙ ap (λ k. range_with_len (i + 1) m ++ range_with_len k n) (let same : i + 1 + m ≡ i + suc m = omega arith in same))

pub map-map : {A B C : Type 0} (g : B → C) (f : A → B) (xs : List A) → map g (map f xs) ≡ map (λ x. g (f x)) xs
map-map g f [] = refl
map-map g f (x ∷ xs) = ap (λ ys. g (f x) ∷ ys) (map-map g f xs)

-- ---- values one after the other

length-concat : (size : ℕ) (xss : List (List ℕ)) → All (λ xs. length xs ≡ size) xss → length (concat xss) ≡ length xss * size
length-concat size [] all = omega arith
length-concat size (xs ∷ xss) all =
    let here : length xs ≡ size = All-head (λ (x : List ℕ). length x ≡ size) xs xss all in
    let rest = length-concat size xss (All-tail (λ (x : List ℕ). length x ≡ size) xs xss all) in
    omega (arith, length-append xs (concat xss), here, rest)

numbers_from-concat : (ty : NcType) (xss : List (List ℕ)) → All (λ xs. length xs ≡ size_of ty) xss → numbers_from ty (length xss) (concat xss) ≡ map (number_of ty) xss
numbers_from-concat ty [] all = refl
numbers_from-concat ty (xs ∷ xss) all =
    let here : length xs ≡ size_of ty = All-head (λ (x : List ℕ). length x ≡ size_of ty) xs xss all in
    ap (λ (x : List ℕ). number_of ty x ∷ numbers_from ty (length xss) (drop (size_of ty) (xs ++ concat xss))) (take_at xs (concat xss) (size_of ty) here)
    ∙ ap (λ (x : List ℕ). number_of ty xs ∷ numbers_from ty (length xss) x) (drop_at xs (concat xss) (size_of ty) here)
    ∙ ap (λ zs. number_of ty xs ∷ zs) (numbers_from-concat ty xss (All-tail (λ (x : List ℕ). length x ≡ size_of ty) xs xss all))

pub numbers-concat : (ty : NcType) (xss : List (List ℕ)) → All (λ xs. length xs ≡ size_of ty) xss → numbers ty (concat xss) ≡ map (number_of ty) xss
unfolding numbers
numbers-concat ty xss all =
    let count : length (concat xss) / size_of ty ≡ length xss = ap (λ (m : ℕ). m / size_of ty) (length-concat (size_of ty) xss all) ∙ mul-div_cancel (length xss) (some_size ty) in
    ap (λ (m : ℕ). numbers_from ty m (concat xss)) count ∙ numbers_from-concat ty xss all

-- ---- whole values

pub length-whole : (size : ℕ) (b : List ℕ) (offset : ℕ) → offset + size ≤ length b → length (bytes_at size b offset) ≡ size
length-whole size b offset whole = omega (arith, length-take size (drop offset b), length-drop offset b)

-- ---- the first missing value

-- where the first that passes would stand past the end, none passes
pub none-found : (p : ℕ → Bool) (xs : List ℕ) → position_or_len p xs ≡ length xs → position p xs ≡ None
none-found p xs e = rw e (ap (λ (t : Bool). cond t (Some (length xs)) None) (le-ltb (length xs) (length xs) (omega arith)))
