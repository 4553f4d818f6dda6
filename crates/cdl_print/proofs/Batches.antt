-- Numbers that are printed a few at a time.
use Rattle.cdl_print.proofs.Prelude.{◌≡◌, ℕ, ℤ, zero, suc, ◌+◌, ◌*◌, ◌/◌, ◌<◌, ◌≤◌, min, List, [], ◌∷◌, ◌++◌, length, take, drop, sym, ◌∙◌, ap, arith, length-take, append-nil, rules, take-take, drop-take, drop-drop, take_all, length-drop, div-mul-le_self, le_of_mul-le-mul_right, mul-le-mul_right, mul-div_cancel, number_of, numbers, size_of, NcType, some_size}
use Rattle.cdl_print.proofs.Joined.{numbers-cons, numbers-none}
use Rattle.cdl_print.proofs.Takes.{length-numbers}

pub numbers-split : (ty : NcType) (k : ℕ) (bytes : List ℕ) → k * size_of ty ≤ length bytes
    → numbers ty bytes ≡ numbers ty (take (k * size_of ty) bytes) ++ numbers ty (drop (k * size_of ty) bytes)
numbers-split ty zero bytes le = grind (arith, numbers-none ty [], some_size ty, numbers)
numbers-split ty (suc k) bytes le =
    let size = size_of ty in
    let more : suc k * size ≡ size + k * size = omega arith in
    let rest = drop size bytes in
    let long : length (take (size + k * size) bytes) ≡ size + k * size = omega (arith, le, length-take (size + k * size) bytes) in
    let first : numbers ty (take (size + k * size) bytes) ≡ number_of ty (take size bytes) ∷ numbers ty (take (k * size) rest)
    = numbers-cons ty (take (size + k * size) bytes) (omega (arith, long))
    ∙ ap (λ (x : List ℕ). number_of ty x ∷ numbers ty (drop size (take (size + k * size) bytes))) (take-take size (size + k * size) bytes (omega arith))
    ∙ ap (λ (x : List ℕ). number_of ty (take size bytes) ∷ numbers ty x) (drop-take size (k * size) bytes) in
    rw more
    (numbers-cons ty bytes (omega (arith, le))
    ∙ ap (λ (xs : List ℤ). number_of ty (take size bytes) ∷ xs) (numbers-split ty k rest (omega (arith, le, length-drop size bytes)))
    ∙ ap (λ (x : List ℕ). number_of ty (take size bytes) ∷ (numbers ty (take (k * size) rest) ++ numbers ty x)) (drop-drop (k * size) size bytes)
    ∙ ap (λ (xs : List ℤ). xs ++ numbers ty (drop (size + k * size) bytes)) (sym first))

-- the next few numbers and the others
pub batch_parts : (ty : NcType) (size n : ℕ) (rest prefix others : List ℕ) → size ≡ size_of ty → n ≡ min (80 * size) (length rest) → prefix ≡ take n rest → others ≡ drop n rest
    → numbers ty rest ≡ numbers ty prefix ++ numbers ty others
batch_parts ty size n rest prefix others is least f o =
    search (rules, numbers-split, take_all, numbers, numbers-none, length-drop, some_size, append-nil)

-- are few
pub batch_few : (ty : NcType) (size n : ℕ) (rest prefix : List ℕ) → size ≡ size_of ty → n ≡ min (80 * size) (length rest) → prefix ≡ take n rest → length (numbers ty prefix) ≤ 80
batch_few ty size n rest prefix is least f = search (rules, length-take, div-mul-le_self, length-numbers, le_of_mul-le-mul_right, some_size)

-- k whole values of this size have k * size bytes
pub length_taken : (size k : ℕ) (bytes : List ℕ) → k ≤ length bytes / size → length (take (k * size) bytes) ≡ k * size
length_taken size k bytes few = search (rules, mul-le-mul_right, div-mul-le_self, length-take)

-- a count of values taken
pub count_taken : (ty : NcType) (size k : ℕ) (bytes : List ℕ) → size ≡ size_of ty → k ≤ length bytes / size → length (numbers ty (take (k * size) bytes)) ≡ k
count_taken ty size k bytes is few = search (rules, some_size, length-numbers, length_taken, mul-div_cancel)

-- whole values with at least one byte are at least one value
pub some_numbers : (ty : NcType) (bytes : List ℕ) → length bytes ≡ length (numbers ty bytes) * size_of ty → 0 < length bytes → 0 < length (numbers ty bytes)
some_numbers ty bytes whole some = grind (arith, numbers ty bytes)

-- the values that go on in a row and the others
pub row_parts : (ty : NcType) (n : ℕ) (bytes row later : List ℕ) → length (take n bytes) ≡ length (numbers ty (take n bytes)) * size_of ty → n ≤ length bytes → row ≡ take n bytes → later ≡ drop n bytes
    → numbers ty bytes ≡ numbers ty row ++ numbers ty later
row_parts ty n bytes row later whole_values within f o = search (rules, numbers, length-take, numbers-split)
