-- Lists with a comma between each two: the numbers of an attribute, and the dimensions of a shape.
use Rattle.cdl_print.proofs.Prelude.{◌≡◌, ℕ, ℤ, ◌-◌, ◌/◌, ◌<◌, ◌≤◌, ◌==◌, Bool, List, [], ◌∷◌, ◌++◌, length, take, drop, map, refl, ap, ◌∙◌, arith, suc, if◌then◌else◌, codes, append_assoc, add-one, nat_lt, append-nil, length-drop, length-map, nat_tests, signed_decimal, NcType, concat_parts, dim_name, joined, numbers_text, number_suffix, number_of, numbers, numbers_from, size_of, dim_text, div-eq-sub-div, div-eq_of_lt, some_size, Dim}
use Rattle.cdl_print.specs.code.Pieces.{number_text}

-- what stands after a piece
abbrev pub following : Bool → List ℕ
following is_last = if is_last then [] else codes ", "

pub joined-cons : (x : List ℕ) (xs : List (List ℕ)) (is_last : Bool) → is_last ≡ (length xs == 0) → joined (x ∷ xs) ≡ x ++ (following is_last ++ joined xs)
joined-cons x xs is_last h = grind (arith, append-nil, nat_tests)

pub joined_names-cons : (dims : List Dim) (id : ℕ) (ids rest : List ℕ) (is_last : Bool) → rest ≡ id ∷ ids → is_last ≡ (length ids == 0) → joined (map (dim_name dims) rest) ≡ dim_text dims id is_last ++ joined (map (dim_name dims) ids)
unfolding dim_text concat_parts
joined_names-cons dims id ids rest is_last e last =
    rw e (joined-cons (dim_name dims id) (map (dim_name dims) ids) is_last (rw length-map last) ∙ simp (append_assoc, append-nil))

count-cons : (size : ℕ) (bytes : List ℕ) → 0 < size → size ≤ length bytes → length bytes / size ≡ suc (length (drop size bytes) / size)
count-cons size bytes some le = rw (length-drop size bytes) (div-eq-sub-div some le ∙ add-one ((length bytes - size) / size))

numbers_from-cons : (ty : NcType) (n k : ℕ) (bytes : List ℕ) → n ≡ suc k → numbers_from ty n bytes ≡ number_of ty (take (size_of ty) bytes) ∷ numbers_from ty k (drop (size_of ty) bytes)
numbers_from-cons ty n k bytes e = rw e refl

pub numbers-cons : (ty : NcType) (bytes : List ℕ) → size_of ty ≤ length bytes → numbers ty bytes ≡ number_of ty (take (size_of ty) bytes) ∷ numbers ty (drop (size_of ty) bytes)
unfolding numbers
numbers-cons ty bytes le = numbers_from-cons ty (length bytes / size_of ty) (length (drop (size_of ty) bytes) / size_of ty) bytes (count-cons (size_of ty) bytes (some_size ty) le)

pub numbers-none : (ty : NcType) (bytes : List ℕ) → length bytes < size_of ty → numbers ty bytes ≡ []
unfolding numbers
numbers-none ty bytes lt = rw (div-eq_of_lt lt) refl

pub no_numbers : (ty : NcType) (bytes : List ℕ) → length bytes ≡ 0 → numbers ty bytes ≡ []
no_numbers ty bytes none = numbers-none ty bytes (omega (arith, none, some_size ty))

pub number_values-none : (ty : NcType) (bytes : List ℕ) → length bytes < size_of ty → numbers_text ty bytes ≡ []
unfolding numbers_text
number_values-none ty bytes lt = rw (numbers-none ty bytes lt) refl

-- whether there is none
is_none : (ty : NcType) (bytes : List ℕ) (t : Bool) → nat_lt (length bytes) (size_of ty) ≡ t → t ≡ (length (numbers ty bytes) == 0)
is_none ty bytes t h = grind (arith, nat_tests, numbers, numbers-none, numbers-cons)

regroup : (a b c d : List ℕ) → (a ++ b) ++ (c ++ d) ≡ (a ++ (b ++ (c ++ []))) ++ d
regroup a b c d = simp (append_assoc, append-nil)

texts : NcType → List ℤ → List (List ℕ)
texts ty = map (λ (n : ℤ). signed_decimal n ++ number_suffix ty)

number_values-cons : (ty : NcType) (bytes : List ℕ) (is_last : Bool) → size_of ty ≤ length bytes → nat_lt (length (drop (size_of ty) bytes)) (size_of ty) ≡ is_last → numbers_text ty bytes ≡ number_text ty (take (size_of ty) bytes) is_last ++ numbers_text ty (drop (size_of ty) bytes)
unfolding numbers_text number_text concat_parts texts
number_values-cons ty bytes is_last le last =
    let n = number_of ty (take (size_of ty) bytes) in
    let others = numbers ty (drop (size_of ty) bytes) in
    let none = is_none ty (drop (size_of ty) bytes) is_last last in
    ap (λ (ns : List ℤ). joined (texts ty ns)) (numbers-cons ty bytes le)
    ∙ joined-cons (signed_decimal n ++ number_suffix ty) (texts ty others) is_last (rw length-map none)
    ∙ regroup (signed_decimal n) (number_suffix ty) (following is_last) (joined (texts ty others))

pub number_values-parts : (ty : NcType) (size : ℕ) (rest value others : List ℕ) (is_last : Bool) → size ≡ size_of ty → size ≤ length rest → value ≡ take size rest → others ≡ drop size rest → is_last ≡ nat_lt (length others) size → numbers_text ty rest ≡ number_text ty value is_last ++ numbers_text ty others
number_values-parts ty size rest value others is_last is le prefix back last = grind (arith, number_values-cons ty rest is_last)

-- the first number and the others
pub numbers_parts : (ty : NcType) (size : ℕ) (rest value others : List ℕ) → size ≡ size_of ty → size ≤ length rest → value ≡ take size rest → others ≡ drop size rest
    → numbers ty rest ≡ number_of ty value ∷ numbers ty others
numbers_parts ty size rest value others is le prefix back = grind (arith, numbers-cons ty rest)

-- a number with its suffix and what follows it, each put after the other
pub number_put : (ty : NcType) (value before d s e suffix : List ℕ) (number : ℤ) (is_last : Bool) → number ≡ number_of ty value → suffix ≡ number_suffix ty
    → d ≡ before ++ signed_decimal number → s ≡ d ++ suffix → e ≡ s ++ following is_last → e ≡ before ++ number_text ty value is_last
unfolding number_text concat_parts
number_put ty value before d s e suffix number is_last n x put_d put_s put_e =
    rw (put_e, put_s, put_d, x, n) (simp (append_assoc, append-nil))
