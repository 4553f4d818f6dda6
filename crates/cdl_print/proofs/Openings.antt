-- How long the line is after a name.
use Rattle.cdl_print.proofs.Prelude.{◌≡◌, ℕ, ◌+◌, ◌-◌, ◌<◌, Bool, cond, List, [], ◌∷◌, ◌++◌, length, take, get_or, ap, refl, arith, append_assoc, append-nil, codes, ◌||◌, flat_map, flat_map-append, take_all, take_more, concat_parts, begins_with_digit_or_mark, escaped_in_name, escaped_name, is_reserved, column, column-flat, prefix_escape}

-- the opening up to n bytes of the name
abbrev pub name_prefix : List ℕ → ℕ → List ℕ
name_prefix name n = codes "\n " ++ (prefix_escape name ++ flat_map escaped_in_name (take n name))

pub prefix_none : (name : List ℕ) (width : ℕ) (escaped : Bool) → escaped ≡ (begins_with_digit_or_mark name || is_reserved name)
    → width - cond escaped 2 1 ≡ width - column (name_prefix name 0)
unfolding prefix_escape
prefix_none name width escaped e = grind (arith, codes "\n ", column)

pub prefix_more : (name : List ℕ) (i : ℕ) → i < length name → name_prefix name i ++ escaped_in_name (get_or name i 0) ≡ name_prefix name (i + 1)
prefix_more name i lt = grind (arith, codes "\n ", flat_map-append escaped_in_name, take_more name i 0 lt, append_assoc, append-nil)

pub prefix_whole : (name : List ℕ) → name_prefix name (length name) ≡ codes "\n " ++ escaped_name name
unfolding escaped_name prefix_escape
prefix_whole name = ap (λ (t : List ℕ). codes "\n " ++ (prefix_escape name ++ flat_map escaped_in_name t)) (take_all (length name) name (omega arith))

-- after the equals sign
pub columns_left_opening : (name : List ℕ) (width columns_left : ℕ) → columns_left ≡ width - column (codes "\n " ++ name) → columns_left - 2 ≡ width - column (concat_parts (codes "\n " ∷ name ∷ codes " =" ∷ []))
unfolding concat_parts
columns_left_opening name width columns_left is =
    grind (arith, column-flat (codes "\n " ++ name) (codes " =") refl, codes "\n ", codes " =", append_assoc (codes "\n ") name (codes " ="), column)
