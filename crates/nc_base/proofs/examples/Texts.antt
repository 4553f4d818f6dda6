-- What the definitions give for a few names and texts: a change of a table that changes one of these is refused.
use Rattle.nc_base.proofs.Prelude.{◌≡◌, ℕ, ℤ, pos, Bool, true, false, List, [], ◌∷◌, length, map, refl, codes, escaped_name, escaped_text, variable_text, Int}
use Rattle.nc_base.proofs.examples.Written.{values_computed}

-- the text of an `int` variable of this name, with rows of this many values if it has rows, in lines of 20 bytes
narrow : List ℕ → Bool → ℕ → List ℤ → List ℕ
unfolding variable_text
narrow name in_rows row values =
    variable_text (record { name = name; ty = Int; in_rows = in_rows; row = row; total = length values; fill = pos 0; prints_fill = false; trimmed = true; width = 20 }) values

-- what is given, and what is expected
abbrev Give : List (List ℕ × List ℕ) → Type 0
Give rows = map (λ (row : List ℕ × List ℕ). row.0) rows ≡ map (λ (row : List ℕ × List ℕ). row.1) rows

texts : Give (
    -- a reserved word, a digit and a space, a plain name, and control characters
    (escaped_name (codes "data"), codes "\\data")
    ∷ (escaped_name (codes "2 b"), codes "\\2\\ b")
    ∷ (escaped_name (codes "a-b.c@d+e_1"), codes "a-b.c@d+e_1")
    ∷ (escaped_text (8 ∷ 9 ∷ 10 ∷ 11 ∷ 12 ∷ 13 ∷ 0 ∷ 127 ∷ []), codes "\\b\\t\\n\\v\\f\\r\\000\\177")
    -- a full line, a short last number, and a long number
    ∷ (narrow (codes "v") false 4 (pos 100 ∷ pos 200 ∷ pos 300 ∷ pos 4 ∷ []), codes "\n v = 100, 200, 300, \n    4 ;\n")
    ∷ (narrow (codes "v") false 3 (pos 1000 ∷ pos 20000 ∷ pos 66 ∷ []), codes "\n v = 1000, 20000, \n    66 ;\n")
    ∷ (narrow (codes "v") false 3 (pos 100 ∷ pos 1234567 ∷ pos 1 ∷ []), codes "\n v = 100, 1234567, \n    1 ;\n")
    -- no line is broken before a row's first number
    ∷ (narrow (codes "a_name_of_twenty_one_") false 2 (pos 1 ∷ pos 2 ∷ []), codes "\n a_name_of_twenty_one_ = 1, \n    2 ;\n")
    ∷ (narrow (codes "m") true 2 (pos 1234567890 ∷ pos 12345678 ∷ pos 1 ∷ pos 2 ∷ []), codes "\n m =\n  1234567890, \n    12345678,\n  1, 2 ;\n")
    -- the escapes of a name count
    ∷ (narrow (codes "2 b c") false 4 (pos 1 ∷ pos 2 ∷ pos 3 ∷ pos 4 ∷ []), codes "\n \\2\\ b\\ c = 1, 2, \n    3, 4 ;\n")
    ∷ [])
unfolding narrow values_computed
texts = refl
