-- The strings of a variable of characters are read back, and what a row shows, filled up, is the row.
use Rattle.cdl_laws.proofs.Prelude.{◌≡◌, ℕ, suc, ◌+◌, ◌*◌, ◌<◌, ◌≤◌, true, false, List, [], ◌∷◌, ◌++◌, length, map, sym, ◌∙◌, ap, refl, arith, append_assoc, append-nil, length-append, ℤ, ◌==◌, codes, zero, ◌-◌, Bool, pos, unsigned_abs, replicate, Some, Ok, Option, flat_map, escaped_name, escaped_text, IsName, Look, is_char, char_lead, variable_opening, variable_closing, variable_text, Lexeme, Each, prefix_is, pieces_are, a_row, char_pieces, printed, map-append, length-replicate, replicate_more, Version, escaped_in_string, is_nul, string_value, stands_for, Characters, constants, Joined, Rows, filled, in_turn, le-leb, length-map, any_each, lexemes_at, concat_parts, add_value}
use Rattle.cdl_laws.proofs.Texts.{Closed, mark, marks_closed, word, reading}
use Rattle.cdl_laws.proofs.Strings.{string, string_read, unescape_all, between_quotes}
use Rattle.cdl_laws.proofs.ValueTexts.{commas, comma, semicolon, turn, constants_say, IsWithin}

-- ---- strings in a list

-- the end of a string, what stands between it and the next, and the next one's bytes
abbrev pub later_string : List ℕ → List ℕ → List ℕ
later_string gap bytes = 34 ∷ (gap ++ 34 ∷ escaped_text bytes)

pub strings_read : (gap : List ℕ) → Closed gap (comma ∷ []) → (s : List ℕ) (others : List (List ℕ)) (rest : List ℕ) →
    lexemes_at false 0 (34 ∷ (escaped_text s ++ (flat_map (later_string gap) others ++ 34 ∷ rest))) ≡
    string s ∷ (commas (map string others) ++ lexemes_at false 0 rest)
strings_read gap between s [] rest = string_read s rest
strings_read gap between s (o ∷ os) rest = simp (append_assoc, string_read, between, strings_read gap between o os)

-- ---- the rows of a variable

abbrev pub flat : List (List ℤ) → List ℤ
flat rows = flat_map (λ (r : List ℤ). r) rows

-- the rows after others
rows_text : (look : Look) (done : List ℤ) (k : ℕ) (rows : List (List ℤ)) → look.in_rows ≡ true → length done ≡ k * look.row →
    0 < length done → 0 < look.row → Each (λ (s : List ℤ). length s ≡ look.row) rows →
    char_pieces look done (flat rows) ≡ flat_map (later_string (codes ",\n  ")) (map (printed look.trimmed 0) rows)
unfolding char_pieces
rows_text look done k ((x ∷ xs) ∷ rows) h len some wide all =
    let s = x ∷ xs in
    let row_len : length s ≡ look.row = all.0 in
    let more = length-append done s in
    let grown : length (done ++ s) ≡ (k + 1) * look.row = more ∙ ap (λ n. n + length s) len ∙ ap (λ n. k * look.row + n) row_len ∙ (let g : k * look.row + look.row ≡ (k + 1) * look.row = grind arith in g) in
    let row = a_row look done x xs (flat rows) k len (omega (arith, row_len)) in
    let others = rows_text look (done ++ s) (k + 1) rows h grown (omega (arith, more, some)) wide all.1 in
    let lead : char_lead look (length done) ≡ codes "\",\n  \"" = (let z : (length done == 0) ≡ false = grind (arith, some) in rw (h) (rw (z) refl)) in
    simp (row, lead, others)
rows_text look done k _ h len some wide all = grind arith

-- ---- a variable's characters

-- what all its strings are read as
abbrev pub strings : Look → List ℤ → List (List ℤ) → List Lexeme
strings look r rows = word (escaped_name look.name) ∷ mark 61 ∷ string (printed look.trimmed 0 r) ∷
    (commas (map string (map (printed look.trimmed 0) rows)) ++ mark 59 ∷ [])

-- a first row after this blank, and the others
pub all_closed : (look : Look) (x : ℤ) (xs : List ℤ) (rows : List (List ℤ)) (blank : List ℕ) → IsName look.name → is_char look.ty ≡ true →
    length (x ∷ xs) ≤ look.row → Closed blank [] → char_lead look 0 ≡ blank ++ 34 ∷ [] →
    char_pieces look (x ∷ xs) (flat rows) ≡ flat_map (later_string (codes ",\n  ")) (map (printed look.trimmed 0) rows) → Closed
    (variable_text look (flat ((x ∷ xs) ∷ rows))) (strings look (x ∷ xs) rows)
unfolding variable_text variable_opening variable_closing concat_parts
all_closed look x xs rows blank name ty small closed lead more rest =
    let wide : 0 < length (flat ((x ∷ xs) ∷ rows)) → 0 < look.row = λ some. let long : suc (length xs) ≤ look.row = small in omega (arith, long) in
    let row = a_row look [] x xs (flat rows) 0 (omega arith) small in
    simp (prefix_is look (flat ((x ∷ xs) ∷ rows)) (λ char. wide), pieces_are look (variable_opening look) [] (flat ((x ∷ xs) ∷ rows)) ty, row, lead, more, ty, closed, reading, strings_read (codes ",\n  ") (marks_closed (codes ",\n  ") refl))

-- at rank 2 and up
pub table_closed : (look : Look) (r : List ℤ) (rows : List (List ℤ)) → IsName look.name → is_char look.ty ≡ true → look.in_rows ≡ true → 0 < look.row → Each (λ (s : List ℤ). length s ≡ look.row) (r ∷ rows) →
    Closed (variable_text look (flat (r ∷ rows))) (strings look r rows)
table_closed look [] rows name ty h wide all = absurd (let e : 0 ≡ look.row = all.0 in omega (arith, e, wide))
table_closed look (x ∷ xs) rows name ty h wide all =
    let len : suc (length xs) ≡ look.row = all.0 in
    all_closed look x xs rows (codes "\n  ") name ty (omega (arith, len)) (marks_closed (codes "\n  ") refl) (rw (h) refl)
    (rows_text look (x ∷ xs) 1 rows h (let one : suc (length xs) ≡ 1 * look.row = omega (arith, len) in one) (omega arith) wide all.1)

-- ---- rows that are filled up

-- a value of a character
abbrev pub IsCharacter : ℤ → Type 0
IsCharacter x = pos (unsigned_abs x) ≡ x

map_zeros : (n : ℕ) → map pos (replicate n 0) ≡ replicate n (pos 0)
map_zeros zero = refl
map_zeros (suc n) = ap (λ xs. pos 0 ∷ xs) (map_zeros n)

pub shown_len : (t : Bool) (n : ℕ) (xs : List ℤ) → length (printed t n xs) ≤ n + length xs
unfolding printed
shown_len t n [] = omega arith
shown_len t n (x ∷ xs) = grind (arith, length-append, length-replicate, shown_len t (n + 1) xs, shown_len t 0 xs)

-- before a character
with_first : (n : ℕ) (x : ℤ) (bs : List ℕ) → IsCharacter x → map pos ((replicate n 0 ++ unsigned_abs x ∷ []) ++ bs) ≡ (replicate n (pos 0) ++ x ∷ []) ++ map pos bs
with_first n x bs c = grind (arith, map-append, pos, map_zeros)

pub back_trimmed : (n m : ℕ) (xs : List ℤ) → Each IsCharacter xs → length (printed true n xs) + m ≡ n + length xs →
    map pos (printed true n xs) ++ replicate m (pos 0) ≡ replicate n (pos 0) ++ xs
unfolding printed
back_trimmed n m [] all len = grind (arith, append-nil)
back_trimmed n m (x ∷ xs) all len =
    let nul = back_trimmed (n + 1) m xs all.1 in
    let other = back_trimmed 0 m xs all.1 in
    grind (arith, is_nul, with_first, replicate_more n (pos 0), append_assoc, length-append, length-replicate, nul, other)

pub back_whole : (xs : List ℤ) → Each IsCharacter xs → map pos (printed false 0 xs) ≡ xs
unfolding printed
back_whole [] all = refl
back_whole (x ∷ xs) all = with_first 0 x (printed false 0 xs) all.0 ∙ ap (λ ys. x ∷ ys) (back_whole xs all.1)

pub filled_whole : (n : ℕ) (fill : ℤ) (xs : List ℤ) → length xs ≡ n → filled n fill xs ≡ xs
filled_whole n fill xs h = ap (λ m. xs ++ replicate m fill) (let e : n - length xs ≡ 0 = omega (arith, h) in e) ∙ append-nil xs

-- what a row shows, filled up: the fill value is NUL where it is trimmed
pub row_back : (t : Bool) (n : ℕ) (fill : ℤ) (xs : List ℤ) → (t ≡ true → fill ≡ pos 0) → length xs ≡ n → Each IsCharacter xs → filled n fill (map pos (printed t 0 xs)) ≡ xs
row_back t n fill xs h len all = grind (arith, printed, filled, pos, length-map, shown_len, back_trimmed, back_whole, filled_whole)

-- ---- what the strings say

pub strings_said : (v : Version) (takes_fill : Bool) (bytes : List ℕ) (all : List (List ℕ)) → constants v takes_fill (string bytes ∷ commas (map string all) ++ semicolon ∷ []) ≡ Some (map Characters (bytes ∷ all))
strings_said v takes_fill bytes all = constants_say v takes_fill string Characters (λ b. Unit {0})
    (λ b u. ap (λ (bs : List ℕ). Some (Characters (string_value bs))) (between_quotes (flat_map escaped_in_string b)) ∙ ap (λ (bs : List ℕ). Some (Characters bs)) (stands_for (flat_map escaped_in_string b) b (unescape_all b))) bytes all (any_each (bytes ∷ all))

-- ---- what becomes of them

row_listed : (len : ℕ) (fill : ℤ) (room : Option ℕ) (t : Bool) (before r more : List ℤ) → (t ≡ true → fill ≡ pos 0) → IsWithin room (length (before ++ (r ++ more))) → length r ≡ len → Each IsCharacter r →
    add_value (Rows len fill) room before (Characters (printed t 0 r)) ≡ Ok (before ++ r)
row_listed len fill room t before r more trims wide is all = grind (arith, length-append, le-leb, shown_len, row_back)

pub rows_listed : (len : ℕ) (fill : ℤ) (room : Option ℕ) (t : Bool) (before : List ℤ) (rows : List (List ℤ)) → (t ≡ true → fill ≡ pos 0) → IsWithin room (length (before ++ flat rows)) → Each (λ (r : List ℤ). (length r ≡ len) × Each IsCharacter r) rows →
    in_turn (add_value (Rows len fill) room) before (map Characters (map (printed t 0) rows)) ≡ Ok (before ++ flat rows)
rows_listed len fill room t before [] trims wide all = ap Ok (sym (append-nil before))
rows_listed len fill room t before (r ∷ rows) trims wide all =
    grind (arith, turn, row_listed, append_assoc, rows_listed len fill room t (before ++ r) rows)

pub line_listed : (room : Option ℕ) (t : Bool) (r : List ℤ) → IsWithin room (length r) → in_turn (add_value Joined room) [] (Characters (printed t 0 r) ∷ []) ≡ Ok (map pos (printed t 0 r))
line_listed room t r wide = grind (arith, turn, le-leb, shown_len)
