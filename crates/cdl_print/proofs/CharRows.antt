-- The characters of a variable, some after others.
use Rattle.cdl_print.proofs.Prelude.{◌≡◌, ℕ, suc, ℤ, pos, ◌+◌, ◌-◌, ◌%◌, ◌<◌, ◌≤◌, true, cond, ◌&&◌, List, [], ◌∷◌, ◌++◌, length, map, take, drop, replicate, sym, ◌/◌, ◌∙◌, ap, refl, subst, arith, append_assoc, length-append, Result, Ok, Err, ◌==◌, OnOk, rules, false≢true, cond-false, cond-true, nat_tests, length-map, map-append, append-nil, take-append-drop, escaped_text, numbers, numbers_from, variable_prefix, Look, is_char, begins_row, char_lead, char_text, char_piece, held, piece, pieces, later_pieces, NcType, Char, place-add, held_other, held_nul, held_first, held_untrimmed, SinkView, Written, next_char_lead, shown, part_text, part_bytes, row_index_after_part, held_after, IsAfterPart, IsAfter, values_after, IsAfterNext, WrittenNext, Progress, escaped-append, flat_map, escaped_in_string, replicate-append-replicate}
use Rattle.cdl_print.proofs.Begun.{IsBegun, begun_at_first}
use Rattle.cdl_print.proofs.TrailingNuls.{without-cons}

-- those that are shown, if one byte more stands before
shown-cons : (look : Look) (b : ℕ) (xs : List ℕ) → shown look (b ∷ xs) ≡ cond ((look.trimmed && (b == 0)) && (length (shown look xs) == 0)) [] (b ∷ shown look xs)
shown-cons look b xs = grind (arith, without-cons b xs)

shown-none : (look : Look) → shown look [] ≡ []
shown-none look = grind arith

-- ---- the text of a character

-- the text of a character after NULs that are held
char_text_is : (look : Look) (nuls b : ℕ) → char_text look nuls (pos b) ≡ cond (look.trimmed && (b == 0)) [] (escaped_text (replicate nuls 0) ++ escaped_text (b ∷ []))
char_text_is look nuls b = ap (λ (t : List ℕ). cond (look.trimmed && (b == 0)) [] t) (escaped-append (replicate nuls 0) (b ∷ []))

none_held : escaped_text (replicate 0 0) ≡ []
unfolding escaped_text
none_held = refl

-- characters before which no NUL is held back
pub none_before : (bytes : List ℕ) → part_text 0 bytes ≡ flat_map escaped_in_string bytes
unfolding part_text escaped_text
none_before [] = refl
none_before (b ∷ bytes) = refl

one_more_held : (n : ℕ) → escaped_text (replicate (n + 1) 0) ≡ escaped_text (replicate n 0) ++ escaped_text (0 ∷ [])
one_more_held n = ap escaped_text (sym (replicate-append-replicate n 1 0)) ∙ escaped-append (replicate n 0) (0 ∷ [])

-- a character and those shown after it
text-cons : (look : Look) (n m b : ℕ) (others : List ℕ) → (0 < length others → m ≡ cond (look.trimmed && (b == 0)) (n + 1) 0)
    → char_text look n (pos b) ++ part_text m others ≡ part_text n (cond ((look.trimmed && (b == 0)) && (length others == 0)) [] (b ∷ others))
unfolding part_text
text-cons look n m b [] h = grind (arith, char_text_is look n b, append-nil)
text-cons look n m b (c ∷ others) h =
    grind (arith, char_text_is look n b, append_assoc, none_held, one_more_held n, escaped-append (b ∷ []) (c ∷ others), nat_tests)

piece_is : (look : Look) (before : List ℕ) (xs : List ℤ) (x : ℤ) → is_char look.ty ≡ true
    → piece look before xs x ≡ cond (begins_row look (length xs)) (char_lead look (length xs)) [] ++ char_text look (held look xs) x
unfolding piece char_piece
piece_is look before xs x is = cond-true (is_char look.ty) _ _ is

-- ---- characters of one row

abbrev IsInRow : Look → List ℤ → List ℕ → Type 0
IsInRow look xs part = 1 < length part → length xs % look.row + length part ≤ look.row

-- the place after one value more
row_index_push : (look : Look) (xs : List ℤ) (x : ℤ) → length (xs ++ x ∷ []) % look.row ≡ cond (length xs % look.row + 1 == look.row) 0 (length xs % look.row + 1)
row_index_push look xs x = ap (λ n. n % look.row) (length-append xs (x ∷ [])) ∙ place-add (length xs) 1 look.row (omega arith) (λ h. absurd (omega arith))

-- the place after one value more that isn't the last of its row
row_index_inside : (look : Look) (xs : List ℤ) (x : ℤ) → length xs % look.row + 1 < look.row → length (xs ++ x ∷ []) % look.row ≡ length xs % look.row + 1
row_index_inside look xs x lt = search (rules, nat_tests, row_index_push, cond-false)

-- the NULs that are held after a character that isn't the last of its row
held_inside : (look : Look) (xs : List ℤ) (b : ℕ) → length xs % look.row + 1 < look.row → held look (xs ++ pos b ∷ []) ≡ cond (look.trimmed && (b == 0)) (held look xs + 1) 0
held_inside look xs b lt = grind (arith, row_index_inside look xs (pos b) lt, length-append xs (pos b ∷ []), held_other look xs (pos b), held_nul look xs (pos b), held_untrimmed, nat_tests)

-- what stands before the next character
abbrev lead_at : Look → List ℤ → List ℕ
lead_at look xs = cond (begins_row look (length xs)) (char_lead look (length xs)) []

lead_inside : (look : Look) (xs : List ℤ) (b : ℕ) → length xs % look.row + 1 < look.row → lead_at look (xs ++ pos b ∷ []) ≡ []
lead_inside look xs b lt = grind (arith, row_index_inside look xs (pos b) lt, nat_tests)

-- the piece of a character and the text of those after it
text_step : (look : Look) (before : List ℕ) (xs : List ℤ) (b : ℕ) (part rest : List ℕ) → is_char look.ty ≡ true
    → (0 < length (shown look part) → held look (xs ++ pos b ∷ []) ≡ cond (look.trimmed && (b == 0)) (held look xs + 1) 0)
    → rest ≡ part_text (held look (xs ++ pos b ∷ [])) (shown look part) → piece look before xs (pos b) ++ rest ≡ lead_at look xs ++ part_text (held look xs) (shown look (b ∷ part))
text_step look before xs b part rest is more others =
    rw (others, piece_is look before xs (pos b) is, append_assoc, text-cons look (held look xs) (held look (xs ++ pos b ∷ [])) b (shown look part) more, shown-cons look b part) refl

-- the pieces of some characters of one row are their text
text_is : (look : Look) (before : List ℕ) (xs : List ℤ) (part : List ℕ) → is_char look.ty ≡ true → 0 < length part → IsInRow look xs part
    → pieces look before xs (map pos part) ≡ lead_at look xs ++ part_text (held look xs) (shown look part)
unfolding pieces part_text
text_is look before xs [] is some fits = absurd (omega arith)
text_is look before xs (b ∷ []) is some fits =
    text_step look before xs b [] [] is (λ more. absurd (omega (arith, more, ap length (shown-none look)))) (rw (shown-none look) refl)
text_is look before xs (b ∷ c ∷ part) is some fits =
    let row : length xs % look.row + length (b ∷ c ∷ part) ≤ look.row = fits (omega arith) in
    let inside : length xs % look.row + 1 < look.row = omega arith in
    let others = text_is look (before ++ piece look before xs (pos b)) (xs ++ pos b ∷ []) (c ∷ part) is (omega arith) (λ _. omega (arith, row_index_inside look xs (pos b) inside)) in
    text_step look before xs b (c ∷ part) _ is (λ _. held_inside look xs b inside) (others ∙ ap (λ (l : List ℕ). l ++ part_text (held look (xs ++ pos b ∷ [])) (shown look (c ∷ part))) (lead_inside look xs b inside))

-- the NULs that are held after them
held_is : (look : Look) (xs : List ℤ) (part : List ℕ) → is_char look.ty ≡ true → 0 < length part → IsInRow look xs part
    → held look (xs ++ map pos part) ≡ cond (length (xs ++ map pos part) % look.row == 0) 0 (held_after (held look xs) part (shown look part))
held_is look xs [] is some fits = absurd (omega arith)
held_is look xs (b ∷ []) is some fits =
    grind (arith, row_index_push look xs (pos b), length-append xs (pos b ∷ []), held_first look (xs ++ pos b ∷ []), held_other look xs (pos b), held_nul look xs (pos b), held_untrimmed, shown-cons look b [], shown-none look, nat_tests)
held_is look xs (b ∷ c ∷ part) is some fits =
    let row : length xs % look.row + length (b ∷ c ∷ part) ≤ look.row = fits (omega arith) in
    let inside : length xs % look.row + 1 < look.row = omega arith in
    let others = held_is look (xs ++ pos b ∷ []) (c ∷ part) is (omega arith) (λ _. omega (arith, row_index_inside look xs (pos b) inside)) in
    grind (arith, append_assoc xs (pos b ∷ []) (map pos (c ∷ part)), others, held_inside look xs b inside, shown-cons look b (c ∷ part), nat_tests)

-- what stands before them
lead_is : (look : Look) (xs : List ℤ) (p : Progress) → IsAfter look xs p → next_char_lead look p ≡ lead_at look xs
lead_is look xs p following = search rules

bytes_are : (look : Look) (xs : List ℤ) (p : Progress) (part : List ℕ) → is_char look.ty ≡ true → 0 < length part → IsInRow look xs part → IsAfter look xs p
    → part_bytes look p part ≡ later_pieces look xs (map pos part)
bytes_are look xs p part is some fits following = grind (arith, lead_is look xs p following, following.held is, text_is look (variable_prefix look xs) xs part is some fits)

row_index_next : (look : Look) (xs : List ℤ) (p q : Progress) (part : List ℕ) → 0 < length part → IsInRow look xs part → IsAfter look xs p → IsAfterPart look p part q → q.row_index ≡ length (xs ++ map pos part) % look.row
row_index_next look xs p q part some fits following next =
    grind (arith, place-add (length xs) (length part) look.row some fits, length-append xs (map pos part), length-map part pos, pos)

held_next : (look : Look) (xs : List ℤ) (p q : Progress) (part : List ℕ) → is_char look.ty ≡ true → 0 < length part → IsInRow look xs part → IsAfter look xs p → IsAfterPart look p part q
    → cond (row_index_after_part look p part == 0) 0 (held_after p.held_nuls part (shown look part)) ≡ held look (xs ++ map pos part)
held_next look xs p q part is some fits following next =
    rw (following.held is, ← next.row_index, row_index_next look xs p q part some fits following next) (sym (held_is look xs part is some fits))

after_next : (look : Look) (xs : List ℤ) (p q : Progress) (part : List ℕ) → is_char look.ty ≡ true → 0 < length part → IsInRow look xs part → IsAfter look xs p → IsAfterPart look p part q
    → IsAfter look (xs ++ map pos part) q
after_next look xs p q part is some fits following next = record {
  position = omega (arith, next.position, following.position, length-append xs (map pos part), length-map part pos);
  row_index = row_index_next look xs p q part some fits following next;
  columns_left = λ n. absurd (false≢true (sym n ∙ is));
  held = λ _. next.held ∙ held_next look xs p q part is some fits following next;
}

in_row_at : (look : Look) (xs : List ℤ) (p : Progress) (part : List ℕ) → IsAfter look xs p → (1 < length part → p.row_index + length part ≤ look.row) → IsInRow look xs part
in_row_at look xs p part following fits = λ long. let f = fits long in omega (arith, following.row_index)

-- characters as numbers
chars_from : (bytes : List ℕ) → numbers_from Char (length bytes) bytes ≡ map pos bytes
chars_from [] = refl
chars_from (b ∷ bytes) = ap (λ (xs : List ℤ). pos b ∷ xs) (chars_from bytes)

numbers_of_chars : (bytes : List ℕ) → numbers Char bytes ≡ map pos bytes
unfolding numbers
numbers_of_chars bytes = ap (λ n. numbers_from Char n bytes) (let e : length bytes / 1 ≡ length bytes = omega arith in e) ∙ chars_from bytes

pub chars_are : (ty : NcType) (bytes : List ℕ) → is_char ty ≡ true → map pos bytes ≡ numbers ty bytes
chars_are ty bytes h = grind (arith, numbers_of_chars, false≢true)

-- they are printed, or the sink failed inside of their text
pub after_part : {X E : Type 0} (look : Look) (part : List ℕ) (p q : Progress) (r : Result X E) → is_char look.ty ≡ true → 0 < length part
    → (1 < length part → p.row_index + length part ≤ look.row) → OnOk r (IsAfterPart look p part q) → OnOk r (IsAfterNext (values_after look p (numbers look.ty part)) q)
after_part look part p q (Ok done) is some fits next = rw (← chars_are look.ty part is) (record {
  position = omega (arith, next.position, length-map part pos);
  following = λ xs following. after_next look xs p q part is some (in_row_at look xs p part following fits) following next;
})
after_part look part p q (Err failure) is some fits next = tt

pub part_written : {X E : Type 0} (look : Look) (part : List ℕ) (p : Progress) (old new : SinkView) (r : Result X E) → is_char look.ty ≡ true → 0 < length part
    → (1 < length part → p.row_index + length part ≤ look.row) → Written old new (part_bytes look p part) r → WrittenNext old new (values_after look p (numbers look.ty part)) r
part_written look part p old new r h h2 h3 h4 = grind (arith, chars_are, bytes_are, in_row_at)

-- ---- NULs

one_nul : escaped_text (0 ∷ []) ≡ 92 ∷ 48 ∷ 48 ∷ 48 ∷ []
unfolding escaped_text
one_nul = refl

-- the first of some NULs, and the others
pub nuls_parts : (n k : ℕ) → k < n → escaped_text (replicate (n - k) 0) ≡ (92 ∷ 48 ∷ 48 ∷ 48 ∷ []) ++ escaped_text (replicate (n - (k + 1)) 0)
nuls_parts n k h = ap (λ m. escaped_text (replicate m 0)) (let e : n - k ≡ suc (n - (k + 1)) = omega arith in e) ∙ escaped-append (0 ∷ []) (replicate (n - (k + 1)) 0) ∙ ap (λ (t : List ℕ). t ++ escaped_text (replicate (n - (k + 1)) 0)) one_nul

pub nuls_none : (n : ℕ) → escaped_text (replicate (n - n) 0) ≡ []
nuls_none n = ap (λ m. escaped_text (replicate m 0)) (let e : n - n ≡ 0 = omega arith in e) ∙ none_held

pub nuls_first : (s : SinkView) (n : ℕ) → IsBegun s s (escaped_text (replicate (n - 0) 0)) (escaped_text (replicate n 0))
nuls_first s n = subst (λ m. IsBegun s s (escaped_text (replicate m 0)) (escaped_text (replicate n 0))) (let e : n ≡ n - 0 = omega arith in e) (begun_at_first s (escaped_text (replicate n 0)))

-- ---- the loop over characters

chars_apart : (n : ℕ) (rest prefix back : List ℕ) → prefix ≡ take n rest → back ≡ drop n rest → map pos rest ≡ map pos prefix ++ map pos back
chars_apart n rest prefix back f b = ap (map pos) (sym (take-append-drop n rest) ∙ ap (λ (x : List ℕ). x ++ drop n rest) (sym f) ∙ ap (λ (x : List ℕ). prefix ++ x) (sym b)) ∙ map-append pos prefix back

pub chars_parts : (ty : NcType) (n : ℕ) (rest prefix back : List ℕ) → is_char ty ≡ true → prefix ≡ take n rest → back ≡ drop n rest → numbers ty rest ≡ numbers ty prefix ++ numbers ty back
chars_parts ty n rest prefix back is f b =
    sym (chars_are ty rest is) ∙ chars_apart n rest prefix back f b ∙ ap (λ (xs : List ℤ). xs ++ map pos back) (chars_are ty prefix is) ∙ ap (λ (xs : List ℤ). numbers ty prefix ++ xs) (chars_are ty back is)

-- as many numbers as characters
pub chars_count : (ty : NcType) (bytes : List ℕ) → is_char ty ≡ true → length (numbers ty bytes) ≡ length bytes
chars_count ty bytes is = ap length (sym (chars_are ty bytes is)) ∙ length-map bytes pos
