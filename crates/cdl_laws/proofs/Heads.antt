-- The statements of a dump, and what they say.
use Rattle.cdl_laws.proofs.Prelude.{get_or, ◌≡◌, ℕ, ◌^◌, ◌<◌, ◌≤◌, true, false, List, [], ◌∷◌, ◌++◌, length, map, ap, refl, arith, append_assoc, ℤ, unsigned_abs, ◌==◌, not, None, Some, codes, rules, printed, list_all, prefix_all, NcType, Version, escaped_name, is_plain, is_reserved, joined, IsName, type_word, Look, is_char, variable_text, Values, may_begin_word, scan, word_len, Lexeme, role, is_section, section_of, Value, Characters, Listed, both, constants, shape, and_left, and_right, and_both, word_at_start, Each, any_each, IsStatement, sym, ◌∙◌, false≢true, variable_opening, variable_closing, concat_parts, prefix_is, constant}
use Rattle.cdl_laws.proofs.NameTexts.{no_escape}
use Rattle.cdl_laws.proofs.Texts.{Closed, Reads, stops, mark, mark_read, word, number, name_word, word_reads, stop_word, prefix_again, marks_closed, reading}
use Rattle.cdl_laws.proofs.Numerals.{value_again}
use Rattle.cdl_laws.proofs.Strings.{string}
use Rattle.cdl_laws.proofs.ValueTexts.{commas, AreSmall, value_lexeme, value_said, all_read, constants_say}
use Rattle.cdl_laws.proofs.Characters.{strings, strings_said}
use Rattle.cdl_laws.proofs.Takes.{statement_says, semicolon, is_fine, word_fine, is_starter, all_fine}

-- ---- words

-- a word that isn't reserved begins no section
pub free_word : (w : List ℕ) → is_reserved w ≡ false → (is_section w ≡ false) × (section_of (word w) ≡ None)
unfolding is_reserved is_section
free_word w h = (search (rules, codes), search (rules, codes))

pub name_starts : (name : List ℕ) → IsName name → is_starter (role (word (escaped_name name))) ≡ true
name_starts name h = rw ((free_word (escaped_name name) (name_word name h).free).0) refl

plain_len : (w rest : List ℕ) → list_all is_plain w ≡ true → stops rest ≡ true → word_len (w ++ rest) ≡ length w
plain_len [] rest h k = stop_word rest k
plain_len (b ∷ w) rest h k =
    grind (arith, and_left, is_plain, and_right, word_at_start, no_escape, plain_len w rest (and_right (is_plain b) (list_all is_plain w) h) k)

-- a word without escapes
pub bare_word : (w : List ℕ) → may_begin_word (get_or w 0 0) ≡ true → list_all is_plain w ≡ true → Reads w (word w ∷ [])
bare_word [] h all = cc
bare_word (b ∷ w) h all = word_reads b w (λ rest. rw (h) refl) (λ rest stop. plain_len (b ∷ w) rest all stop)

pub type_reads : (ty : NcType) → Reads (type_word ty) (word (type_word ty) ∷ [])
type_reads ty = bare_word (type_word ty) (grind arith) (grind arith)

pub type_starts : (ty : NcType) → is_starter (role (word (type_word ty))) ≡ true
unfolding is_section
type_starts ty = grind arith

-- ---- lists

-- pieces that are one lexeme each, joined
pub joined_reads : {A : Type 0} (bytes : A → List ℕ) (lex : A → Lexeme) (x : A) (xs : List A) → Each (λ y. Reads (bytes y) (lex y ∷ [])) (x ∷ xs) →
    Reads (joined (map bytes (x ∷ xs))) (lex x ∷ commas (map lex xs))
joined_reads bytes lex x [] all rest stop = all.0 rest stop
joined_reads bytes lex x (y ∷ ys) all rest stop = simp (append_assoc, mark_read, all.0, joined_reads bytes lex y ys all.1)

pub fine_commas : (v : Version) (ls : List Lexeme) → list_all (is_fine v) ls ≡ true → list_all (is_fine v) (commas ls) ≡ true
fine_commas v [] h = refl
fine_commas v (l ∷ ls) h = grind (arith, and_left, and_right, and_both, fine_commas v ls (and_right (is_fine v l) (list_all (is_fine v) ls) h))

-- ---- data

-- NAME = VALUE, .. ;
listed_says : (v : Version) (name bytes : List ℕ) (l : Lexeme) (ls : List Lexeme) (values : List Value) → IsName name →
    Closed bytes (word (escaped_name name) ∷ (mark 61 ∷ l ∷ commas ls) ++ semicolon ∷ []) → list_all (is_fine v) (l ∷ ls) ≡ true →
    constants v true (l ∷ commas ls ++ semicolon ∷ []) ≡ Some values → IsStatement v Values bytes (Listed name values)
unfolding shape
listed_says v name bytes l ls values h closed fine are =
    statement_says v Values bytes (word (escaped_name name)) (mark 61 ∷ l ∷ commas ls) (Listed name values) closed (name_starts name h)
    (grind (arith, and_both, word, word_fine, and_left, fine_commas, and_right)) (rw ((name_word name h).stands) (ap (both Listed (Some name)) are))

pub numbers_say : (v : Version) (look : Look) (x : ℤ) (xs : List ℤ) → IsName look.name → is_char look.ty ≡ false → (look.in_rows ≡ false → length (x ∷ xs) ≤ look.row) → AreSmall (x ∷ xs) →
    IsStatement v Values (variable_text look (x ∷ xs)) (Listed look.name (map (value_said look) (x ∷ xs)))
unfolding variable_text variable_opening variable_closing concat_parts
numbers_say v look x xs name other small fit =
    listed_says v look.name (variable_text look (x ∷ xs)) (value_lexeme look x) (map (value_lexeme look) xs) (map (value_said look) (x ∷ xs)) name
    (λ rest. simp (prefix_is look (x ∷ xs) (λ char some. absurd (false≢true (sym other ∙ char))), reading, other, all_read look (variable_opening look) [] x xs other (λ e. let f = small e in omega (arith, f)) fit))
    (all_fine v (value_lexeme look) (λ y. unsigned_abs y < 2 ^ 64) (λ y h. grind (arith, word, codes, number, word_fine, value_again)) (x ∷ xs) fit)
    (constants_say v true (value_lexeme look) (value_said look) (λ y. unsigned_abs y < 2 ^ 64) (λ y h. grind (arith, constant, word, codes, number, value_again)) x xs fit)

pub strings_fine : (v : Version) (all : List (List ℕ)) → list_all (is_fine v) (map string all) ≡ true
strings_fine v all = all_fine v string (λ b. Unit {0}) (λ b u. refl) all (any_each all)

-- a text that is read as the strings of these rows
pub strings_say : (v : Version) (look : Look) (bytes : List ℕ) (r : List ℤ) (rows : List (List ℤ)) → IsName look.name → Closed bytes (strings look r rows) →
    IsStatement v Values bytes (Listed look.name (map Characters (map (printed look.trimmed 0) (r ∷ rows))))
strings_say v look bytes r rows name closed =
    let row = printed look.trimmed 0 r in
    let others = map (printed look.trimmed 0) rows in
    listed_says v look.name bytes (string row) (map string others) (map Characters (row ∷ others)) name closed (strings_fine v others) (strings_said v true row others)

-- ---- dimensions

-- a comment to the end of its line
pub comment_closed : (w : List ℕ) → list_all (λ b. not (b == 10)) w ≡ true → Closed (47 ∷ 47 ∷ (w ++ 10 ∷ [])) []
unfolding scan
comment_closed w h rest =
    let comment = prefix_again false None 47 (47 ∷ w) (10 ∷ rest) in
    grind (arith, append_assoc w (10 ∷ []) rest, comment, prefix_all (λ b. not (b == 10)) w (10 ∷ rest) h refl, marks_closed (codes "\n") refl rest)
