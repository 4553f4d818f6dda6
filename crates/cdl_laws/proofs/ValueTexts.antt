-- The listed numbers of a variable are read back, wherever the breaks are.
use Rattle.cdl_laws.proofs.Prelude.{◌≡◌, ℕ, zero, suc, ◌+◌, ◌^◌, ◌<◌, ◌≤◌, Bool, true, false, List, [], ◌∷◌, ◌++◌, length, map, sym, ◌∙◌, ap, refl, arith, append_assoc, append-nil, length-append, ℤ, unsigned_abs, ◌&&◌, if◌then◌else◌, Some, Result, Ok, codes, ◌⊎◌, Option, None, signed_decimal, flat_map, int_eq, mod-eq_of_lt, false≢true, Int, Version, Look, is_char, number_text, number_lead, number_piece, piece, pieces, CdlKind, Lexeme, Value, Number, Underscore, both, constant, constants, Numbers, has_number, in_turn, word_at_start, Each, NcType, add_value, le-leb}
use Rattle.cdl_laws.proofs.Texts.{Closed, Reads, stops, mark, word, number, word_reads, stop_word, marks_closed, number_reads}
use Rattle.cdl_laws.proofs.Numerals.{value_is}

-- one turn
pub turn : {S A : Type 0} (f : S → A → Result S CdlKind) (s t : S) (x : A) (xs : List A) → f s x ≡ Ok t → in_turn f s (x ∷ xs) ≡ in_turn f t xs
turn f s t x xs e = rw (in_turn, e) refl

-- ---- lists joined by commas

abbrev pub comma : Lexeme
comma = mark 44

abbrev pub semicolon : Lexeme
semicolon = mark 59

-- the lexemes after the first
abbrev pub commas : List Lexeme → List Lexeme
commas ls = flat_map (λ l. comma ∷ l ∷ []) ls

-- constants that each say something, with their semicolon
pub constants_say : {A : Type 0} (v : Version) (takes_fill : Bool) (lex : A → Lexeme) (say : A → Value) (P : A → Type 0) →
    ((x : A) → P x → constant v takes_fill (lex x) ≡ Some (say x)) →
    (x : A) (xs : List A) → Each P (x ∷ xs) → constants v takes_fill (lex x ∷ commas (map lex xs) ++ semicolon ∷ []) ≡ Some
    (map say (x ∷ xs))
constants_say v takes_fill lex say P is x [] all = ap (λ o. both (λ y ys. y ∷ ys) o (Some [])) (is x all.0)
constants_say v takes_fill lex say P is x (y ∷ ys) all =
    ap (both (λ y ys. y ∷ ys) (constant v takes_fill (lex x))) (constants_say v takes_fill lex say P is y ys all.1) ∙
    ap (λ o. both (λ y ys. y ∷ ys) o (Some (map say (y ∷ ys)))) (is x all.0)

-- ---- the text of numbers

-- the value prints as `_`
abbrev pub is_fill_value : Look → ℤ → Bool
is_fill_value look x = look.prints_fill && int_eq x look.fill

abbrev pub value_lexeme : Look → ℤ → Lexeme
value_lexeme look x = if is_fill_value look x then word (codes "_") else number (signed_decimal x)

abbrev pub value_said : Look → ℤ → Value
value_said look x = if is_fill_value look x then Underscore else Number (record { value = x; ty = Int })

text_reads : (look : Look) (x : ℤ) → unsigned_abs x < 2 ^ 64 → Reads (number_text look x) (value_lexeme look x ∷ [])
text_reads look x h =
    let blank = word_reads 95 [] (λ rest. refl) (λ rest stop. word_at_start 95 rest ∙ ap (λ n. 1 + n) (stop_word rest stop)) in
    grind (arith, codes "_", number_reads (signed_decimal x) (value_is x h), word, number, blank)

-- ---- what stands before a number

break_read : (b : Bool) → Closed (if b then codes "\n    " else []) []
break_read b = grind (arith, marks_closed)

-- what comes before a number that isn't the first: a comma and a space, or a comma and the beginning of a row
gap : (look : Look) (i : ℕ) → 0 < i → (look.in_rows ≡ false → i < look.row) →
    (number_lead look i ≡ codes ", ") ⊎ (number_lead look i ≡ codes ",\n  ")
gap look i some small = grind (arith, codes, false≢true, mod-eq_of_lt)

-- what comes before the number in this place, as lexemes
abbrev pub led : ℕ → List Lexeme
led zero = []
led (suc i) = comma ∷ []

lead_read : (look : Look) (i : ℕ) → (look.in_rows ≡ false → i < look.row) → Closed (number_lead look i) (led i)
lead_read look zero small = grind (arith, marks_closed)
lead_read look (suc i) small = grind (arith, gap look (suc i) (omega arith) small, marks_closed)

-- ---- the numbers

-- the values fit
abbrev pub AreSmall : List ℤ → Type 0
AreSmall xs = Each (λ x. unsigned_abs x < 2 ^ 64) xs

pieces_first : (look : Look) (before : List ℕ) (values : List ℤ) (x : ℤ) (xs : List ℤ) → is_char look.ty ≡ false →
    pieces look before values (x ∷ xs) ≡ number_piece look before (length values) x ++ pieces look (before ++ piece look before values x) (values ++ x ∷ []) xs
unfolding pieces piece
pieces_first look before values x xs h = grind arith

pieces_none : (look : Look) (before : List ℕ) (values : List ℤ) → pieces look before values [] ≡ []
unfolding pieces
pieces_none look before values = refl

more_stop : (look : Look) (before : List ℕ) (values xs : List ℤ) → is_char look.ty ≡ false → 0 < length values → (look.in_rows ≡ false → length values + length xs ≤ look.row) → (rest : List ℕ) → stops rest ≡ true → stops (pieces look before values xs ++ rest) ≡ true
unfolding number_piece
more_stop look before values [] h some small rest stop = grind (arith, pieces_none, pieces_first, pieces, piece)
more_stop look before values _ h some small rest stop = grind (arith, pieces_first, pieces, piece, append_assoc, gap)

-- the numbers from one on, after these values
pub all_read : (look : Look) (before : List ℕ) (values : List ℤ) (x : ℤ) (xs : List ℤ) → is_char look.ty ≡ false → (look.in_rows ≡ false → length values + length (x ∷ xs) ≤ look.row) → AreSmall (x ∷ xs) →
    Reads (pieces look before values (x ∷ xs)) (led (length values) ++ value_lexeme look x ∷ commas (map (value_lexeme look) xs))
unfolding number_piece
all_read look before values x [] h small fit rest stop =
    simp (pieces_first look before values x [] h, pieces_none, append_assoc, lead_read look (length values) (λ e. let f = small e in omega (arith, f)), break_read, text_reads look x fit.0, stop)
all_read look before values x (y ∷ ys) h small fit rest stop =
    let after = before ++ piece look before values x in
    let next = values ++ x ∷ [] in
    let len : length next ≡ suc (length values) = (let e = length-append values (x ∷ []) in omega (arith, e)) in
    let small2 : look.in_rows ≡ false → length next + length (y ∷ ys) ≤ look.row = λ e. let f = small e in omega (arith, f, len) in
    let lead = lead_read look (length values) (λ e. let f = small e in omega (arith, f)) in
    let stop_after = more_stop look after next (y ∷ ys) h (omega (arith, len)) small2 rest stop in
    let more = rw len at (all_read look after next y ys h small2 fit.1 rest stop) in
    simp (pieces_first look before values x (y ∷ ys) h, append_assoc, lead, break_read, text_reads look x fit.0, stop_after, more)

-- ---- what becomes of them

-- so many are taken
abbrev pub IsWithin : Option ℕ → ℕ → Type 0
IsWithin None n = Unit {0}
IsWithin (Some room) n = n ≤ room

one_added : (look : Look) (ty : NcType) (room : Option ℕ) (before : List ℤ) (x : ℤ) (xs : List ℤ) → IsWithin room (length (before ++ x ∷ xs)) → has_number ty x ≡ true → add_value (Numbers ty look.fill) room before (value_said look x) ≡ Ok (before ++ x ∷ [])
one_added look ty room before x xs wide fit = grind (arith, length-append, le-leb)

pub numbers_listed : (look : Look) (ty : NcType) (room : Option ℕ) (before xs : List ℤ) → IsWithin room (length (before ++ xs)) → Each (λ x. has_number ty x ≡ true) xs →
    in_turn (add_value (Numbers ty look.fill) room) before (map (value_said look) xs) ≡ Ok (before ++ xs)
numbers_listed look ty room before [] wide fit = ap Ok (sym (append-nil before))
numbers_listed look ty room before (x ∷ xs) wide fit =
    grind (arith, turn, one_added, append_assoc, numbers_listed look ty room (before ++ x ∷ []) xs)
