-- What a text makes of a state, statement by statement.
use Rattle.cdl_laws.proofs.Prelude.{◌≡◌, ℕ, Bool, true, false, List, [], ◌∷◌, ◌++◌, ◌∙◌, ap, refl, append_assoc, ◌&&◌, None, Some, is_none, Ok, arith, rules, map, list_all, Version, Section, Role, Lexeme, first_role, role, piece_read, pieces_after, step, is_end_role, with_first, cut_lexemes, pieces_of, Statement, first_bad, token_fault, shape, State, act, in_turn, and_left, and_right, and_both, Each, IsStatement, lexemes_at}
use Rattle.cdl_statements.specs.declared.piece.Role.TheVariants as roles
use Rattle.cdl_statements.specs.declared.piece.CutState.TheVariants.{Begins, Inside}
use Rattle.cdl_laws.proofs.Texts as texts
use Rattle.cdl_laws.proofs.Texts.{word}
pub use Rattle.cdl_laws.proofs.ValueTexts.{semicolon, turn}

-- ---- a statement is one piece, whatever follows

-- neither `;` nor the end
abbrev pub is_plain : Role → Bool
is_plain roles.Semicolon = false
is_plain roles.End = false
is_plain _ = true

abbrev pub all_plain : List Lexeme → Bool
all_plain ls = list_all (λ l. is_plain (role l)) ls

-- what no piece of its own begins with
abbrev pub is_starter : Role → Bool
is_starter roles.Colon = true
is_starter roles.Other = true
is_starter _ = false

next_goes_on : (p rest : List Lexeme) → all_plain p ≡ true → is_end_role (first_role role (p ++ semicolon ∷ rest)) ≡ false
next_goes_on [] rest h = refl
next_goes_on (t ∷ p) rest h = grind (arith, and_left (is_plain (role t)) (all_plain p) h)

inside_one : (p rest : List Lexeme) → all_plain p ≡ true → pieces_after role Inside (p ++ semicolon ∷ rest) ≡ (p ++ semicolon ∷ []) ∷ pieces_after role Begins rest
unfolding pieces_after
inside_one [] rest h = refl
inside_one (t ∷ p) rest h =
    let plain : all_plain p ≡ true = and_right (is_plain (role t)) (all_plain p) h in
    grind (arith, is_plain, and_left (is_plain (role t)) (all_plain p) h, next_goes_on p rest plain, with_first, inside_one p rest plain)

begun : (r n : Role) → is_starter r ≡ true → is_end_role n ≡ false → step Begins r n ≡ record { ends = false; state = Inside }
begun r n h off = grind arith

one_by_steps : (t : Lexeme) (p rest : List Lexeme) → is_starter (role t) ≡ true → all_plain p ≡ true →
    pieces_after role Begins ((t ∷ p ++ semicolon ∷ []) ++ rest) ≡ (t ∷ p ++ semicolon ∷ []) ∷ pieces_after role Begins rest
unfolding pieces_after
one_by_steps t p rest start h = rw (append_assoc p (semicolon ∷ []) rest, begun (role t) (first_role role (p ++ semicolon ∷ rest)) start (next_goes_on p rest h), inside_one p rest h) refl

-- ---- what a text makes of a state

-- the bytes make t of the state s, whatever follows
abbrev pub Takes : Version → List ℕ → State → State → Type 0
Takes v bytes s t = (rest : List ℕ) → in_turn (piece_read v) s (pieces_of (bytes ++ rest)) ≡ in_turn (piece_read v) t (pieces_of rest)

pub takes_both : (v : Version) (a b : List ℕ) (s t u : State) → Takes v a s t → Takes v b t u → Takes v (a ++ b) s u
takes_both v a b s t u p q rest = ap (λ bs. in_turn (piece_read v) s (pieces_of bs)) (append_assoc a b rest) ∙ p (b ++ rest) ∙ q rest

pub says_takes : (v : Version) (bytes : List ℕ) (statement : Statement) (s t : State) → IsStatement v s.section bytes statement → act v s statement ≡ Ok t → Takes v bytes s t
unfolding piece_read
says_takes v bytes statement s t is a rest = grind (arith, turn)

-- ---- lexemes that are no fault and end no statement

abbrev pub is_fine : Version → Lexeme → Bool
is_fine v l = is_plain (role l) && is_none (token_fault v l.kind l.bytes)

pub word_fine : (v : Version) (bytes : List ℕ) → is_fine v (word bytes) ≡ true
word_fine v bytes = grind arith

pub all_fine : {A : Type 0} (v : Version) (lex : A → Lexeme) (P : A → Type 0) → ((x : A) → P x → is_fine v (lex x) ≡ true) →
    (xs : List A) → Each P xs → list_all (is_fine v) (map lex xs) ≡ true
all_fine v lex P fine [] all = refl
all_fine v lex P fine (x ∷ xs) all = grind (arith, all_fine v lex P fine xs all.1)

fine_says : (v : Version) (ls : List Lexeme) → list_all (is_fine v) ls ≡ true → (all_plain ls ≡ true) × (first_bad v (ls ++ semicolon ∷ []) ≡ None)
fine_says v [] h = (refl, refl)
fine_says v (l ∷ ls) h = grind (arith, and_left, and_both, is_plain, is_none, fine_says v ls (and_right (is_fine v l) (list_all (is_fine v) ls) h))

-- a statement to its semicolon
pub statement_says : (v : Version) (section : Section) (bytes : List ℕ) (a : Lexeme) (p : List Lexeme) (statement : Statement) → texts.Closed bytes (a ∷ p ++ semicolon ∷ []) → is_starter (role a) ≡ true →
    list_all (is_fine v) (a ∷ p) ≡ true → shape v section (a ∷ p ++ semicolon ∷ []) ≡ Some statement → IsStatement v section bytes statement
unfolding pieces_of
statement_says v section bytes a p statement reads start fine is =
    let piece = a ∷ p ++ semicolon ∷ [] in
    let plain = (fine_says v p (and_right (is_fine v a) (list_all (is_fine v) p) fine)).0 in
    let cut : (rest : List Lexeme) → cut_lexemes (piece ++ rest) ≡ piece ∷ cut_lexemes rest = search (rules, one_by_steps, plain) in
    record { piece = piece; cut = λ rest. ap cut_lexemes (reads rest) ∙ cut (lexemes_at false 0 rest); says = record { sound = (fine_says v (a ∷ p) fine).1; shaped = is } }
