-- Tokens have places and lines, and lexemes have none: what all pieces make of a state is the same.
use Rattle.cdl_laws.proofs.Prelude.{◌≡◌, ℕ, zero, suc, ◌+◌, ◌-◌, Bool, true, List, [], ◌∷◌, drop, take, map, sym, ◌∙◌, ap, refl, ◌&&◌, is_none, Ok, rules, arith, drop-drop, Version, TokenKind, Role, CutState, Token, scan, Lexeme, lexeme, first_role, role, run, piece_read, statements, pieces_after, with_first, step, cut_lexemes, lexemes_at, lexemes, State, in_turn, tokens_at, tokens, token_at}
use Rattle.cdl_tokens.specs.declared.token.TokenKind.TheVariants as kinds
use Rattle.cdl_statements.specs.declared.piece.CutState.TheVariants as places

-- ---- tokens

one_lexeme : (text : List ℕ) (at : ℕ) (kind : TokenKind) (n : ℕ) (bytes : List ℕ) → drop at text ≡ bytes → lexeme text (token_at text at kind n) ≡ record { kind = kind; bytes = take n bytes }
one_lexeme text at kind n bytes e = search rules

tail_at : (text : List ℕ) (at b : ℕ) (bytes : List ℕ) → drop at text ≡ b ∷ bytes → drop (at + 1) text ≡ bytes
tail_at text at b bytes e = sym (drop-drop 1 at text) ∙ ap (drop 1) e

pub lexemes_are : (text : List ℕ) (fresh : Bool) (at more : ℕ) (bytes : List ℕ) → drop at text ≡ bytes → map (lexeme text) (tokens_at text fresh at more bytes) ≡ lexemes_at fresh more bytes
unfolding tokens_at lexemes_at
lexemes_are text fresh at more [] e = ap (λ (l : Lexeme). l ∷ []) (one_lexeme text at kinds.End 0 [] e)
lexemes_are text fresh at (suc more) (b ∷ bytes) e = lexemes_are text fresh (at + 1) more bytes (tail_at text at b bytes e)
lexemes_are text fresh at zero (b ∷ bytes) e =
    let f = scan fresh (b ∷ bytes) in
    grind (arith, one_lexeme text at, e, lexemes_are text (fresh && is_none f.kind) (at + 1) (f.len - 1) bytes (tail_at text at b bytes e))

-- ---- pieces

with_first_map : {X Y : Type 0} (f : X → Y) (b : Bool) (t : X) (ps : List (List X)) → map (map f) (with_first b t ps) ≡ with_first b (f t) (map (map f) ps)
with_first_map f b t ps = grind arith

pieces_map : {X Y : Type 0} (f : X → Y) (role : Y → Role) (place : CutState) (ts : List X) → map (map f) (pieces_after (λ t. role (f t)) place ts) ≡ pieces_after role place (map f ts)
unfolding pieces_after
pieces_map f role place [] = refl
pieces_map f role place (t ∷ ts) =
    let s = step place (role (f t)) (first_role (λ u. role (f u)) ts) in
    grind (arith, with_first_map f, pieces_map f role s.state ts)

pub pieces_are : (text : List ℕ) → map (map (lexeme text)) (statements text) ≡ cut_lexemes (lexemes text)
pieces_are text =
    pieces_map (lexeme text) role places.Begins (tokens text) ∙ ap cut_lexemes (lexemes_are text true 0 0 text refl)

-- ---- what they make of a state

pub run_is : (text : List ℕ) (v : Version) (s t : State) (ps : List (List Token)) → in_turn (piece_read v) s (map (map (lexeme text)) ps) ≡ Ok t → run text v s ps ≡ Ok t
unfolding run
run_is text v s t [] h = let same : s ≡ t = cc in ap (λ u. Ok u) same
run_is text v s t (p ∷ ps) h = grind (arith, (λ (u : State). run_is text v u t ps))
