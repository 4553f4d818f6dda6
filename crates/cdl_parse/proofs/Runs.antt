-- A run over statements, one statement on.
use Rattle.cdl_parse.proofs.Prelude.{◌≡◌, ℕ, true, false, List, ◌∷◌, refl, Ok, map, arith, Version, after, first_line, first_piece, is_done, other_pieces, next_token, pieces_left, text_of, words, Lexeme, lexeme, pieces_after, Cutter, Token, starting_line, piece_read, run, State, run_after}
use Rattle.cdl_parse.proofs.StatementWords.{begins}

pub line_is : (p : List Token) (ps : List (List Token)) → first_line (p ∷ ps) ≡ starting_line p
line_is p ps = grind arith

run_pieces : (text : List ℕ) (v : Version) (s : State) (all : List (List Token)) (l : Lexeme) (ls : List Lexeme) → map (lexeme text) (first_piece all) ≡ l ∷ ls →
    run text v s all ≡ run_after text v (first_line all) (other_pieces all) (piece_read v s (map (lexeme text) (first_piece all)))
unfolding run
run_pieces text v s all l ls h = grind (arith, line_is)

-- the first statement decides, or the others after it
pub run_first : (v : Version) (s : State) (c : Cutter) → is_done c ≡ false → run (text_of c) v s (pieces_left c) ≡ run_after (text_of c) v (first_line (pieces_left c)) (after c) (piece_read v s (words c))
unfolding words after
run_first v s c more = let begun = begins c more in run_pieces (text_of c) v s (pieces_left c) (lexeme (text_of c) (next_token c)) begun.0 begun.1

-- no statement is left
pub run_none : (text : List ℕ) (v : Version) (s : State) (c : Cutter) → is_done c ≡ true → run text v s (pieces_left c) ≡ Ok s
unfolding run pieces_left pieces_after
run_none text v s c done = rw (done) refl
