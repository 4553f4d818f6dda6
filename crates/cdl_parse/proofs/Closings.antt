-- The line of the last statement but one, a statement at a time.
use Rattle.cdl_parse.proofs.Prelude.{◌≡◌, ℕ, true, false, List, ◌∷◌, map, refl, ap, sym, ◌∙◌, arith, after, first_line, first_piece, is_done, next_token, other_pieces, pieces_left, text_of, words, Lexeme, lexeme, pieces_after, Cutter, Token, closing_after, closing_line}
use Rattle.cdl_parse.proofs.StatementWords.{begins}
use Rattle.cdl_parse.proofs.Runs.{line_is}

pub from_start : (ps : List (List Token)) → closing_after 0 0 ps ≡ closing_line ps
from_start (p ∷ q ∷ r ∷ ps) = from_start (q ∷ r ∷ ps)
from_start _ = refl

of_pieces : (text : List ℕ) (before last : ℕ) (all : List (List Token)) (l : Lexeme) (ls : List Lexeme) → map (lexeme text) (first_piece all) ≡ l ∷ ls →
    closing_after before last all ≡ closing_after last (first_line all) (other_pieces all)
of_pieces text before last all l ls h = grind (arith, line_is)

-- one piece on
pub closing_on : (before last : ℕ) (c rest : Cutter) (line : ℕ) → is_done c ≡ false → line ≡ first_line (pieces_left c) → pieces_left rest ≡ after c → closing_after last line (pieces_left rest) ≡ closing_after before last (pieces_left c)
unfolding words after
closing_on before last c rest line more is on =
    let begun = begins c more in
    ap (λ n. closing_after last n (pieces_left rest)) is ∙ ap (closing_after last (first_line (pieces_left c))) on ∙ sym (of_pieces (text_of c) before last (pieces_left c) (lexeme (text_of c) (next_token c)) begun.0 begun.1)

-- no piece is left
pub closing_end : (before last : ℕ) (c : Cutter) → is_done c ≡ true → before ≡ closing_after before last (pieces_left c)
unfolding pieces_left pieces_after
closing_end before last c done = rw (done) refl
