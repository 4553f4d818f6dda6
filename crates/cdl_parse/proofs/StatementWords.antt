-- The tokens of a statement, one at a time.
use Rattle.cdl_parse.proofs.Prelude.{◌≡◌, Bool, true, false, List, [], ◌∷◌, refl, ap, ◌∙◌, if◌then◌else◌, map, rules, false≢true, first_piece, is_done, next_token, pieces_left, text_of, tokens_left, words, completes, is_whole, next, next_if, Lexeme, lexeme, pieces_after, step, Cutter, Due, Token, only_completes, first_role, role_in}
use Rattle.cdl_tokens.specs.code.Scanners.{followed, left}
use Rattle.cdl_tokens.specs.declared.token.TokenKind.{TokenKind}
use Rattle.cdl_tokens.specs.declared.token.TokenKind.TheVariants as kinds
use Rattle.cdl_statements.proofs.Cuts.{words_on}

-- the first token is the next one
followed_is : (t : Token) (kind : TokenKind) (rest : List Token) → (tail : List Token) × (followed t kind rest ≡ t ∷ tail)
followed_is t kinds.End rest = ([], refl)
followed_is t _ rest = (rest, refl)

pub begins : (c : Cutter) → is_done c ≡ false → (rest : List Lexeme) × (words c ≡ lexeme (text_of c) (next_token c) ∷ rest)
unfolding words pieces_left pieces_after
begins c more =
    let text = text_of c in
    let tail = followed_is c.next c.next.kind (left c.scanner) in
    let all : tokens_left c ≡ c.next ∷ tail.0 = rw (more) tail.1 in
    let here = step c.state (role_in text c.next) (first_role (role_in text) tail.0) in
    let after = pieces_after (role_in text) here.state tail.0 in (
      (if here.ends then [] else map (lexeme text) (first_piece after)),
      ap (λ ts. map (lexeme text) (first_piece (pieces_after (role_in text) c.state ts))) all ∙ words_on text c.next here.ends after,
    )

-- a statement that has its shape goes on after a token that is not its last
pub goes_past : (due following : Due) (l : Lexeme) (test ends : Bool) (ws all : List Lexeme) → next due l ≡ next_if test following → is_whole following ≡ false → all ≡ l ∷ (if ends then [] else ws) → completes due all ≡ true →
    (ends ≡ false) × (test ≡ true) × (completes following ws ≡ true)
unfolding completes
goes_past due following l test ends ws all is unfinished first on = search (rules, only_completes, false≢true)
