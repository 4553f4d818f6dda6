use Rattle.cdl_statements.proofs.Prelude.{◌≡◌, ◌∷◌, [], List, sym, ap, ◌∙◌, refl, map, if◌then◌else◌, Token, left, followed, lexeme, pieces_left, tokens_left, words, after, first_piece, other_pieces, role_in, pieces_after, with_first}
use Rattle.cdl_tokens.specs.code.Scanners as scanners
use Rattle.cdl_statements.proofs.Cuts.{advance_to, no_end, words_on, after_on}
use Rattle.cdl_statements.proofs.cutter.Cutter.advance.Goals as goal

-- the pieces that the cutter has one token on
abbrev on : goal.After-self-1 → List (List Token)
on c = pieces_after (role_in (scanners.text_of c.token-following.new.self)) c.step-found.result.state (if c.is_end-self.result then [] else followed c.token-following.result c.token-following.result.kind (left c.token-following.new.self))

pieces : (c : goal.After-self-1) → pieces_left c.args.self.now ≡ with_first c.step-found.result.ends c.args.self.now.next (on c)
unfolding pieces_left
pieces c =
    let s = c.args.self.now in
    let off : tokens_left s ≡ followed s.next s.next.kind (left s.scanner) = rw (c.requires) refl in
    ap (pieces_after (role_in (scanners.text_of s.scanner)) s.state) off ∙
    advance_to (scanners.text_of s.scanner) s.state s.next c.token-following.result (left s.scanner) (left c.token-following.new.self) c.token-following.ensures.token
    (scanners.text_of c.token-following.new.self) c.token-following.ensures.text s.next_role c.of-following_role.result s.known (c.of-following_role.ensures ∙ ap (λ text. role_in text c.token-following.result) (c.text.ensures ∙ c.token-following.ensures.text)) c.step-found.result c.step-found.ensures.step c.is_end-self.result c.is_end-self.ensures

pub returns-clause-pieces : goal.returns-clause-pieces
unfolding pieces_left
returns-clause-pieces c = pieces c

pub returns-clause-words : goal.returns-clause-words
unfolding words pieces_left
returns-clause-words c =
    let s = c.args.self.now in
    ap (λ (ps : List (List Token)). map (lexeme (scanners.text_of s.scanner)) (first_piece ps)) (pieces c) ∙
    words_on (scanners.text_of s.scanner) s.next c.step-found.result.ends (on c) ∙
    ap (λ text. lexeme (scanners.text_of s.scanner) s.next ∷ (if c.step-found.result.ends then [] else map (lexeme text) (first_piece (on c)))) (sym c.token-following.ensures.text)

pub returns-clause-after : goal.returns-clause-after
unfolding after pieces_left
returns-clause-after c =
    ap (λ (ps : List (List Token)). other_pieces ps) (pieces c) ∙ after_on c.args.self.now.next c.step-found.result.ends (on c)

pub returns-clause-goes : goal.returns-clause-goes
returns-clause-goes c off = c.is_end-self.ensures ∙ no_end (scanners.text_of c.args.self.now.scanner) c.args.self.now.next c.args.self.now.next_role c.step-found.result.ends c.args.self.now.known c.step-found.ensures.last off
