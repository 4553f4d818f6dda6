-- A cutter inside of a list, one token and a comma on.
use Rattle.cdl_statements.proofs.Prelude.{◌≡◌, ◌<◌, ℕ, Bool, true, false, List, [], ◌∷◌, sym, ◌∙◌, ap, refl, map, slice_index, if◌then◌else◌, rules, followed, left, raw, Token, after, first_piece, offset_of, other_pieces, pieces_left, text_of, words, is_mark, lexeme, role_in, pieces_after, with_first, IsAtComma, Passes, Cutter, CutState, Inside, Other}
use Rattle.cdl_tokens.specs.code.PlainTokens.{IsComma}
use Rattle.cdl_tokens.specs.declared.token.TokenKind.TheVariants as kinds
use Rattle.cdl_statements.proofs.Cuts.{after_on, words_on}

-- a comma
pub is_comma : (text : List ℕ) (c : Token) → c.kind ≡ kinds.Mark → slice_index (raw text c) 0 ≡ 0x2c → is_mark 0x2c (lexeme text c) ≡ true
is_comma text c mark byte = rw (mark) (rw (byte) refl)

-- the pieces, a token and a comma on
pieces_past : (text text' : List ℕ) (state : CutState) (done : Bool) (c t d : Token) (before after : List Token) → text' ≡ text → state ≡ Inside → done ≡ false → before ≡ t ∷ d ∷ after →
    is_mark 0x2c (lexeme text c) ≡ true → role_in text t ≡ Other → is_mark 0x2c (lexeme text d) ≡ true →
    pieces_after (role_in text) state (if done then [] else followed c c.kind before) ≡ with_first false c (with_first false t (pieces_after (role_in text') state (if done then [] else followed d d.kind after)))
unfolding pieces_after
pieces_past text text' state done c t d before after same inside goes left comma other next = search rules

-- what they say, and those after the first
words_past : (text text' : List ℕ) (c t : Token) (ps : List (List Token)) → text' ≡ text →
    map (lexeme text) (first_piece (with_first false c (with_first false t ps))) ≡ lexeme text c ∷ lexeme text t ∷ map (lexeme text') (first_piece ps)
words_past text text' c t ps same = search (rules, words_on, with_first)

after_past : (c t : Token) (ps : List (List Token)) → other_pieces (with_first false c (with_first false t ps)) ≡ other_pieces ps
after_past c t ps = after_on c false (with_first false t ps) ∙ after_on t false ps

-- what a cutter has gone past that now stands at the second comma
pub passes : (start rest : Cutter) (t d : Token) → IsAtComma start → left start.scanner ≡ t ∷ d ∷ left rest.scanner → text_of rest ≡ text_of start → rest.version ≡ start.version → rest.next ≡ d → rest.state ≡ start.state → rest.done ≡ start.done →
    role_in (text_of start) t ≡ Other → IsComma (text_of start) d → offset_of start < offset_of rest → Passes start rest (lexeme (text_of start) t)
unfolding words after pieces_left
passes start rest t d at tokens text version next state done other comma on =
    let c = start.next in
    let tail : Bool → Token → List Token = λ b n. if b then [] else followed n n.kind (left rest.scanner) in
    let there : List (List Token) = pieces_after (role_in (text_of rest)) start.state (tail start.done d) in
    let same : pieces_left rest ≡ there =
    ap (λ s. pieces_after (role_in (text_of rest)) s (tail rest.done rest.next)) state ∙ ap (λ b. pieces_after (role_in (text_of rest)) start.state (tail b rest.next)) done ∙ ap (λ n. pieces_after (role_in (text_of rest)) start.state (tail start.done n)) next in
    let second : is_mark 0x2c (lexeme (text_of start) d) ≡ true = is_comma (text_of start) d comma.mark comma.comma in
    let cut : pieces_left start ≡ with_first false c (with_first false t there) =
    pieces_past (text_of start) (text_of rest) start.state start.done c t d (left start.scanner) (left rest.scanner) text at.inside at.goes tokens at.comma other second in
    record {
      same = record { text = text; version = version };
      at = record {
        goes = done ∙ at.goes;
        inside = state ∙ at.inside;
        comma = ap (λ n. is_mark 0x2c (lexeme (text_of rest) n)) next ∙ ap (λ x. is_mark 0x2c (lexeme x d)) text ∙ second;
      };
      passed =
          ap (λ (ps : List (List Token)). map (lexeme (text_of start)) (first_piece ps)) cut ∙
          words_past (text_of start) (text_of rest) c t there text ∙
          ap (λ (ps : List (List Token)). lexeme (text_of start) c ∷ lexeme (text_of start) t ∷ map (lexeme (text_of rest)) (first_piece ps)) (sym same);
      others = ap (λ (ps : List (List Token)). other_pieces ps) same ∙ sym (ap (λ (ps : List (List Token)). other_pieces ps) cut ∙ after_past c t there);
      on = on;
    }
