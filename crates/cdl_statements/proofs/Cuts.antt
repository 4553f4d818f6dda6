-- The pieces, one token on.
use Rattle.cdl_statements.proofs.Prelude.{◌≡◌, drop, ℕ, Bool, true, false, List, [], ◌∷◌, ◌++◌, sym, ◌∙◌, ap, refl, append_assoc, if◌then◌else◌, map, arith, rules, false≢true, Step, Token, TokenKind, Role, CutState, is_end_role, role_in, pieces_after, step, with_first, first_line, first_piece, other_pieces, followed, is_end, lexeme}
use Rattle.cdl_statements.specs.declared.piece.Role.TheVariants.{End}

by_kind : (f : Token → Role) (state : CutState) (t u : Token) (k : TokenKind) (before after : List Token) → before ≡ followed u u.kind after → (is_end k ≡ true → f t ≡ End) →
    pieces_after f state (followed t k before) ≡ with_first (step state (f t) (f u)).ends t (pieces_after f (step state (f t) (f u)).state (if is_end k then [] else followed u u.kind after))
unfolding pieces_after
by_kind f state t u k before after h h2 = grind arith

-- an End's role
pub end_role : (text : List ℕ) (t : Token) → is_end t.kind ≡ true → role_in text t ≡ End
end_role text t h = search rules

pub advance : (text : List ℕ) (state : CutState) (t u : Token) (before after : List Token) → before ≡ followed u u.kind after →
    pieces_after (role_in text) state (followed t t.kind before) ≡
    with_first (step state (role_in text t) (role_in text u)).ends t (pieces_after (role_in text) (step state (role_in text t) (role_in text u)).state (if is_end t.kind then [] else followed u u.kind after))
advance text state t u before after e = by_kind (role_in text) state t u t.kind before after e (end_role text t)

pub advance_to : (text : List ℕ) (state : CutState) (t u : Token) (before after : List Token) → before ≡ followed u u.kind after →
    (text' : List ℕ) → text' ≡ text → (r q : Role) → r ≡ role_in text t → q ≡ role_in text u → (s : Step) → s ≡ step state r q → (d : Bool) → d ≡ is_end t.kind →
    pieces_after (role_in text) state (followed t t.kind before) ≡ with_first s.ends t (pieces_after (role_in text') s.state (if d then [] else followed u u.kind after))
advance_to text state t u before after e text' same r q is_r is_q s is_s d is_d = grind (arith, advance)

pub no_end : (text : List ℕ) (t : Token) (r : Role) (ends : Bool) → r ≡ role_in text t → (is_end_role r ≡ true → ends ≡ true) → ends ≡ false → is_end t.kind ≡ false
no_end text t r ends is h off = elim (is_end t.kind) as (λ w. is_end t.kind ≡ w → w ≡ false) [ true ↦ (λ e. absurd (false≢true (sym off ∙ h (ap is_end_role (is ∙ end_role text t e))))) | false ↦ (λ e. refl) ] refl

-- a piece that goes on
pub goes_on : {X : Type 0} (items : List X) (t : X) (p : List X) (ps qs all : List (List X)) → ((p : List X) (ps : List (List X)) → qs ≡ p ∷ ps → all ≡ (items ++ p) ∷ ps) → (rest : List (List X)) → qs ≡ with_first false t rest → rest ≡ p ∷ ps → all ≡ ((items ++ t ∷ []) ++ p) ∷ ps
goes_on items t p ps qs all h rest e is = h (t ∷ p) ps (e ∙ ap (with_first false t) is) ∙ ap (λ xs. xs ∷ ps) (sym (append_assoc items (t ∷ []) p))

pub none_left : (f : Token → Role) (state : CutState) (ts : List Token) (d : Bool) → d ≡ true → pieces_after f state (if d then [] else ts) ≡ []
unfolding pieces_after
none_left f state ts d h = rw (h) refl

-- what the first piece says, one token on
pub words_on : (text : List ℕ) (t : Token) (ends : Bool) (ps : List (List Token)) →
    map (lexeme text) (first_piece (with_first ends t ps)) ≡ lexeme text t ∷ (if ends then [] else map (lexeme text) (first_piece ps))
words_on text t ends ps = grind arith

pub after_on : (t : Token) (ends : Bool) (ps : List (List Token)) → other_pieces (with_first ends t ps) ≡ (if ends then ps else other_pieces ps)
after_on t ends ps = grind arith

begun : (b : Bool) (t : Token) (ps : List (List Token)) → first_piece (with_first b t ps) ≡ t ∷ drop 1 (first_piece (with_first b t ps))
begun b t ps = grind arith

-- the first piece begins with the first token
pub begins : (f : Token → Role) (state : CutState) (t : Token) (k : TokenKind) (rest : List Token) →
    first_piece (pieces_after f state (followed t k rest)) ≡ t ∷ drop 1 (first_piece (pieces_after f state (followed t k rest)))
unfolding pieces_after
begins f state t k rest = grind (arith, begun)

line_with : (b : Bool) (t : Token) (ps : List (List Token)) → first_line (with_first b t ps) ≡ t.line
line_with b t ps = grind arith

-- the first piece's line is that of the first token
pub line_first : (f : Token → Role) (state : CutState) (t : Token) (k : TokenKind) (rest : List Token) → first_line (pieces_after f state (followed t k rest)) ≡ t.line
unfolding pieces_after
line_first f state t k rest = grind (arith, line_with)
