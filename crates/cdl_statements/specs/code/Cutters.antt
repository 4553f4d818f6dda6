-- For contracts. What a cutter has before it.
use Rattle.std.specs.Prelude.{ℕ, List, ◌∷◌, [], Bool, true, false, if◌then◌else◌, ◌≡◌, drop, map}
use Rattle.cdl_statements.specs.Lexemes.{Lexeme, lexeme}
use Rattle.cdl_tokens.specs.code.Scanners.{followed, left}
use Rattle.cdl_tokens.specs.code.Scanners as scanners
use Rattle.cdl_statements.specs.Pieces.{pieces_after, role_in, with_first}
use Rattle.cdl_tokens.specs.declared.token.Token.{Token}
use Rattle.nc_types.specs.declared.version.Version.{Version}
use Rattle.cdl_statements.specs.declared.{cutter.Cutter.Cutter, piece.Role.Role, piece.Role.TheVariants.End}

abbrev pub is_end_role : Role → Bool
is_end_role End = true
is_end_role _ = false

abbrev pub text_of : Cutter → List ℕ
text_of c = scanners.text_of c.scanner

abbrev pub version_of : Cutter → Version
version_of c = c.version

abbrev pub offset_of : Cutter → ℕ
offset_of c = scanners.offset_of c.scanner

-- the last statement has been handed out
abbrev pub is_done : Cutter → Bool
is_done c = c.done

-- the first token that is left
abbrev pub next_token : Cutter → Token
next_token c = c.next

-- the tokens that are left
abbrev pub tokens_left : Cutter → List Token
tokens_left c = if c.done then [] else followed c.next c.next.kind (left c.scanner)

-- the pieces that are left
unfoldable pub pieces_left : Cutter → List (List Token)
pieces_left c = pieces_after (role_in (text_of c)) c.state (tokens_left c)

-- one of the pieces is handed out, or there is none
abbrev pub HandsOut : Bool → Cutter → Cutter → List Token → Type 0
HandsOut true old new into = pieces_left old ≡ into ∷ pieces_left new
HandsOut false old new into = (pieces_left old ≡ []) × (pieces_left new ≡ []) × (into ≡ [])

abbrev pub first_piece : List (List Token) → List Token
first_piece [] = []
first_piece (p ∷ ps) = p

abbrev pub other_pieces : List (List Token) → List (List Token)
other_pieces [] = []
other_pieces (p ∷ ps) = ps

-- the line of the first piece's first token
abbrev pub first_line : List (List Token) → ℕ
first_line ((t ∷ ts) ∷ ps) = t.line
first_line _ = 0

-- the tokens of the first piece, with their kinds and bytes
unfoldable pub words : Cutter → List Lexeme
words c = map (lexeme (text_of c)) (first_piece (pieces_left c))

-- a token is passed: it begins the first piece, and is the whole of it if the piece ends with it
abbrev pub PassesToken : Bool → Cutter → Cutter → Type 0
PassesToken ends old new = pieces_left old ≡ with_first ends (next_token old) (pieces_left new)

-- the same, as kinds and bytes: the tokens of the first piece begin with the one that is passed
abbrev pub PassesWord : Bool → Cutter → Cutter → Type 0
PassesWord ends old new = words old ≡ lexeme (text_of old) (next_token old) ∷ (if ends then [] else words new)

-- the tokens of the first piece begin with this one
abbrev pub BeginsWith : Lexeme → Cutter → Type 0
BeginsWith word c = words c ≡ word ∷ drop 1 (words c)

-- the pieces after the first
unfoldable pub after : Cutter → List (List Token)
after c = other_pieces (pieces_left c)

-- what a call that goes on in a text leaves of it: the same text, read for the same version
pub record SameText (start rest : Cutter) : Type 0 where
  pub text : text_of rest ≡ text_of start
  pub version : version_of rest ≡ version_of start

-- what a call that reads a statement leaves: the statements after it, of the same text
pub record Follows (start rest : Cutter) : Type 0 where
  pub pieces : pieces_left rest ≡ after start
  pub same : SameText start rest
