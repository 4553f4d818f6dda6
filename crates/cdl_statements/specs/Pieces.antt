-- Definition. The statements of a text: its tokens, cut into pieces.
use Rattle.std.specs.Prelude.{ℕ, Bool, true, false, List, [], ◌∷◌, ◌==◌, ◌||◌, if◌then◌else◌, codes, slice_index, Option, None, Some}
use Rattle.std.specs.Str.{byte, bytes_eq}
use Rattle.nc_types.specs.Bytes.{Bytes}
use Rattle.cdl_tokens.specs.Tokens.{tokens}
use Rattle.cdl_tokens.specs.declared.{token.Token.Token, token.TokenKind.TokenKind}
use Rattle.cdl_tokens.specs.declared.token.TokenKind.TheVariants as kinds
use Rattle.cdl_statements.specs.Lexemes.{Lexeme, is_word, lexeme}
use Rattle.cdl_statements.specs.declared.{piece.CutState.CutState, piece.Role.Role, piece.Step.Step, section.Section.Section}
use Rattle.cdl_statements.specs.declared.piece.CutState.TheVariants.{Begins, Inside, Marked, Closed}
use Rattle.cdl_statements.specs.declared.piece.Role.TheVariants as roles
use Rattle.cdl_statements.specs.declared.section.Section.TheVariants.{Dimensions, Variables, Values}

-- the section that a word begins
abbrev pub section_of : Lexeme → Option Section
section_of l =
    if is_word (codes "dimensions") l then Some Dimensions
    else if is_word (codes "variables") l then Some Variables
    else if is_word (codes "data") l then Some Values else None

-- ---- what a token is to the cut

-- an unescaped `dimensions`, `variables` or `data`
unfoldable pub is_section : Bytes → Bool
is_section word = bytes_eq word (codes "dimensions") || bytes_eq word (codes "variables") || bytes_eq word (codes "data")

abbrev pub mark_role : ℕ → Role
mark_role b = if b == byte ":" then roles.Colon else if b == byte ";" then roles.Semicolon else if b == byte "}" then roles.Brace else roles.Other

abbrev pub role_of : TokenKind → Bytes → Role
role_of kinds.Opening bytes = roles.Opening
role_of kinds.Word bytes = if is_section bytes then roles.Section else roles.Other
role_of kinds.Mark bytes = mark_role (slice_index bytes 0)
role_of kinds.End bytes = roles.End
role_of _ bytes = roles.Other

abbrev pub role : Lexeme → Role
role l = role_of l.kind l.bytes

-- a token of this text
abbrev pub role_in : Bytes → Token → Role
role_in text t = role (lexeme text t)

-- the first one's role, or End
abbrev pub first_role : {X : Type 0} → (X → Role) → List X → Role
first_role role [] = roles.End
first_role role (t ∷ ts) = role t

-- ---- the cut

abbrev pub step_at_end : CutState → Step
step_at_end state = record { ends = true; state = state }

abbrev pub step_within : CutState → Step
step_within state = record { ends = false; state = state }

-- whether a token ends its piece, by what comes before it, its role and the next token's role; and what then comes before the next token
abbrev pub step : CutState → Role → Role → Step
step Marked role next = step_at_end Begins
step state roles.End next = step_at_end Begins
step Inside roles.Semicolon next = step_at_end Begins
step Begins roles.Semicolon next = step_at_end Begins
step Begins roles.Opening next = step_at_end Begins
step Begins roles.Brace next = step_at_end Closed
step Begins roles.Section roles.Colon = step_within Marked
-- any other piece ends before End
step state role roles.End = step_at_end Begins
step Closed role next = step_within Closed
step state role next = step_within Inside

-- a token before the pieces, as a piece or as the first piece's first
abbrev pub with_first : {X : Type 0} → Bool → X → List (List X) → List (List X)
with_first true t ps = (t ∷ []) ∷ ps
with_first false t [] = (t ∷ []) ∷ []
with_first false t (p ∷ ps) = (t ∷ p) ∷ ps

-- the pieces of what comes after this state
unfoldable pub pieces_after : {X : Type 0} → (X → Role) → CutState → List X → List (List X)
pieces_after role state [] = []
pieces_after role state (t ∷ ts) =
    with_first (step state (role t) (first_role role ts)).ends t (pieces_after role (step state (role t) (first_role role ts)).state ts)

abbrev pub statements : Bytes → List (List Token)
statements text = pieces_after (role_in text) Begins (tokens text)
