-- Definition. The tokens without their places, for texts that are put together, and the pieces that they are cut into.
use Rattle.std.specs.Prelude.{ℕ, zero, suc, Bool, true, false, List, [], ◌∷◌, ◌-◌, ◌&&◌, take, Option, None, Some, is_none}
use Rattle.nc_types.specs.Bytes.{Bytes}
use Rattle.cdl_tokens.specs.Scan.{scan}
use Rattle.cdl_statements.specs.Lexemes.{Lexeme}
use Rattle.cdl_statements.specs.Pieces.{pieces_after, role}
use Rattle.cdl_statements.specs.declared.piece.CutState.TheVariants.{Begins}
use Rattle.cdl_tokens.specs.declared.{token.TokenKind.TokenKind, token.TokenKind.TheVariants.End}

abbrev pub with_lexeme : Option TokenKind → Bytes → List Lexeme → List Lexeme
with_lexeme None bytes rest = rest
with_lexeme (Some kind) bytes rest = record { kind = kind; bytes = bytes } ∷ rest

unfoldable pub lexemes_at : Bool → ℕ → Bytes → List Lexeme
lexemes_at fresh more [] = record { kind = End; bytes = [] } ∷ []
lexemes_at fresh (suc more) (b ∷ bytes) = lexemes_at fresh more bytes
lexemes_at fresh zero (b ∷ bytes) =
    with_lexeme (scan fresh (b ∷ bytes)).kind (take (scan fresh (b ∷ bytes)).len (b ∷ bytes))
    (lexemes_at (fresh && is_none (scan fresh (b ∷ bytes)).kind) ((scan fresh (b ∷ bytes)).len - 1) bytes)

abbrev pub lexemes : Bytes → List Lexeme
lexemes text = lexemes_at true 0 text

abbrev pub cut_lexemes : List Lexeme → List (List Lexeme)
cut_lexemes ls = pieces_after role Begins ls

-- the pieces of the bytes after a whole piece
unfoldable pub pieces_of : Bytes → List (List Lexeme)
pieces_of bytes = cut_lexemes (lexemes_at false 0 bytes)
