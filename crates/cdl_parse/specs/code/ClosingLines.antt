-- For contracts. The line of the closing brace, which the lines of the statements before say.
use Rattle.std.specs.Prelude.{ℕ, List, [], ◌∷◌}
use Rattle.cdl_statements.specs.code.Cutters.{pieces_left}
use Rattle.cdl_statements.specs.Meaning.{starting_line}
use Rattle.cdl_parse.specs.declared.closing.Unread.{Unread}
use Rattle.cdl_tokens.specs.declared.token.Token.{Token}

-- the line of the last piece but one: these pieces come after others, of which the last two begin on these lines
abbrev pub closing_after : ℕ → ℕ → List (List Token) → ℕ
closing_after before last [] = before
closing_after before last (p ∷ ps) = closing_after last (starting_line p) ps

-- the same, of the pieces that are left
abbrev pub closing_of : Unread → ℕ
closing_of unread = closing_after unread.before unread.last (pieces_left unread.cutter)
