-- For contracts. Tokens as the code hands them on.
use Rattle.std.specs.Prelude.{ℕ, List}
use Rattle.cdl_statements.specs.Lexemes.{Lexeme}
use Rattle.cdl_statements.specs.declared.lexeme.Lexeme as code
use Rattle.cdl_tokens.specs.declared.token.TokenKind.{TokenKind}

abbrev pub lexeme_with : TokenKind → List ℕ → Lexeme
lexeme_with kind bytes = record { kind = kind; bytes = bytes }

-- a token of the code as one of the definitions
abbrev pub lexeme_of : code.Lexeme → Lexeme
lexeme_of l = lexeme_with l.kind l.bytes.now
