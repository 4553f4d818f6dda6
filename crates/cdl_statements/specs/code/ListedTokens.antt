-- For contracts. Tokens inside a list; a cutter passes two of them at once.
use Rattle.std.specs.Prelude.{◌≡◌, ℕ, ◌<◌, List, ◌∷◌, codes, true, false, Some, option_map}
use Rattle.nc_types.specs.declared.version.Version.{Version}
use Rattle.cdl_tokens.specs.Escapes.{inner, string_value}
use Rattle.cdl_tokens.specs.code.Magnitudes.{held}
use Rattle.cdl_tokens.specs.Numerals.{parts}
use Rattle.cdl_tokens.specs.code.Scanners.{comma_before}
use Rattle.cdl_tokens.specs.declared.numeral.Numeral.{Numeral}
use Rattle.cdl_tokens.specs.declared.token.TokenKind.TheVariants as kinds
use Rattle.cdl_statements.specs.code.Cutters.{SameText, after, is_done, next_token, offset_of, text_of, words}
use Rattle.cdl_statements.specs.Lexemes.{Lexeme, is_mark, lexeme}
use Rattle.cdl_statements.specs.code.Views.{lexeme_with}
use Rattle.cdl_statements.specs.declared.{cutter.Cutter.Cutter, piece.CutState.TheVariants.Inside}

-- a comma comes next, inside of a statement
pub record IsAtComma (c : Cutter) : Type 0 where
  pub goes : is_done c ≡ false
  pub inside : c.state ≡ Inside
  pub comma : is_mark 0x2c (lexeme (text_of c) (next_token c)) ≡ true

-- the next token is a comma that ends where the scanner stands
abbrev pub EndsAtScanner : Cutter → Type 0
EndsAtScanner c = next_token c ≡ comma_before c.scanner

-- one has gone past the next token and this one, to a comma of the same statement
pub record Passes (start rest : Cutter) (l : Lexeme) : Type 0 where
  pub same : SameText start rest
  pub at : IsAtComma rest
  pub passed : words start ≡ lexeme (text_of start) (next_token start) ∷ l ∷ words rest
  pub others : after rest ≡ after start
  pub on : offset_of start < offset_of rest

-- this one is a number token, which says this number in every version
pub record PassesNumber (start rest : Cutter) (n : Numeral) : Type 0 where
  pub bytes : List ℕ
  pub says : (v : Version) → Some n ≡ option_map held (parts v bytes)
  pub passes : Passes start rest (lexeme_with kinds.Number bytes)

-- this one is a string, in which these bytes stand between the quotes, each for itself
pub record PassesString (start rest : Cutter) (characters : List ℕ) : Type 0 where
  pub bytes : List ℕ
  pub plain : string_value (inner bytes) ≡ characters
  pub passes : Passes start rest (lexeme_with kinds.Text bytes)

-- this one is a `_`
abbrev pub PassesUnderscore : Cutter → Cutter → Type 0
PassesUnderscore start rest = Passes start rest (lexeme_with kinds.Word (codes "_"))
