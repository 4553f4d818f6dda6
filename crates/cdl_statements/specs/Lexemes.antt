-- Definition. What the tokens of a statement say.
use Rattle.std.specs.Prelude.{ℕ, Bool, true, false, ◌&&◌, ◌==◌, not, if◌then◌else◌, slice_index, Option, None, Some}
use Rattle.std.specs.Str.{bytes_eq}
use Rattle.nc_types.specs.Bytes.{Bytes}
use Rattle.cdl_tokens.specs.Escapes.{word_value}
use Rattle.cdl_tokens.specs.Tokens.{raw}
use Rattle.cdl_tokens.specs.declared.{token.Token.Token, token.TokenKind.TokenKind}
use Rattle.cdl_tokens.specs.declared.token.TokenKind.TheVariants as kinds
use Rattle.nc_types.specs.Escapes.{is_reserved}

-- a token without its line and its offsets
pub record Lexeme : Type 0 where
  pub kind : TokenKind
  pub bytes : Bytes

abbrev pub lexeme : Bytes → Token → Lexeme
lexeme text t = record { kind = t.kind; bytes = raw text t }

abbrev pub is_opening_kind : TokenKind → Bool
is_opening_kind kinds.Opening = true
is_opening_kind _ = false

abbrev pub is_word_kind : TokenKind → Bool
is_word_kind kinds.Word = true
is_word_kind _ = false

abbrev pub is_mark_kind : TokenKind → Bool
is_mark_kind kinds.Mark = true
is_mark_kind _ = false

abbrev pub is_mark : ℕ → Lexeme → Bool
is_mark b l = is_mark_kind l.kind && slice_index l.bytes 0 == b

-- this word, without an escape
abbrev pub is_word : Bytes → Lexeme → Bool
is_word word l = is_word_kind l.kind && bytes_eq l.bytes word

-- NAME: a word that isn't an unescaped reserved word
unfoldable pub name_of : Lexeme → Option Bytes
name_of l = if is_word_kind l.kind && not (is_reserved l.bytes) then Some (word_value l.bytes) else None
