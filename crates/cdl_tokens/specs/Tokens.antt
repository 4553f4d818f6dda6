-- Definition. The tokens of a text.
use Rattle.std.specs.Prelude.{ℕ, zero, suc, Bool, true, false, List, [], ◌∷◌, ◌+◌, ◌-◌, ◌&&◌, ◌==◌, take, drop, count_by, Option, None, Some, is_none}
use Rattle.std.specs.Str.{byte}
use Rattle.nc_types.specs.Bytes.{Bytes}
use Rattle.cdl_tokens.specs.Scan.{scan}
use Rattle.cdl_tokens.specs.declared.{token.Token.Token, token.TokenKind.TokenKind, token.TokenKind.TheVariants.End}

abbrev pub is_end : TokenKind → Bool
is_end End = true
is_end _ = false

abbrev pub raw : Bytes → Token → Bytes
raw text t = take (t.past - t.first) (drop t.first text)

abbrev pub line_at : Bytes → ℕ → ℕ
line_at text offset = 1 + count_by (λ b. b == byte "\n") (take offset text)

abbrev pub token_at : Bytes → ℕ → TokenKind → ℕ → Token
token_at text offset kind n = record { kind = kind; line = line_at text offset; first = offset; past = offset + n }

-- the token, if there is one, and those after it
abbrev pub with_token : Bytes → ℕ → Option TokenKind → ℕ → List Token → List Token
with_token text offset None n rest = rest
with_token text offset (Some kind) n rest = token_at text offset kind n ∷ rest

-- The tokens from this offset on. `bytes` is the text from there; its first `more` bytes belong to the gap or the token before.
-- is_first: no token has come yet.
unfoldable pub tokens_at : Bytes → Bool → ℕ → ℕ → Bytes → List Token
tokens_at text is_first offset more [] = token_at text offset End 0 ∷ []
tokens_at text is_first offset (suc more) (b ∷ bytes) = tokens_at text is_first (offset + 1) more bytes
tokens_at text is_first offset zero (b ∷ bytes) =
    let scanned = scan is_first (b ∷ bytes) in
    with_token text offset scanned.kind scanned.len (tokens_at text (is_first && is_none scanned.kind) (offset + 1) (scanned.len - 1) bytes)

abbrev pub tokens : Bytes → List Token
tokens text = tokens_at text true 0 0 text
