-- For contracts. What a scanner has before it.
use Rattle.std.specs.Prelude.{ℕ, ◌-◌, Bool, not, ◌&&◌, ◌||◌, ◌==◌, true, false, List, ◌∷◌, [], drop, Option, Some}
use Rattle.cdl_tokens.specs.Tokens.{tokens_at}
use Rattle.cdl_tokens.specs.declared.{search.Stops.Stops, token.Token.Token, token.TokenKind.TokenKind, scanner.Scanner.Scanner}
use Rattle.cdl_tokens.specs.declared.search.Stops.TheVariants.{At, AtEscapeOr, AtStringEnd}
use Rattle.cdl_tokens.specs.declared.token.TokenKind.TheVariants.{End, Mark}

abbrev pub text_of : Scanner → List ℕ
text_of s = s.text.now

abbrev pub offset_of : Scanner → ℕ
offset_of s = s.at

-- the token of this kind and length that ends where the scanner stands, on the same line
abbrev pub token_before : TokenKind → ℕ → Scanner → Token
token_before kind len s = record { kind = kind; line = s.line; first = s.at - len; past = s.at }

-- the comma that ends where the scanner stands, if one does
abbrev pub comma_before : Scanner → Token
comma_before = token_before Mark 1

-- a byte at which a search stops
abbrev pub is_stop : Stops → ℕ → Bool
is_stop (At stop) b = b == stop
is_stop (AtEscapeOr stop) b = (b == 0x5c) || (b == stop)
is_stop AtStringEnd b = (b == 0x5c) || (b == 0x22) || (b == 0x0a)

-- a byte at which it doesn't
abbrev pub goes_on : Stops → ℕ → Bool
goes_on stops b = not (is_stop stops b)

-- a byte that stands for itself in a string: any but a backslash
abbrev pub is_unescaped : ℕ → Bool
is_unescaped b = not (b == 0x5c)

-- a byte that neither escapes nor closes
abbrev pub is_ordinary : ℕ → ℕ → Bool
is_ordinary close b = not (b == 0x5c) && not (b == close)

-- the tokens that are left
abbrev pub left : Scanner → List Token
left s = tokens_at s.text.now s.at_start s.at 0 (drop s.at s.text.now)

-- a token and those after it; none stands after End
abbrev pub followed : Token → TokenKind → List Token → List Token
followed t End rest = t ∷ []
followed t _ rest = t ∷ rest

-- a gap, or a token that isn't End
abbrev pub is_token : Option TokenKind → Bool
is_token (Some End) = false
is_token _ = true
