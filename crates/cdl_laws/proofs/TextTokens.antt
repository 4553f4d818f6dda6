-- The strings of a text stand for bytes.
use Rattle.cdl_laws.proofs.Prelude.{◌≡◌, ℕ, zero, suc, ◌+◌, ◌-◌, ◌<◌, Bool, true, List, [], ◌∷◌, length, take, drop, sym, ap, refl, subst, arith, ◌&&◌, if◌then◌else◌, map, Option, Some, is_none, is_some, rules, false, list_all, inner, string_value, unescape, or_zero, scan, scan_text, tokens, Lexeme, lexeme, lexemes_at, Scanned, Token, TokenKind, StandsForBytes, StringsStandForBytes, inner_of, Each, all_of}
use Rattle.cdl_tokens.specs.declared.token.TokenKind.TheVariants as kinds
use Rattle.cdl_laws.proofs.Readings.{lexemes_are}

-- ---- what a string token is made of

-- a closing quote, after bytes each of whose characters stands for a byte
record IsString (bytes : List ℕ) (len : ℕ) : Type 0 where
  pub body : ℕ
  pub inside : body < length bytes
  pub sound : list_all is_some (unescape (take body bytes)) ≡ true
  pub past : len ≡ body + 2

-- what a prefix says of these bytes if it is a string
abbrev SaysString : List ℕ → Scanned → Type 0
SaysString bytes f = f.kind ≡ Some kinds.Text → IsString bytes f.len

either : (bytes : List ℕ) (b : Bool) (f g : Scanned) → SaysString bytes f → SaysString bytes g → SaysString bytes (if b then f else g)
either bytes b f g h h2 = grind arith

text_says : (bytes : List ℕ) (n : ℕ) → SaysString bytes (scan_text bytes n)
text_says bytes n = grind arith

abbrev is_text : Option TokenKind → Bool
is_text (Some kinds.Text) = true
is_text _ = false

no_text : (bytes : List ℕ) (f : Scanned) → is_text f.kind ≡ false → SaysString bytes f
no_text bytes f h = grind arith

prefix_says : (fresh : Bool) (bs : List ℕ) → SaysString (drop 1 bs) (scan fresh bs)
unfolding scan
prefix_says fresh bs = search (rules, either, text_says, no_text) depth 12

-- ---- what it stands for

all_some : (os : List (Option ℕ)) → list_all is_some os ≡ true → os ≡ map Some (map or_zero os)
all_some (Some b ∷ os) h = ap (λ xs. Some b ∷ xs) (all_some os h)
all_some _ h = grind arith

-- ---- the lexemes of a text

-- the bytes between the quotes of a string stand for bytes
abbrev Stands : Lexeme → Type 0
Stands l = l.kind ≡ kinds.Text → unescape (inner l.bytes) ≡ map Some (string_value (inner l.bytes))

strings_stand : (fresh : Bool) (more : ℕ) (bytes : List ℕ) → Each Stands (lexemes_at fresh more bytes)
unfolding lexemes_at
strings_stand fresh more [] = ((λ h. cc), tt)
strings_stand fresh (suc more) (b ∷ bytes) = strings_stand fresh more bytes
strings_stand fresh zero (b ∷ bytes) =
    let f = scan fresh (b ∷ bytes) in
    grind (arith, inner_of, string_value, all_some, prefix_says fresh (b ∷ bytes), strings_stand (fresh && is_none f.kind) (f.len - 1) bytes)

each_lexeme : (text : List ℕ) (ts : List Token) → Each Stands (map (lexeme text) ts) → Each (StandsForBytes text) ts
each_lexeme text [] h = tt
each_lexeme text (t ∷ ts) h = (h.0, each_lexeme text ts h.1)

pub strings_stand_for_bytes : StringsStandForBytes
strings_stand_for_bytes text =
    all_of (StandsForBytes text) (tokens text) (each_lexeme text (tokens text) (subst (Each Stands) (sym (lexemes_are text true 0 0 text refl)) (strings_stand true 0 text)))
