-- An escaped string between quotes is one token that stands for it.
use Rattle.cdl_laws.proofs.Prelude.{◌≡◌, ℕ, ◌+◌, ◌-◌, ◌/◌, ◌%◌, ◌<◌, true, false, List, [], ◌∷◌, ◌++◌, length, drop, take, sym, ◌∙◌, ap, refl, subst, arith, append_assoc, length-append, ◌==◌, map, Some, is_some, rules, is_ascii_control, flat_map, list_all, eqb-true, take-append_seam, escaped_in_string, octal_escape, is_octal, number_in, len_until, scan, character, up_to_255, plain_escape, unescape, unescape_at, Lexeme, until_at_start, AreToken, escaped_text, lexemes_at}
use Rattle.cdl_tokens.specs.declared.token.TokenKind.TheVariants as kinds
use Rattle.cdl_laws.proofs.Texts.{prefix_again}

-- ---- the characters

pub until_plain : (close b : ℕ) (rest : List ℕ) → (b == 0x5c) ≡ false → (b == close) ≡ false → len_until close (b ∷ rest) ≡ 1 + len_until close rest
until_plain close b rest h k = until_at_start close b rest ∙ rw (h) (rw (k) refl)

unescape_octal : (d e f n : ℕ) (rest : List ℕ) → is_octal d ≡ true → is_octal e ≡ true → is_octal f ≡ true → up_to_255 (number_in 8 0 (d ∷ e ∷ f ∷ [])) ≡ Some n →
    unescape (0x5c ∷ d ∷ e ∷ f ∷ rest) ≡ Some n ∷ unescape rest
unfolding unescape_at character
unescape_octal d e f n rest h k l is = rw (h) (rw (k) (rw (l) (rw (is) refl)))

-- how a byte stands in a string: as an escape of one letter, in octal, or as it is
data IsEscapedAs (b : ℕ) : Type 0 where
  letter : (c : ℕ) → is_octal c ≡ false → (c == 0x78) ≡ false → plain_escape c ≡ b → escaped_in_string b ≡ 0x5c ∷ c ∷ [] → IsEscapedAs b
  octal : b < 256 → escaped_in_string b ≡ octal_escape b → IsEscapedAs b
  bare : (b == 0x5c) ≡ false → (b == 0x22) ≡ false → escaped_in_string b ≡ b ∷ [] → IsEscapedAs b

-- a byte that is this one, or another
literal : (b n : ℕ) → IsEscapedAs n → ((b == n) ≡ false → IsEscapedAs b) → IsEscapedAs b
literal b n is other =
    elim (b == n) as (λ w. (b == n) ≡ w → IsEscapedAs b) [ true ↦ (λ e. subst IsEscapedAs (sym (eqb-true b n e)) is) | false ↦ other ] refl

stands : (b : ℕ) → IsEscapedAs b
stands b =
    literal b 8 (letter 98 refl refl refl refl) (λ e8.
    literal b 9 (letter 116 refl refl refl refl) (λ e9.
    literal b 10 (letter 110 refl refl refl refl) (λ e10.
    literal b 11 (letter 118 refl refl refl refl) (λ e11.
    literal b 12 (letter 102 refl refl refl refl) (λ e12.
    literal b 13 (letter 114 refl refl refl refl) (λ e13.
    literal b 34 (letter 34 refl refl refl refl) (λ e34.
    literal b 39 (letter 39 refl refl refl refl) (λ e39.
    literal b 92 (letter 92 refl refl refl refl) (λ e92.
    elim (is_ascii_control b) as (λ w. is_ascii_control b ≡ w → IsEscapedAs b) [
      | true ↦ (λ e. grind arith)
      | false ↦ (λ e. bare e92 e34 (rw (e8) (rw (e9) (rw (e10) (rw (e11) (rw (e12) (rw (e13) (rw (e34) (rw (e39) (rw (e92) (rw (e) refl)))))))))))
    ] refl)))))))))

-- one byte
until_one : (b : ℕ) (rest : List ℕ) → IsEscapedAs b → len_until 0x22 (escaped_in_string b ++ rest) ≡ length (escaped_in_string b) + len_until 0x22 rest
unfolding len_until
until_one b rest h = search (rules, until_plain)

unescape_one : (b : ℕ) (rest : List ℕ) → IsEscapedAs b → unescape (escaped_in_string b ++ rest) ≡ Some b ∷ unescape rest
unfolding unescape_at character
unescape_one b rest (letter c o x is same) = rw (same) (rw (o) (rw (x) refl) ∙ ap (λ n. Some n ∷ unescape rest) is)
unescape_one b rest (octal small same) =
    rw (same) (unescape_octal (48 + b / 64) (48 + b / 8 % 8) (48 + b % 8) b rest (grind arith) (grind arith) (grind arith) (search rules))
unescape_one b rest (bare h k same) = rw (same) (rw (h) refl)

-- ---- strings

until_all : (bytes rest : List ℕ) →
    len_until 0x22 (flat_map escaped_in_string bytes ++ 0x22 ∷ rest) ≡ length (flat_map escaped_in_string bytes)
unfolding len_until
until_all (b ∷ bytes) rest = grind (arith, append_assoc, until_one, stands, length-append, until_all bytes rest)
until_all _ _ = grind arith

pub unescape_all : (bytes : List ℕ) → unescape (flat_map escaped_in_string bytes) ≡ map Some bytes
unfolding unescape_at
unescape_all [] = refl
unescape_all (b ∷ bytes) = unescape_one b (flat_map escaped_in_string bytes) (stands b) ∙ ap (λ xs. Some b ∷ xs) (unescape_all bytes)

all_bytes : (bytes : List ℕ) → list_all is_some (map Some bytes) ≡ true
all_bytes [] = refl
all_bytes (b ∷ bytes) = all_bytes bytes

-- between quotes
abbrev pub quoted : List ℕ → List ℕ
quoted bytes = 0x22 ∷ (flat_map escaped_in_string bytes ++ 0x22 ∷ [])

abbrev pub string : List ℕ → Lexeme
string bytes = record { kind = kinds.Text; bytes = quoted bytes }

pub string_token : (bytes rest : List ℕ) → AreToken kinds.Text (quoted bytes) rest
unfolding scan
string_token bytes rest fresh = grind (arith, append_assoc, take-append_seam, until_all, is_some, unescape_all, all_bytes, length-append)

pub string_read : (bytes rest : List ℕ) →
    lexemes_at false 0 (0x22 ∷ (escaped_text bytes ++ 0x22 ∷ rest)) ≡ string bytes ∷ lexemes_at false 0 rest
unfolding escaped_text
string_read bytes rest = simp append_assoc at (prefix_again false (Some kinds.Text) 0x22 (flat_map escaped_in_string bytes ++ 0x22 ∷ []) rest (string_token bytes rest false))

-- what is between its quotes
pub between_quotes : (w : List ℕ) → take (length (0x22 ∷ (w ++ 0x22 ∷ [])) - 2) (drop 1 (0x22 ∷ (w ++ 0x22 ∷ []))) ≡ w
between_quotes w = grind (arith, length-append w (0x22 ∷ []), take-append_seam w (0x22 ∷ []))
