-- A statement, one token on.
use Rattle.cdl_statements.proofs.Prelude.{◌≡◌, ℕ, true, false, List, [], ◌∷◌, refl, ap, ◌∙◌, Bool, Option, None, Some, if◌then◌else◌, is_none, option_map, arith, Version, Lexeme, parts, number, numeral, first_bad, option_or, token_fault, held, Numeral, CdlKind}

-- a token's words, where the piece goes on and where it ends
pub going : (ws rest : List Lexeme) (l m : Lexeme) (ends : Bool) → ws ≡ l ∷ (if ends then [] else rest) → l ≡ m → ends ≡ false → ws ≡ m ∷ rest
going ws rest l m ends e same off = e ∙ rw (off) (rw (same) refl)

pub ending : (ws rest : List Lexeme) (l m : Lexeme) (ends : Bool) → ws ≡ l ∷ (if ends then [] else rest) → l ≡ m → ends ≡ true → ws ≡ m ∷ []
ending ws rest l m ends e same on = e ∙ rw (on) (rw (same) refl)

-- the words from a token on
pub first_word : (ws rest : List Lexeme) (l m : Lexeme) (ends : Bool) → ws ≡ l ∷ (if ends then [] else rest) → l ≡ m → ws ≡ m ∷ (if ends then [] else rest)
first_word ws rest l m ends e same = e ∙ rw (same) refl

-- a good token
pub good_on : (version : Version) (l : Lexeme) (ls : List Lexeme) → token_fault version l.kind l.bytes ≡ None → first_bad version (l ∷ ls) ≡ first_bad version ls
good_on version l ls good = ap (λ b. option_or b (first_bad version ls)) good

pub good_end : (version : Version) (l : Lexeme) → token_fault version l.kind l.bytes ≡ None → first_bad version (l ∷ []) ≡ None
good_end version l good = ap (λ b. option_or b None) good

-- a bad token that comes first
pub bad_first : (version : Version) (l : Lexeme) (ls ws : List Lexeme) (k : CdlKind) → ws ≡ l ∷ ls → token_fault version l.kind l.bytes ≡ Some k → first_bad version ws ≡ Some k
bad_first version l ls ws k is bad = rw (is) (rw (bad) refl)

pub ruleset first_words = (ending, going, first_word)

pub ruleset shape_checks = (bad_first, ending, going, good_end, good_on)

-- a number is bad where it has no parts
pub bad_number : (version : Version) (bytes : List ℕ) (r : Option Numeral) → r ≡ option_map held (parts version bytes) → is_none r ≡ is_none (numeral version bytes)
unfolding numeral
bad_number version bytes r is = grind (arith, parts version bytes, is_none, held, number)
