-- Values of a list, passed one after the other.
use Rattle.cdl_statements.proofs.Prelude.{◌≡◌, ℕ, Bool, true, false, List, [], ◌∷◌, refl, sym, ap, ◌∙◌, Option, rules, None, Some, option_map, arith, is_none, CdlKind, Version, parts, number, numeral, token_fault, completes, next, is_value_of, words, version_of, is_done, Cutter, Due, Lexeme, IsAtComma, Passes, SamePlace, lexeme_with, PassesGood, PassesValues, PassesNumber, PassesUnderscore, Separator, held, Numeral}
use Rattle.std.specs.Option.{is_some}
use Rattle.cdl_tokens.specs.declared.token.TokenKind.TheVariants as kinds
use Rattle.cdl_statements.proofs.ValueLists.{at_same_comma, same_after, same_words}
use Rattle.cdl_statements.proofs.ShapeChecks.{good_on}

-- nothing is passed
pub unmoved : (due : Due) (start : Cutter) → is_done start ≡ false → PassesGood due start start
unmoved due start goes = search rules

pub stays : (takes_fill : Bool) (start : Cutter) → IsAtComma start → PassesValues takes_fill start start
stays takes_fill start at = record { at = at; on = unmoved (Separator takes_fill) start at.goes }

-- one after the other
pub further : (takes_fill : Bool) (start between rest : Cutter) → PassesValues takes_fill start between → PassesValues takes_fill between rest → PassesValues takes_fill start rest
further takes_fill start between rest so next = search (rules, words)

-- a comma and a good value
pub value_on : (takes_fill : Bool) (start rest : Cutter) (l : Lexeme) → IsAtComma start → Passes start rest l → token_fault (version_of start) l.kind l.bytes ≡ None → is_value_of takes_fill l l.kind ≡ true → PassesValues takes_fill start rest
unfolding completes next
value_on takes_fill start rest l at passes good value = search (rules, words, good_on, next)

-- the same of a token in which no fault was found
no_fault : (fault : Option CdlKind) → is_some fault ≡ false → fault ≡ None
no_fault fault h = grind arith

pub token_on : (takes_fill : Bool) (v : Version) (start rest : Cutter) (l : Lexeme) (fault : Option CdlKind) → v ≡ version_of start → IsAtComma start → Passes start rest l →
    fault ≡ token_fault v l.kind l.bytes → is_some fault ≡ false → is_value_of takes_fill l l.kind ≡ true → PassesValues takes_fill start rest
token_on takes_fill v start rest l fault version at passes is none value =
    value_on takes_fill start rest l at passes (ap (λ (v : Version). token_fault v l.kind l.bytes) (sym version) ∙ sym is ∙ no_fault fault none) value

-- a number is good
pub good_number : (v : Version) (bytes : List ℕ) (n : Numeral) → Some n ≡ option_map held (parts v bytes) → token_fault v kinds.Number bytes ≡ None
unfolding numeral
good_number v bytes n is = grind (arith, parts v bytes, held, is_none, number)

pub number_on : (takes_fill : Bool) (start rest : Cutter) (n : Numeral) → IsAtComma start → PassesNumber start rest n → PassesValues takes_fill start rest
number_on takes_fill start rest n at p = value_on takes_fill start rest (lexeme_with kinds.Number p.bytes) at p.passes (good_number (version_of start) p.bytes n (p.says (version_of start))) refl

pub underscore_on : (start rest : Cutter) → IsAtComma start → PassesUnderscore start rest → PassesValues true start rest
underscore_on start rest at p = value_on true start rest (lexeme_with kinds.Word (0x5f ∷ [])) at p refl refl

-- at the same place
pub ended_at : (takes_fill : Bool) (start there rest : Cutter) → SamePlace rest there → PassesValues takes_fill start there → PassesValues takes_fill start rest
ended_at takes_fill start there rest same so = search (rules, same_words, at_same_comma, words, same_after)
