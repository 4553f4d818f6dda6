use Rattle.ncdump.proofs.Prelude.{ℕ, Bool, true, List, [], ◌∷◌, Option, Some, None, Result, Ok, Err, ◌≡◌, ◌<◌, ◌^◌, refl, rules, tests, arith, length, if◌then◌else◌, option_and_then, then_some, list_all, width_said, sym, ap, ◌∙◌}
use Rattle.std.specs.Char.{is_ascii_digit}
use Rattle.std.specs.Int.{is_in_range}
use Rattle.std.specs.Str.Parse.{ParsesUnsigned, digits_value}
use Rattle.std.specs.Result.{OkIff, result_ok}
use Rattle.std.proofs.lemmas.Str.Parse.{IsNumeralModel, numerals_by_value, parse_digits}
use Rattle.ncdump.proofs.command_line.width_of.Goals as goal

-- What a width reads.
digits : IsNumeralModel (λ ds. list_all is_ascii_digit ds ≡ true) (digits_value 10)
digits = numerals_by_value _ (search rules)

-- what `parse` reads of a word of decimal digits
digits_read : {E : Type 0} (word : List ℕ) (r : Result ℕ E) → ParsesUnsigned 64 10 word r → list_all is_ascii_digit word ≡ true
    → OkIff r ((0 < length word) × (digits_value 10 word < 2 ^ 64)) (digits_value 10 word)
digits_read word r h all = parse_digits digits 64 word r h all

then_some_if : (is : Bool) (n : ℕ) → (if is then Some n else None) ≡ then_some is n
then_some_if is n = grind arith

-- the width that a number is
abbrev width_if : ℕ → Option ℕ
width_if n = then_some (is_in_range 20 1000 n) n

-- the width that a word of digits writes, as `parse` reads it
width_of_digits : (E : Type 0) (word : List ℕ) (r : Result ℕ E) → ParsesUnsigned 64 10 word r → list_all is_ascii_digit word ≡ true
    → width_said word ≡ option_and_then width_if (result_ok r)
width_of_digits E word (Ok n) h all = let n_is = (digits_read {E = E} word (Ok n) h all).1 in rw (all, n_is) (then_some_if (is_in_range 20 1000 (digits_value 10 word)) (digits_value 10 word))
width_of_digits E [] (Err e) h all = refl
width_of_digits E (b ∷ bs) (Err e) h all = grind (arith, digits_read {E = E} (b ∷ bs) (Err e) h all, tests)

pub returns-in_err-width : goal.returns-in_err-width
returns-in_err-width c =
    let read = width_of_digits _ c.args.word.now c.parse.result c.parse.ensures.value.0 (sym c.has_only_digits.ensures ∙ c.if-not-has_only_digits.false) in
    c.from_residual.ensures ∙ sym (read ∙ ap (option_and_then width_if) (sym c.ok.ensures.value ∙ c.in_err-width.was))

pub returns : goal.returns
returns c =
    let read = width_of_digits _ c.args.word.now c.parse.result c.parse.ensures.value.0 (sym c.has_only_digits.ensures ∙ c.if-not-has_only_digits.false) in
    c.then_some.ensures ∙ ap (λ (is : Bool). then_some is c.in_ok-width.width) c.is_width.ensures
    ∙ sym (read ∙ ap (option_and_then width_if) (sym c.ok.ensures.value ∙ c.in_ok-width.was))
