-- For contracts. What a parsed text is, and which options or fault words give.
use Rattle.std.specs.Borrow.{Bor}
use Rattle.std.specs.Prelude.{◌≡◌, ℕ, List, Option, Some, None, option_map, Result, Ok, Err}
use Rattle.cli_base.specs.declared.fault.OptFault.{OptFault}
use Rattle.cli_base.specs.declared.fault.OptFault.TheVariants.{OutOfMemory, Usage}

-- the bytes of a lent text, if there is one
abbrev pub text_of : Option (Bor (List ℕ)) → Option (List ℕ)
text_of text = option_map (λ (t : Bor (List ℕ)). t.now) text

-- The options are those that the words ask for. If the fault is usage, the words ask for nothing. Out of memory says nothing of the words.
-- `asked_for`: what a program's options ask for.
abbrev pub AnswersBy : {Asked Options : Type 0} → (Options → Asked) → Option Asked → Result Options OptFault → Type 0
AnswersBy asked_for asked (Ok options) = asked ≡ Some (asked_for options)
AnswersBy asked_for asked (Err OutOfMemory) = Unit {0}
AnswersBy asked_for asked (Err Usage) = asked ≡ None
