use Rattle.check_options.proofs.Prelude.{texts_of, ◌≡◌, drop}
use Rattle.check_options.specs.Misuse.{first_no_option}
use Rattle.check_options.proofs.misuse.first_no_option.Given as goal

abbrev pub invariant-loop-word : goal.invariant-loop-word
invariant-loop-word l = first_no_option (texts_of l.words) ≡ first_no_option (texts_of (drop l.word-index l.words))
