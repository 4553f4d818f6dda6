use Rattle.check_options.proofs.Prelude.{◌≡◌, drop}
use Rattle.check_options.specs.Misuse.{has_other}
use Rattle.check_options.proofs.misuse.has_other.Given as goal

abbrev pub invariant-loop-letter : goal.invariant-loop-letter
invariant-loop-letter l = has_other l.letters ≡ has_other (drop l.letter-index l.letters)
