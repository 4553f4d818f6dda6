use Rattle.check_options.proofs.Prelude.{◌≡◌, ◌+◌, ◌≤◌, drop}
use Rattle.check_options.specs.Misuse.{uses_in}
use Rattle.check_options.proofs.misuse.uses_in.Given as goal

abbrev pub invariant-loop-letter : goal.invariant-loop-letter
invariant-loop-letter l = (l.total + uses_in l.x (drop l.letter-index l.letters) ≡ uses_in l.x l.letters) × (l.total ≤ l.letter-index)
