use Rattle.check_options.proofs.Prelude.{texts_of, ◌≡◌, ◌+◌, ◌*◌, ◌^◌, ◌≤◌, drop}
use Rattle.check_options.specs.Misuse.{uses}
use Rattle.check_options.proofs.misuse.uses.Given as goal

-- the uses in the words before, which are no more than they have bytes
abbrev pub invariant-loop-word : goal.invariant-loop-word
invariant-loop-word l =
    (l.total + uses l.letter (texts_of (drop l.word-index l.words)) ≡ uses l.letter (texts_of l.words))
    × (l.total ≤ l.word-index * 2 ^ 64)
