use Rattle.nccheck.proofs.Prelude.{texts_of, ◌≡◌, drop}
use Rattle.nccheck.specs.Info.{info_among}
use Rattle.nccheck.proofs.info.info_among.Given as goal

abbrev pub invariant-loop-word : goal.invariant-loop-word
invariant-loop-word l = info_among (texts_of l.words) ≡ info_among (texts_of (drop l.word-index l.words))
