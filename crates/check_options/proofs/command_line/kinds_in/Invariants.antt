use Rattle.check_options.proofs.Prelude.{texts_of, ◌≡◌, drop}
use Rattle.check_options.specs.CommandLine.{kinds_said}
use Rattle.check_options.proofs.KindLists.{kinds_after}
use Rattle.check_options.proofs.command_line.kinds_in.Given as goal

abbrev pub invariant-loop-word : goal.invariant-loop-word
invariant-loop-word l = kinds_after l.kinds (kinds_said (texts_of (drop l.word-index l.words))) ≡ kinds_said (texts_of l.words)
