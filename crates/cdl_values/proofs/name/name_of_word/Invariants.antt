use Rattle.std.proofs.Common.{length, ◌-◌, ◌≡◌, ◌++◌, ◌≤◌, drop}
use Rattle.cdl_tokens.specs.Escapes.{word_value}
use Rattle.cdl_values.proofs.name.name_of_word.Given as goal

abbrev pub invariant-loop-at : goal.invariant-loop-at
invariant-loop-at l = record {
  within : l.at ≤ length l.word;
  rest : l.name.items ++ word_value (drop l.at l.word) ≡ word_value l.word;
}

abbrev pub decreases-loop-at : goal.decreases-loop-at
decreases-loop-at l = length l.word - l.at
