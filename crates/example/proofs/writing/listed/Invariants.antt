use Rattle.std.proofs.Common.{◌≡◌, ◌*◌, length}
use Rattle.example.proofs.writing.listed.Given as goal

-- each value has added four bytes
abbrev pub invariant-loop-value : goal.invariant-loop-value
invariant-loop-value l = length l.bytes ≡ l.value-index * 4
