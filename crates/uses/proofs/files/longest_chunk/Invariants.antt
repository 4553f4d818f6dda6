use Rattle.std.proofs.Common.{◌≡◌, None, length}
use Rattle.uses.proofs.files.longest_chunk.Given as goal

-- the walk hasn't stopped
abbrev pub invariant-loop-chunk : goal.invariant-loop-chunk
invariant-loop-chunk g l = l.walk.fault ≡ None

-- each chunk leaves fewer values
abbrev pub decreases-loop-chunk : goal.decreases-loop-chunk
decreases-loop-chunk g l = length l.walk.left
