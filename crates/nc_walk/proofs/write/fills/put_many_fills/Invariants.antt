use Rattle.nc_walk.proofs.Prelude.{repeated, UpTo}
use Rattle.nc_walk.proofs.write.fills.put_many_fills.Given as goal

abbrev pub invariant-loop-left : goal.invariant-loop-left
invariant-loop-left g l = UpTo (g.W.Sink.view l.fn.sink) (g.W.Sink.view l.sink) (repeated l.fn.unit l.n) (repeated l.fn.unit l.left)

abbrev pub decreases-loop-left : goal.decreases-loop-left
decreases-loop-left g l = l.left
