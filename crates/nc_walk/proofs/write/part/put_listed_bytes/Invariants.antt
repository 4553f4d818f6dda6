use Rattle.nc_walk.proofs.Prelude.{◌-◌, take, drop, UpTo}
use Rattle.nc_walk.proofs.write.part.put_listed_bytes.Given as goal

abbrev pub invariant-loop-at : goal.invariant-loop-at
invariant-loop-at g l = UpTo (g.W.Sink.view l.fn.sink) (g.W.Sink.view l.sink) (take l.fn.len (drop l.fn.start l.listed)) (take (l.end - l.at) (drop l.at l.listed))

abbrev pub decreases-loop-at : goal.decreases-loop-at
decreases-loop-at g l = l.end - l.at
