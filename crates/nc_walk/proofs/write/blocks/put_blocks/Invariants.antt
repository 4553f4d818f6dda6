use Rattle.nc_walk.proofs.Prelude.{drop, filled_blocks, UpTo}
use Rattle.nc_walk.proofs.write.blocks.put_blocks.Given as goal

abbrev pub invariant-loop-v : goal.invariant-loop-v
invariant-loop-v g l =
    UpTo (g.W.Sink.view l.fn.sink) (g.W.Sink.view l.sink) (filled_blocks l.header.dims l.header.vars l.arrays) (filled_blocks l.header.dims (drop l.v l.header.vars) (drop l.v l.arrays))
