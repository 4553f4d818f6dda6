use Rattle.nc_walk.proofs.Prelude.{drop, map, filled_records, array_of, UpTo}
use Rattle.nc_walk.proofs.write.records.put_record.Given as goal

abbrev pub invariant-loop-slab : goal.invariant-loop-slab
invariant-loop-slab g l =
    UpTo (g.W.Sink.view l.fn.sink) (g.W.Sink.view l.sink) (filled_records l.r (map (array_of l.arrays) l.slabs)) (filled_records l.r (map (array_of l.arrays) (drop l.slab-index l.slabs)))
