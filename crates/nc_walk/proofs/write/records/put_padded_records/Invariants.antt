use Rattle.nc_walk.proofs.Prelude.{ℕ, ◌-◌, map, flat_map, range_with_len, filled_records, array_of, UpTo}
use Rattle.nc_walk.proofs.write.records.put_padded_records.Given as goal

abbrev pub invariant-loop-r : goal.invariant-loop-r
invariant-loop-r g l =
    let f = λ (r : ℕ). filled_records r (map (array_of l.arrays) l.slabs) in
    UpTo (g.W.Sink.view l.fn.sink) (g.W.Sink.view l.sink) (flat_map f (range_with_len 0 l.records)) (flat_map f (range_with_len l.r (l.records - l.r)))
