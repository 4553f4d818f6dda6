use Rattle.nc_walk.proofs.Prelude.{◌≡◌, ◌-◌, number_at, IsOffset, use_of, reading}
use Rattle.nc_walk.proofs.ChunkSteps.{Going}
use Rattle.nc_walk.proofs.chunk.read_chunk.Given as goal

abbrev pub invariant-loop-slabs : goal.invariant-loop-slabs
invariant-loop-slabs g l = record {
  going : Going g.S.Source.is_transparent (reading l.slabs l.fn.cursor l.fn.into l.into) (use_of g.S.Source.view l.fn.source l.source) l.chunk;
  at : l.chunk.next.within ≡ 0 → IsOffset l.slabs (number_at l.slabs l.chunk.next) l.at;
}

abbrev pub decreases-loop-slabs : goal.decreases-loop-slabs
decreases-loop-slabs g l = l.capacity - l.chunk.values
