use Rattle.nc_walk.proofs.OneRead.{not_ready}
use Rattle.nc_walk.proofs.chunk.read_from_slab.Goals as goal

pub returns-then-ready-eq0-clause-collects : goal.returns-then-ready-eq0-clause-collects
returns-then-ready-eq0-clause-collects g c =
    rw c.number.ensures
    (not_ready g.S.Source.is_transparent _ _ _ c.args.into.now _ c.ready-ready.result c.requires.sized c.requires.more (rw c.len.ensures.length at c.ready-ready.ensures) c.if-ready-eq0.true)
