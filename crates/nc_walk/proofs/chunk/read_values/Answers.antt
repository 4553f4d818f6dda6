use Rattle.nc_walk.proofs.Prelude.{◌*◌, drop, arith, length-take, number_at, err_from_is_err_and}
use Rattle.nc_walk.proofs.OneRead.{came_partly, came_whole, partway, reached}
use Rattle.nc_walk.proofs.ChunkSteps.{to_slab_end}
use Rattle.nc_walk.proofs.chunk.read_values.Goals as goal

pub returns-in_err-got-clause-collects : goal.returns-in_err-got-clause-collects
returns-in_err-got-clause-collects g c = grind (arith, err_from_is_err_and, partway, length-take)

pub returns-in_err-values-clause-collects : goal.returns-in_err-values-clause-collects
returns-in_err-values-clause-collects g c =
    let p = err_from_is_err_and c.from_residual-in_err-values.result c.from_residual-in_err-values.ensures.1 in
    rw (p.1, p.2) (came_partly g.S.Source.is_transparent _ _ _ c.args.into.now _ _ c.read_full.new.into (drop (c.args.ready * c.args.slabs.now.size) c.args.into.now) c.args.ready c.in_ok-got.got
    c.requires.sized c.requires.is_cursor c.requires.more (omega arith) c.requires.ready c.requires.some
    (omega (arith, c.read_full.auto.into, c.requires.ready.in_capacity, length-take (c.args.ready * c.args.slabs.now.size) c.args.into.now))
    (rw c.requires.at at c.in_ok-got.ensures) _ c.in_err-values.ensures.none.0 c.in_err-values.ensures.none.1)

pub cursor_after-next-requires-clause-left : goal.cursor_after-next-requires-clause-left
cursor_after-next-requires-clause-left g c =
    let came = came_whole g.S.Source.is_transparent _ _ _ c.args.into.now _ _ c.read_full.new.into (drop (c.args.ready * c.args.slabs.now.size) c.args.into.now) c.args.ready c.in_ok-got.got
    c.requires.sized c.requires.is_cursor c.requires.more (omega arith) c.requires.ready c.requires.some
    (omega (arith, c.read_full.auto.into, c.requires.ready.in_capacity, length-take (c.args.ready * c.args.slabs.now.size) c.args.into.now))
    (rw c.requires.at at c.in_ok-got.ensures) c.in_ok-values.values c.in_ok-values.ensures.whole c.in_ok-values.ensures.some in
    reached g.S.Source.is_transparent c.args.slabs.now (number_at c.args.slabs.now c.args.cursor) _ _ _ _ c.in_ok-values.values c.requires.sized c.requires.is_cursor.reached came.0

pub returns : goal.returns
returns g c =
    let came = came_whole g.S.Source.is_transparent _ _ _ c.args.into.now _ _ c.read_full.new.into (drop (c.args.ready * c.args.slabs.now.size) c.args.into.now) c.args.ready c.in_ok-got.got
    c.requires.sized c.requires.is_cursor c.requires.more (omega arith) c.requires.ready c.requires.some
    (omega (arith, c.read_full.auto.into, c.requires.ready.in_capacity, length-take (c.args.ready * c.args.slabs.now.size) c.args.into.now))
    (rw c.requires.at at c.in_ok-got.ensures) c.in_ok-values.values c.in_ok-values.ensures.whole c.in_ok-values.ensures.some in
    record {
      collects = record { fits = came.0.0; returns_values = came.0.1; is_cursor = c.cursor_after-next.ensures.cursor; number = c.cursor_after-next.ensures.number };
      in_slab = came.1;
      slab_read = λ first.
          came.2
          (to_slab_end c.args.slabs.now c.args.cursor c.cursor_after-next.result c.in_ok-values.values c.in_ok-values.ensures.some came.1 c.cursor_after-next.ensures.number first);
    }
