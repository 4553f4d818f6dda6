use Rattle.nc_walk.proofs.Prelude.{refl, number_at}
use Rattle.nc_walk.proofs.OneRead.{none_left, steps, advanced}
use Rattle.nc_walk.proofs.walk.Walk.step.Goals as goal

pub returns-then-is_end-clause-steps : goal.returns-then-is_end-clause-steps
returns-then-is_end-clause-steps g c =
    λ none. rw (← c.self.view_is) (none_left _ _ (c.if-is_end.ensures.0 refl), refl)

pub returns-in-Ok-clause-advanced : goal.returns-in-Ok-clause-advanced
returns-in-Ok-clause-advanced g c =
    rw (← c.self.view_is, c.in-Ok.ensures.number)
    (advanced g.S.Source.is_transparent c.self.inside.slabs (number_at c.self.inside.slabs c.self.inside.cursor) _ _ _ _ c.in-Ok.chunk.values c.self.invariant.sized c.self.invariant.is_cursor.reached (c.in-Ok.ensures.fits, c.in-Ok.ensures.returns_values) _ _ c.in_default.is c.read_chunk.auto.into)

pub returns-in-Ok-clause-steps : goal.returns-in-Ok-clause-steps
returns-in-Ok-clause-steps g c =
    λ none. rw (← c.self.view_is)
    (steps g.S.Source.is_transparent c.self.inside.slabs (number_at c.self.inside.slabs c.self.inside.cursor) _ _ _ _ c.in-Ok.chunk.values c.self.invariant.sized c.self.invariant.is_cursor.reached (c.in-Ok.ensures.fits, c.in-Ok.ensures.returns_values) _)
