use Rattle.nc_walk.proofs.Prelude.{◌-◌, length}
use Rattle.nc_walk.proofs.FullReadSteps.{Filling}
use Rattle.nc_walk.proofs.read_full.read_on.Given as goal

abbrev pub invariant-loop-got : goal.invariant-loop-got
invariant-loop-got g l = Filling g.S.Source.is_transparent (g.S.Source.view l.fn.source) (g.S.Source.view l.source) l.at l.got l.into

abbrev pub decreases-loop-got : goal.decreases-loop-got
decreases-loop-got g l = length l.initial.into - l.got
