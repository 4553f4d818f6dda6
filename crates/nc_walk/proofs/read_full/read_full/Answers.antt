use Rattle.nc_walk.proofs.Prelude.{◌<◌, length, arith, err_from_is_err_and}
use Rattle.nc_walk.proofs.FullReadSteps.{filled_on, fails_on}
use Rattle.nc_walk.proofs.read_full.read_full.Goals as goal

pub returns-in_err-more : goal.returns-in_err-more
returns-in_err-more g c = grind (arith, err_from_is_err_and, fails_on)

pub returns : goal.returns
returns g c =
    let some_left : c.in_ok-got.got < length c.read_at.new.into = omega (arith, c.in_ok-got.ensures.within) in
    filled_on g.S.Source.is_transparent _ _ c.args.at c.in_ok-got.got c.read_at.new.into c.read_on.new.into some_left c.read_on.auto.into c.in_ok-got.ensures _ c.in_ok-more.more c.in_ok-more.ensures
