use Rattle.nc_walk.proofs.Prelude.{err_from_is_err_and, up-start, up-partway, up-then}
use Rattle.nc_walk.proofs.DataFilled.{listed-len, data-filled}
use Rattle.nc_walk.proofs.write.data.write_data.Goals as goal

pub put_blocks-requires-clause-one_each : goal.put_blocks-requires-clause-one_each
put_blocks-requires-clause-one_each g c = listed-len _ _ _ _ c.requires.listed

pub returns-in_err-put_blocks : goal.returns-in_err-put_blocks
returns-in_err-put_blocks g c =
    let p = err_from_is_err_and c.from_residual.result c.from_residual.ensures.1 in
    rw p.1 (up-partway _ _ _ _ _ _ _ (data-filled c.args.header.now c.args.arrays.now c.requires.listed) (up-start _ _) c.in_err-put_blocks.ensures)

pub returns : goal.returns
returns g c = up-then _ _ _ _ _ _ (data-filled c.args.header.now c.args.arrays.now c.requires.listed) c.in_ok-put_blocks.ensures _ c.put_records.ensures
