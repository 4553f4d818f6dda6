use Rattle.nc_file.proofs.Prelude.{arith}
use Rattle.nc_file.proofs.HeaderLen.{all-added, atts-len}
use Rattle.nc_file.proofs.write.length.atts_len.Goals as goal

pub returns : goal.returns
returns c = all-added _ c.args.atts.now c.loop-att.att-index _ _ _ _ (omega arith) c.loop-att.invariant (atts-len c.args.version c.args.atts.now)
