use Rattle.nc_layout.proofs.Prelude.{arith}
use Rattle.nc_layout.proofs.HeaderSlots.{small_slabs}
use Rattle.nc_layout.proofs.header_layout.sound_layout.Goals as goal

pub returns-in-None : goal.returns-in-None
returns-in-None c sound = grind (arith, small_slabs c.args.header.now c.args.header_end c.args.file_len)
