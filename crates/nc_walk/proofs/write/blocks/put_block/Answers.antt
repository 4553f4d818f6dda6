use Rattle.nc_walk.proofs.Prelude.{arith, appended-nothing}
use Rattle.nc_walk.proofs.write.blocks.put_block.Goals as goal

pub returns-then-is_record_var : goal.returns-then-is_record_var
returns-then-is_record_var g c = grind (arith, appended-nothing)
