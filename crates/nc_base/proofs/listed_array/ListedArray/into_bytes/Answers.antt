use Rattle.nc_base.proofs.Prelude.{arith, common_steps, nil_from_length, filled_rows}
use Rattle.nc_base.proofs.listed_array.ListedArray.into_bytes.Goals as goal

pub returns-then-is_empty : goal.returns-then-is_empty
unfolding filled_rows
returns-then-is_empty c = grind (arith, nil_from_length, common_steps)
