use Rattle.nc_file.proofs.Outcomes.{one-outcome}
use Rattle.nc_file.proofs.laws.one_header.Goals as goal

pub returns : goal.returns
returns c = one-outcome
