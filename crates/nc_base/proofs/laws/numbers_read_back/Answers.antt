use Rattle.nc_base.proofs.NumberBytes.{bytes_read_back}
use Rattle.nc_base.proofs.laws.numbers_read_back.Goals as goal

pub returns-clause-bytes : goal.returns-clause-bytes
returns-clause-bytes c = bytes_read_back
