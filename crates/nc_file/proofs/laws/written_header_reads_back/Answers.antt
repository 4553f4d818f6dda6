use Rattle.nc_base.proofs.PartOutcomes.{printed}
use Rattle.nc_file.proofs.Prelude.{header_part, header-printable}
use Rattle.nc_file.proofs.laws.written_header_reads_back.Goals as goal

pub returns : goal.returns
returns c = λ h rest sound names begins. printed header_part h rest (header-printable h sound names begins)
