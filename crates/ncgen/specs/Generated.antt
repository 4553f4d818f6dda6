-- Definition. What is generated from a CDL text: a file, or a fault.
use Rattle.std.specs.Prelude.{if◌then◌else◌, Result, Ok, Err}
use Rattle.nc_types.specs.Bytes.{Bytes}
use Rattle.nc_base.specs.declared.{dataset.Dataset.Dataset}
use Rattle.nc_types.specs.declared.{version.Version.Version}
use Rattle.nc_base.specs.GeneratedFile.{file_of, fits}
use Rattle.cdl_statements.specs.declared.fault.CdlFault.{CdlFault}
use Rattle.cdl_statements.specs.Meaning.{meaning}
use Rattle.ncgen.specs.declared.fault.GenFault.{GenFault, TheVariants.Cdl, TheVariants.OffsetTooLarge}

abbrev pub file_or_fault : Result Dataset CdlFault → Result Bytes GenFault
file_or_fault (Ok d) = if fits d.header then Ok (file_of d) else Err OffsetTooLarge
file_or_fault (Err fault) = Err (Cdl fault)

unfoldable pub generated : Bytes → Version → Result Bytes GenFault
generated text v = file_or_fault (meaning text v)
