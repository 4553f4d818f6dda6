-- For contracts. What `Display` writes of a fault.
use Rattle.std.specs.Prelude.{codes}
use Rattle.nc_types.specs.Bytes.{Bytes}
use Rattle.cli_base.specs.declared.fault.OptFault.{OptFault}
use Rattle.cli_base.specs.declared.fault.OptFault.TheVariants.{OutOfMemory, Usage}

unfoldable pub opt_fault_text : OptFault → Bytes
opt_fault_text OutOfMemory = codes "out of memory"
opt_fault_text Usage = codes "bad command line"
