-- For contracts. What `Display` writes of a fault.
use Rattle.std.specs.Prelude.{codes}
use Rattle.nc_types.specs.Bytes.{Bytes}
use Rattle.nc_findings.specs.declared.list_fault.ListFault.{ListFault}
use Rattle.nc_findings.specs.declared.list_fault.ListFault.TheVariants.{OutOfMemory, ReadFailed}

unfoldable pub list_fault_text : ListFault → Bytes
list_fault_text OutOfMemory = codes "out of memory"
list_fault_text ReadFailed = codes "read failed"
