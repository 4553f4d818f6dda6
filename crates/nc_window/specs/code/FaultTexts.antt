-- For contracts. What `Display` writes of a fault.
use Rattle.std.specs.Prelude.{codes}
use Rattle.nc_types.specs.Bytes.{Bytes}
use Rattle.nc_base.specs.FaultWords.{format_text}
use Rattle.nc_window.specs.declared.head_fault.HeadFault.{HeadFault}
use Rattle.nc_window.specs.declared.head_fault.HeadFault.TheVariants.{OutOfMemory, ReadFailed, Format}

unfoldable pub head_fault_text : HeadFault → Bytes
head_fault_text OutOfMemory = codes "out of memory"
head_fault_text ReadFailed = codes "read failed"
head_fault_text (Format fault) = format_text fault
