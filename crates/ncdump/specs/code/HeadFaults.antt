-- For contracts. Why reading the header failed, as a fault of the dump.
use Rattle.nc_window.specs.declared.head_fault.HeadFault.{HeadFault}
use Rattle.nc_window.specs.declared.head_fault.HeadFault.TheVariants as head
use Rattle.ncdump.specs.declared.fault.DumpFault.{DumpFault}
use Rattle.ncdump.specs.declared.fault.DumpFault.TheVariants.{OutOfMemory, ReadFailed, Format}

abbrev pub fault_of_head : HeadFault → DumpFault
fault_of_head head.OutOfMemory = OutOfMemory
fault_of_head head.ReadFailed = ReadFailed
fault_of_head (head.Format fault) = Format fault
