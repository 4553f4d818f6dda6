-- For contracts. What `Display` writes of a fault.
use Rattle.std.specs.Prelude.{codes}
use Rattle.nc_types.specs.Bytes.{Bytes}
use Rattle.nc_window.specs.code.FaultTexts.{head_fault_text}
use Rattle.example.specs.declared.variable_fault.VariableFault.{VariableFault}
use Rattle.example.specs.declared.variable_fault.VariableFault.TheVariants.{Header, NoSuchVariable}

unfoldable pub variable_fault_text : VariableFault → Bytes
variable_fault_text (Header fault) = head_fault_text fault
variable_fault_text NoSuchVariable = codes "no such variable"
