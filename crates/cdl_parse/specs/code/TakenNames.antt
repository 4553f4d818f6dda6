-- For contracts. Names that are taken, and the order of faults.
use Rattle.std.specs.Prelude.{Bool, if◌then◌else◌}
use Rattle.cdl_statements.specs.declared.fault.CdlKind.TheVariants.{DuplicateName}
use Rattle.cdl_values.specs.declared.read_error.ReadError.{ReadError}
use Rattle.cdl_values.specs.declared.read_error.ReadError.TheVariants.{OutOfMemory, Fault}

-- a taken name comes before a fault after the name
abbrev pub duplicate_name_or : Bool → ReadError → ReadError
duplicate_name_or taken OutOfMemory = OutOfMemory
duplicate_name_or taken (Fault kind) = Fault (if taken then DuplicateName else kind)
