-- For contracts. What `Display` writes of the reason why a statement isn't read.
use Rattle.nc_types.specs.Bytes.{Bytes}
use Rattle.cdl_statements.specs.declared.fault.CdlKind.TheVariants as kind
use Rattle.cdl_statements.specs.FaultWords.{kind_words}
use Rattle.cdl_values.specs.declared.read_error.ReadError.{ReadError}
use Rattle.cdl_values.specs.declared.read_error.ReadError.TheVariants.{OutOfMemory, Fault}

unfoldable pub read_error_text : ReadError → Bytes
read_error_text OutOfMemory = kind_words kind.OutOfMemory
read_error_text (Fault kind) = kind_words kind
