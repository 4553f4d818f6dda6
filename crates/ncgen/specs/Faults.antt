-- Definition. The faults of a run, and the lines that tell them.
use Rattle.std.specs.Global.{Global}
use Rattle.std.specs.Prelude.{[], ◌∷◌, Option, Some, None, String, codes, string_bytes}
use Rattle.nc_types.specs.Bytes.{Bytes, concat_parts}
use Rattle.cdl_statements.specs.FaultWords.{cdl_fault_text}
use Rattle.cli_base.specs.declared.fault.OptFault.{OptFault}
use Rattle.cli_base.specs.declared.fault.OptFault.TheVariants as opt
use Rattle.ncgen.specs.declared.{fault.GenFault.GenFault, failure.InputFault.InputFault, failure.OutputFault.OutputFault, failure.Failure.Failure}
use Rattle.ncgen.specs.declared.fault.GenFault.TheVariants.{Cdl, OffsetTooLarge, WriteFailed}
use Rattle.ncgen.specs.declared.fault.TextFault.TheVariants as text
use Rattle.ncgen.specs.declared.failure.InputFault.TheVariants as input
use Rattle.ncgen.specs.declared.failure.OutputFault.TheVariants as output
use Rattle.ncgen.specs.declared.failure.Failure.TheVariants.{CommandLine, Input, Output}

unfoldable pub fault_text : GenFault → Bytes
fault_text (Cdl fault) = cdl_fault_text fault
fault_text OffsetTooLarge = codes "offset too large"
fault_text WriteFailed = codes "write failed"

-- the line that says this of a file
unfoldable pub fault_line : Bytes → Bytes → Bytes
fault_line file said = concat_parts (codes "ncgen: " ∷ file ∷ codes ": " ∷ said ∷ codes "\n" ∷ [])

unfoldable pub input_words : InputFault → Bytes
input_words input.CannotOpen = codes "cannot open"
input_words (input.Text text.OutOfMemory) = codes "out of memory"
input_words (input.Text text.ReadFailed) = codes "read failed"
input_words (input.Text text.CdlTooLong) = codes "CDL text too long"
input_words (input.Generate fault) = fault_text fault

unfoldable pub output_words : OutputFault → Bytes
output_words output.CannotOpen = codes "cannot open"
output_words output.WriteFailed = codes "write failed"

-- what lines call the text
unfoldable pub text_name : Option (String Global) → Bytes
text_name (Some path) = string_bytes path
text_name None = codes "-"

unfoldable pub opt_fault_line : OptFault → Bytes
opt_fault_line opt.OutOfMemory = codes "ncgen: out of memory\n"
opt_fault_line opt.Usage = codes "usage: ncgen [-b] [-o file] [-k kind] [file]\n"

unfoldable pub line_of_failure : Failure → Bytes
line_of_failure (CommandLine fault) = opt_fault_line fault
line_of_failure (Input path fault) = fault_line (text_name path) (input_words fault)
line_of_failure (Output path fault) = fault_line (string_bytes path) (output_words fault)
