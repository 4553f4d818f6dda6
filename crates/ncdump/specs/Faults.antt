-- Definition. The faults of a run, and the lines that tell them.
use Rattle.std.specs.Prelude.{[], ◌∷◌, codes, decimal, string_bytes}
use Rattle.nc_types.specs.Bytes.{Bytes, concat_parts}
use Rattle.nc_base.specs.FaultWords.{format_text}
use Rattle.ncdump.specs.declared.{fault.DumpFault.DumpFault, fault.FileFault.FileFault, fault.Failure.Failure}
use Rattle.ncdump.specs.declared.fault.DumpFault.TheVariants.{OutOfMemory, ReadFailed, WriteFailed, Format, NoSuchVariable, DataTruncated}
use Rattle.cli_base.specs.declared.fault.OptFault.{OptFault}
use Rattle.cli_base.specs.declared.fault.OptFault.TheVariants as opt
use Rattle.ncdump.specs.declared.fault.FileFault.TheVariants.{CannotOpen, Dump}
use Rattle.ncdump.specs.declared.fault.Failure.TheVariants.{CommandLine, File}

unfoldable pub item_words : Bytes
item_words = codes "no such variable: item "

unfoldable pub truncated_words : Bytes
truncated_words = codes ": data truncated at value "

unfoldable pub fault_text : DumpFault → Bytes
fault_text OutOfMemory = codes "out of memory"
fault_text ReadFailed = codes "read failed"
fault_text WriteFailed = codes "write failed"
fault_text (Format fault) = format_text fault
fault_text (NoSuchVariable index) = concat_parts (item_words ∷ decimal index ∷ codes " of -v" ∷ [])
fault_text (DataTruncated var value) = concat_parts (codes "variable " ∷ decimal var ∷ truncated_words ∷ decimal value ∷ [])

-- of a file that could not be opened or dumped
unfoldable pub file_text : FileFault → Bytes
file_text CannotOpen = codes "cannot open"
file_text (Dump fault) = fault_text fault

unfoldable pub file_line : Bytes → FileFault → Bytes
file_line path fault = concat_parts (codes "ncdump: " ∷ path ∷ codes ": " ∷ file_text fault ∷ codes "\n" ∷ [])

unfoldable pub usage_line : Bytes
usage_line = codes "usage: ncdump [-h] [-c] [-v names] [-n name] [-l width] file\n"

unfoldable pub opt_fault_line : OptFault → Bytes
opt_fault_line opt.OutOfMemory = codes "ncdump: out of memory\n"
opt_fault_line opt.Usage = usage_line

unfoldable pub line_of_failure : Failure → Bytes
line_of_failure (CommandLine fault) = opt_fault_line fault
line_of_failure (File path fault) = file_line (string_bytes path) fault
