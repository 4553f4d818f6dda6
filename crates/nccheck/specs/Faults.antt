-- Definition. The faults of a run, and the lines that tell them.
use Rattle.std.specs.Prelude.{[], ◌∷◌, ◌++◌, codes, Option, Some, None}
use Rattle.std.specs.Str.{byte}
use Rattle.nc_types.specs.Bytes.{Bytes, concat_parts}
use Rattle.devices.specs.declared.fault.OpenFailed.{OpenFailed}
use Rattle.devices.specs.declared.fault.OpenFailed.TheVariants.{NotFound, PermissionDenied, NotRegular, Other}
use Rattle.nc_findings.specs.declared.list_fault.ListFault.{ListFault}
use Rattle.nc_findings.specs.declared.list_fault.ListFault.TheVariants as list
use Rattle.nc_window.specs.declared.head_fault.HeadFault.{HeadFault}
use Rattle.nc_window.specs.declared.head_fault.HeadFault.TheVariants as head
use Rattle.cli_base.specs.declared.fault.OptFault.{OptFault}
use Rattle.cli_base.specs.declared.fault.OptFault.TheVariants as opt
use Rattle.check_lines.specs.Shown.{shown_path}
use Rattle.check_options.specs.Misuse.{Misuse, GivenTwice, NoFile, NoKind, NoLevel, NoOption, NotWithFormats, NotWithPaths, NoValue}
use Rattle.nccheck.specs.declared.{fault.FileFault.FileFault, fault.PathFault.PathFault}
use Rattle.nccheck.specs.declared.fault.FileFault.TheVariants.{BadPath, CannotOpen, ReadFailed, NotClassic, OutOfMemory, WriteFailed}
use Rattle.nccheck.specs.declared.fault.PathFault.TheVariants.{Empty, TooLong, NotUtf8}

abbrev pub fault_of_list : ListFault → FileFault
fault_of_list list.OutOfMemory = OutOfMemory
fault_of_list list.ReadFailed = ReadFailed

-- of the first bytes of a file alone: any other fault is that they aren't those of a netCDF classic file
abbrev pub fault_of_head : HeadFault → FileFault
fault_of_head head.OutOfMemory = OutOfMemory
fault_of_head head.ReadFailed = ReadFailed
fault_of_head (head.Format fault) = NotClassic

-- a path can't be opened, whatever files there are
unfoldable pub path_words : PathFault → Bytes
path_words Empty = codes "cannot open: the path is empty"
path_words TooLong = codes "cannot open: the path is too long"
path_words NotUtf8 = codes "cannot open: the path is not UTF-8"

-- a path can't be opened: why, if the system tells it
unfoldable pub open_words : OpenFailed → Bytes
open_words NotFound = codes "cannot open: no such file"
open_words PermissionDenied = codes "cannot open: permission denied"
open_words NotRegular = codes "cannot open: not a regular file"
open_words Other = codes "cannot open"

unfoldable pub fault_words : FileFault → Bytes
fault_words (BadPath why) = path_words why
fault_words (CannotOpen why) = open_words why
fault_words ReadFailed = codes "read failed"
fault_words NotClassic = codes "not a netCDF classic file"
fault_words OutOfMemory = codes "out of memory"
fault_words WriteFailed = codes "write failed"

unfoldable pub file_line : Bytes → FileFault → Bytes
file_line file fault = concat_parts (codes "nccheck: " ∷ shown_path file ∷ codes ": " ∷ fault_words fault ∷ codes "\n" ∷ [])

-- what `-s`, `-V` or `-h` asks for, or what was held back could not be written
unfoldable pub flush_line : Bytes
flush_line = codes "nccheck: write failed\n"

-- ---- the command line

unfoldable pub usage_lines : Bytes
usage_lines =
    codes "usage: nccheck [-q] [-s] [-j] [-0] [-l level] [-i kinds] [file ...]\n"
    ++ codes "       nccheck -p [-0] [-l level] [-i kinds] [file ...]\n"
    ++ codes "       nccheck -k [-0] [file ...]\n"

unfoldable pub memory_line : Bytes
memory_line = codes "nccheck: out of memory\n"

unfoldable pub utf8_line : Bytes
utf8_line = codes "nccheck: an argument is not UTF-8: give paths by -0\n"

-- before the words are read: memory has run out, or an argument isn't UTF-8
unfoldable pub opt_fault_lines : OptFault → Bytes
opt_fault_lines opt.OutOfMemory = memory_line
opt_fault_lines opt.Usage = concat_parts (utf8_line ∷ usage_lines ∷ [])

-- what is said of a misuse, beside the word or the letter that is wrong
unfoldable pub misuse_words : Misuse → Bytes
misuse_words (NoOption word) = codes "no option "
misuse_words (GivenTwice letter) = codes " is given twice"
misuse_words NoValue = codes "an option has no value"
misuse_words NotWithPaths = codes "-p takes no -q, -s or -j beside it"
misuse_words NotWithFormats = codes "-k takes no option but -0 beside it"
misuse_words (NoLevel word) = codes "no level "
misuse_words (NoKind word) = codes "no kind "
misuse_words NoFile = codes "no file"

unfoldable pub misuse_text : Misuse → Bytes
misuse_text (NoOption word) = concat_parts (misuse_words (NoOption word) ∷ shown_path word ∷ [])
misuse_text (GivenTwice letter) = concat_parts ((byte "-" ∷ letter ∷ []) ∷ misuse_words (GivenTwice letter) ∷ [])
misuse_text (NoLevel word) = concat_parts (misuse_words (NoLevel word) ∷ shown_path word ∷ [])
misuse_text (NoKind word) = concat_parts (misuse_words (NoKind word) ∷ shown_path word ∷ [])
misuse_text misuse = misuse_words misuse

-- how the words are misused, and the usage; or memory has run out
unfoldable pub refusal_lines : Option Misuse → Bytes
refusal_lines None = memory_line
refusal_lines (Some misuse) = concat_parts (codes "nccheck: " ∷ misuse_text misuse ∷ codes "\n" ∷ usage_lines ∷ [])
