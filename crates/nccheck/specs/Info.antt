-- Definition. What `-V` and `-h` ask for, and what they write.
use Rattle.std.specs.Prelude.{◌||◌, if◌then◌else◌, List, [], ◌∷◌, ◌++◌, codes, Option, Some, None}
use Rattle.std.specs.Str.{bytes_eq}
use Rattle.nc_types.specs.Bytes.{Bytes}
use Rattle.nccheck.specs.Faults.{usage_lines}
use Rattle.nccheck.specs.declared.info.Info.{Info}
use Rattle.nccheck.specs.declared.info.Info.TheVariants.{Version, Help}

-- what the first of the words asks for that is `-V` or `-h`, or one of them in full; the words after `--` are files
abbrev pub info_among : List Bytes → Option Info
info_among [] = None
info_among (word ∷ words) =
    if bytes_eq word (codes "-V") || bytes_eq word (codes "--version") then Some Version
    else if bytes_eq word (codes "-h") || bytes_eq word (codes "--help") then Some Help
    else if bytes_eq word (codes "--") then None
    else info_among words

-- the first word is the program's name
abbrev pub info_in : List Bytes → Option Info
info_in [] = None
info_in (name ∷ words) = info_among words

unfoldable pub version_line : Bytes
version_line = codes "nccheck 0.4.0\n"

-- a line for each option
unfoldable pub option_lines : Bytes
option_lines =
    codes "  -q        write no findings\n"
    ++ codes "  -s        count the files in a last line\n"
    ++ codes "  -j        write findings as JSON objects, one a line\n"
    ++ codes "  -p        write the paths of files with findings instead, each ended by a NUL\n"
    ++ codes "  -k        write the format of each file instead: nc3, nc6 or nc5\n"
    ++ codes "  -0        also check the files that standard input lists, each path ended by a NUL\n"
    ++ codes "  -l level  report what is at least as grave: error, violation (the default) or note\n"
    ++ codes "  -i kinds  ignore findings of these kinds (a comma-separated list)\n"
    ++ codes "  -V        print the version\n"
    ++ codes "  -h        print this help\n"
    ++ codes "nccheck(1), its manual page, lists the kinds.\n"

unfoldable pub info_text : Info → Bytes
info_text Version = version_line
info_text Help = usage_lines ++ option_lines
