-- Definition. What the words of the command line ask for.
use Rattle.std.specs.Prelude.{Bool, true, ◌&&◌, ◌||◌, List, [], ◌∷◌, ◌++◌, codes, Option, Some, None, option_map, is_none, fold, if◌then◌else◌}
use Rattle.std.specs.Str.{bytes_eq}
use Rattle.nc_types.specs.Bytes.{Bytes}
use Rattle.clap.specs.Words.{App, Row, fault_of, first_of, matches_of, new_app, new_rule, with_rule}
use Rattle.cli_base.specs.Arguments.{flag, is_given, option, quiet, if_faultless}
use Rattle.nc_base.specs.Paths.{stem_of}
use Rattle.nc_types.specs.declared.version.Version.{Version}
use Rattle.nc_types.specs.declared.version.Version.TheVariants.{Cdf1, Cdf2, Cdf5}

-- `ncgen [-b] [-o file] [-k kind] [file]`
unfoldable pub ncgen : App
ncgen = fold with_rule (quiet (new_app (codes "ncgen"))) (
    flag (codes "binary") (codes "b") ∷
    option (codes "output") (codes "o") ∷
    option (codes "kind") (codes "k") ∷
    new_rule (codes "file") ∷ [])

abbrev pub version_of : Bytes → Option Version
version_of word =
    if bytes_eq word (codes "classic") || bytes_eq word (codes "nc3") then Some Cdf1
    else if bytes_eq word (codes "64-bit offset") || bytes_eq word (codes "nc6") then Some Cdf2
    else if bytes_eq word (codes "64-bit data") || bytes_eq word (codes "nc5") then Some Cdf5
    else None

-- the version of `-k`; without it, CDF-1
abbrev pub version_in : Option Bytes → Option Version
version_in None = Some Cdf1
version_in (Some word) = version_of word

-- the path of the output, if any: that of `-o`, or with `-b` a name made of the text's path
abbrev pub output_in : Bool → Option Bytes → Option Bytes → Option Bytes
output_in is_binary (Some output) file = Some output
output_in true None (Some file) = Some (stem_of file ++ codes ".nc")
output_in _ None _ = None

-- what a run is to do
pub record Asked : Type 0 where
  pub version : Version
  -- the path of the output, if one is to be written
  pub output : Option Bytes
  -- the path of the text; None: standard input
  pub file : Option Bytes

-- what the entries ask for; nothing if `-b` is given, but no name for the output
unfoldable pub asked_in : List Row → Option Asked
asked_in rows =
    if is_given rows (codes "binary") && is_none (first_of (codes "output") rows) && is_none (first_of (codes "file") rows) then None
    else option_map (λ version. record {
      version = version;
      output = output_in (is_given rows (codes "binary")) (first_of (codes "output") rows) (first_of (codes "file") rows);
      file = first_of (codes "file") rows;
    }) (version_in (first_of (codes "kind") rows))

-- The first word is the program's name.
unfoldable pub asked_by : List Bytes → Option Asked
asked_by words = if_faultless (fault_of ncgen words) (asked_in (matches_of ncgen words))
