-- Definition. What the words of the command line ask for.
use Rattle.std.specs.Prelude.{ℕ, ◌==◌, ◌&&◌, List, [], ◌∷◌, codes, Option, Some, None, option_map, unwrap_or, fold, if◌then◌else◌}
use Rattle.std.specs.Str.{byte}
use Rattle.std.specs.Int.{is_in_range}
use Rattle.std.specs.Char.{is_ascii_digit}
use Rattle.std.specs.List.{list_all, slice_split}
use Rattle.std.specs.Str.Parse.{digits_value}
use Rattle.nc_types.specs.Bytes.{Bytes}
use Rattle.clap.specs.Words.{App, Row, fault_of, first_of, matches_of, new_app, new_rule, with_rule}
use Rattle.cli_base.specs.Arguments.{flag, is_given, option, quiet, if_faultless}
use Rattle.nc_base.specs.Dump.{Options}
use Rattle.nc_base.specs.Paths.{stem_of}

-- ---- the command, as a parse reads it

-- `ncdump [-h] [-c] [-v names] [-n name] [-l width] file`
unfoldable pub ncdump : App
ncdump = fold with_rule (quiet (new_app (codes "ncdump"))) (
    flag (codes "head") (codes "h") ∷
    flag (codes "coords") (codes "c") ∷
    option (codes "names") (codes "v") ∷
    option (codes "name") (codes "n") ∷
    option (codes "width") (codes "l") ∷
    new_rule (codes "file") ∷ [])

-- ---- what its entries ask for

-- a number from 20 to 1000, in decimal digits
abbrev pub width_said : Bytes → Option ℕ
width_said word =
    if list_all is_ascii_digit word && is_in_range 20 1000 (digits_value 10 word) then Some (digits_value 10 word) else None

-- that of `-l`, otherwise 80
abbrev pub width_in : Option Bytes → Option ℕ
width_in None = Some 80
width_in (Some word) = width_said word

abbrev pub names_in : Bytes → List Bytes
names_in word = slice_split (λ (b : ℕ). b == byte ",") word

-- the path of a file, and what to show of it
pub record Asked : Type 0 where
  pub file : Bytes
  pub options : Options

-- the entries, with the path and the width that they give
abbrev pub asked_with : List Row → Option Bytes → Option ℕ → Option Asked
asked_with rows (Some path) (Some width) = Some (record {
  file = path;
  options = record {
    name = unwrap_or (first_of (codes "name") rows) (stem_of path);
    head_only = is_given rows (codes "head");
    coords = is_given rows (codes "coords");
    chosen = option_map names_in (first_of (codes "names") rows);
    width = width;
  };
})
asked_with rows path width = None

-- `-h` and `-c` exclude each other
unfoldable pub asked_in : List Row → Option Asked
asked_in rows = if is_given rows (codes "head") && is_given rows (codes "coords") then None
    else asked_with rows (first_of (codes "file") rows) (width_in (first_of (codes "width") rows))

-- the first word is the program's name
unfoldable pub asked_by : List Bytes → Option Asked
asked_by words = if_faultless (fault_of ncdump words) (asked_in (matches_of ncdump words))
