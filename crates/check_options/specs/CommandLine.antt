-- Definition. What the words of the command line ask for.
use Rattle.std.specs.Prelude.{◌≡◌, ℕ, ◌==◌, ◌&&◌, ◌||◌, Bool, true, false, List, [], ◌∷◌, codes, Option, Some, None, is_some, fold, if◌then◌else◌, Result, Ok, Err}
use Rattle.std.specs.List.{filter_map, list_any, slice_split}
use Rattle.std.specs.Str.{byte, bytes_eq}
use Rattle.clap.specs.Words.{App, Kinds, Row, Rule, all_of, fault_of, first_of, matches_of, new_app, new_rule, with_rule}
use Rattle.clap.specs.declared.builder.ArgAction.TheVariants.{Append}
use Rattle.cli_base.specs.Arguments.{flag, is_given, option, quiet}
use Rattle.nc_types.specs.Bytes.{Bytes}
use Rattle.nc_findings.specs.declared.{filter.Filter.Filter, kind.Kind.Kind, kind.Severity.Severity}
use Rattle.nc_findings.specs.declared.kind.Severity.TheVariants.{Error, Violation, Note}
use Rattle.check_options.specs.KindWords.{kind_named}
use Rattle.check_options.specs.Misuse.{Misuse, misuse_in, option_letters, NoFile, NoKind, NoLevel, NotWithFormats, NotWithPaths}
use Rattle.check_options.specs.declared.options.Form.{Form}
use Rattle.check_options.specs.declared.options.Form.TheVariants.{Lines, Objects, Paths}

-- ---- the command, as a parse reads it

-- words that may stand more than once
abbrev pub files_rule : Rule
files_rule = record (new_rule (codes "file")) { action = Some Append }

-- `nccheck [-q] [-s] [-j] [-p] [-k] [-0] [-l level] [-i kinds] [file ...]`
unfoldable pub nccheck : App
nccheck = fold with_rule (quiet (new_app (codes "nccheck"))) (
    flag (codes "quiet") (codes "q") ∷ flag (codes "summary") (codes "s") ∷ flag (codes "objects") (codes "j")
    ∷ flag (codes "paths") (codes "p") ∷ flag (codes "formats") (codes "k") ∷ flag (codes "list") (codes "0")
    ∷ option (codes "level") (codes "l") ∷ option (codes "ignored") (codes "i") ∷ files_rule ∷ [])

-- the letters that a misuse knows are those of the options
abbrev pub OptionsHaveLetters : Type 0
OptionsHaveLetters = filter_map (λ (rule : Rule). rule.short) nccheck.top.rules ≡ option_letters

-- ---- what its entries ask for

-- what is written of the findings of a file: with `-p` its path, with `-j` an object for each finding, otherwise a line
abbrev pub form_in : List Row → Form
form_in rows =
    if is_given rows (codes "paths") then Paths
    else if is_given rows (codes "objects") then Objects
    else Lines

-- one of these flags is given
abbrev pub any_given : List Row → List Bytes → Bool
any_given rows flags = list_any (is_given rows) flags

-- an option is given that can't stand beside `-p`
abbrev pub changes_output : List Row → Bool
changes_output rows = any_given rows (codes "quiet" ∷ codes "summary" ∷ codes "objects" ∷ [])

-- an option is given that can't stand beside `-k`
abbrev pub asks_of_findings : List Row → Bool
asks_of_findings rows =
    changes_output rows || is_given rows (codes "paths") || is_some (first_of (codes "level") rows) || is_some (first_of (codes "ignored") rows)

abbrev pub level_said : Bytes → Result Severity Misuse
level_said word =
    if bytes_eq word (codes "error") then Ok Error
    else if bytes_eq word (codes "violation") then Ok Violation
    else if bytes_eq word (codes "note") then Ok Note
    else Err (NoLevel word)

-- that of `-l`, otherwise violations
abbrev pub level_in : Option Bytes → Result Severity Misuse
level_in None = Ok Violation
level_in (Some word) = level_said word

abbrev pub kind_said : Bytes → Result Kind Misuse
kind_said word = elim (kind_named word) [ Some kind ↦ Ok kind | None ↦ Err (NoKind word) ]

-- a kind before others; the first misuse counts
abbrev pub kind_before : Result Kind Misuse → Result (List Kind) Misuse → Result (List Kind) Misuse
kind_before (Ok kind) (Ok kinds) = Ok (kind ∷ kinds)
kind_before (Ok kind) (Err misuse) = Err misuse
kind_before (Err misuse) kinds = Err misuse

abbrev pub kinds_said : List Bytes → Result (List Kind) Misuse
kinds_said [] = Ok []
kinds_said (word ∷ words) = kind_before (kind_said word) (kinds_said words)

-- those of `-i`, with commas between their words, otherwise none
abbrev pub ignored_in : Option Bytes → Result (List Kind) Misuse
ignored_in None = Ok []
ignored_in (Some word) = kinds_said (slice_split (λ (b : ℕ). b == byte ",") word)

-- without a file, those of a list alone
abbrev pub files_in : Bool → Option (List Bytes) → Result (List Bytes) Misuse
files_in reads_paths_from_input (Some files) = Ok files
files_in true None = Ok []
files_in false None = Err NoFile

-- The paths of files, and whether more are read from standard input. Either a line tells the format of each, or findings are reported: which,
-- in which form, whether at all, and whether the files are counted.
pub record Asked : Type 0 where
  pub files : List Bytes
  pub reads_paths_from_input : Bool
  pub tells_formats : Bool
  pub filter : Filter
  pub form : Form
  pub is_quiet : Bool
  pub has_summary : Bool

-- the entries, with the level, the ignored kinds and the files that they give; the first misuse counts
abbrev pub asked_with : List Row → Result Severity Misuse → Result (List Kind) Misuse → Result (List Bytes) Misuse → Result Asked Misuse
asked_with rows (Ok level) (Ok ignored) (Ok files) = Ok (record {
  files = files;
  reads_paths_from_input = is_given rows (codes "list");
  tells_formats = is_given rows (codes "formats");
  filter = record { level = level; ignored = ignored };
  form = form_in rows;
  is_quiet = is_given rows (codes "quiet");
  has_summary = is_given rows (codes "summary");
})
asked_with rows (Err misuse) ignored files = Err misuse
asked_with rows (Ok level) (Err misuse) files = Err misuse
asked_with rows (Ok level) (Ok ignored) (Err misuse) = Err misuse

unfoldable pub asked_in : List Row → Result Asked Misuse
asked_in rows =
    if is_given rows (codes "formats") && asks_of_findings rows then Err NotWithFormats
    else if is_given rows (codes "paths") && changes_output rows then Err NotWithPaths
    else asked_with rows (level_in (first_of (codes "level") rows)) (ignored_in (first_of (codes "ignored") rows))
    (files_in (is_given rows (codes "list")) (all_of (codes "file") rows))

-- what is asked for, if a parse has no fault
abbrev pub if_faultless : Kinds → Misuse → Result Asked Misuse → Result Asked Misuse
if_faultless [] misuse asked = asked
if_faultless (kind ∷ kinds) misuse asked = Err misuse

-- the first word is the program's name
unfoldable pub asked_by : List Bytes → Result Asked Misuse
asked_by words = if_faultless (fault_of nccheck words) (misuse_in words) (asked_in (matches_of nccheck words))
