-- For contracts. The items of a run, counted, and the bytes of a list, taken one after the other.
use Rattle.std.specs.Prelude.{◌≡◌, MatchBool, true, false, List, [], ◌++◌, fold, map, Option, Some, None}
use Rattle.nc_types.specs.Bytes.{Bytes}
use Rattle.devices.specs.Readers.{ReaderView}
use Rattle.check_options.specs.CommandLine.{Asked}
use Rattle.nccheck.specs.PathLists.{Item, items_after, ListEnd, Path}
use Rattle.nccheck.specs.Runs.{has_ended, Openings, ReadsList, RunsOver, State}
use Rattle.nccheck.specs.Tallies.{Answer, counted, no_files}
use Rattle.nccheck.specs.declared.tally.Tally.{Tally}

-- those of these answers were counted too, or a fault has ended the run
abbrev pub IsCount : Tally → List Answer → Option Tally → Type 0
IsCount before answers (Some after) = (after ≡ fold counted before answers) × (has_ended answers ≡ false)
IsCount before answers None = has_ended answers ≡ true

-- the items were checked in turn, as `RunsOver` says, and counted from `before` to `after`
pub record Counts {P : Type 0} (o : Openings P) (a : Asked) (items : List Item) (old new : State P) (before : Tally) (after : Option Tally)
    : Type 0 where
  pub answers : List Answer
  pub runs : RunsOver o a items old new answers
  pub counts : IsCount before answers after

-- these bytes, after a path begun, give these items, and then another path is begun
pub record Gives (bytes begun now : Bytes) (items : List Item) : Type 0 where
  pub is : (end : ListEnd) (more : Bytes) → items_after end begun (bytes ++ more) ≡ items ++ items_after end now more

-- they give these items first
pub record GivesFirst (bytes begun : Bytes) (items : List Item) : Type 0 where
  pub others : ListEnd → Bytes → List Item
  pub is : (end : ListEnd) (more : Bytes) → items_after end begun (bytes ++ more) ≡ items ++ others end more

-- the items of these bytes were checked, or those up to one whose fault ends the run
abbrev pub TakesItems : Bytes → Bytes → Bytes → List Item → Option Tally → Type 0
TakesItems bytes begun now items (Some after) = Gives bytes begun now items
TakesItems bytes begun now items None = GivesFirst bytes begun items

-- the items of these bytes were checked and counted; a path was `begun` before them, and `now` one is begun
pub record Takes {P : Type 0} (o : Openings P) (a : Asked) (bytes begun now : Bytes) (old new : State P) (before : Tally) (after : Option Tally)
    : Type 0 where
  pub items : List Item
  pub counts : Counts o a items old new before after
  pub takes : TakesItems bytes begun now items after

-- the items of the list were counted
pub record CountsList {P : Type 0} (o : Openings P) (a : Asked) (first last : ReaderView) (old new : State P) (before : Tally)
    (after : Option Tally) : Type 0 where
  pub items : List Item
  pub reads : ReadsList first last items
  pub counts : Counts o a items old new before after

-- the files of the words were counted, and then the items of the list, if it is asked for
pub record CountsAll {P : Type 0} (o : Openings P) (a : Asked) (first last : ReaderView) (old new : State P) (after : Option Tally)
    : Type 0 where
  pub items : List Item
  pub reads : MatchBool a.reads_paths_from_input (ReadsList first last items) ((last ≡ first) × (items ≡ []))
  pub counts : Counts o a (map Path a.files ++ items) old new no_files after
