-- Definition. What a run of the program has done.
use Rattle.std.specs.Prelude.{ℕ, ◌≡◌, ◌+◌, ◌^◌, ◌≤◌, ◌⊎◌, Bool, true, false, if◌then◌else◌, List, [], ◌∷◌, ◌++◌, codes, length, map, Option, Some, None, is_some, IfSome, IsOkAnd, IsSomeAnd, MatchBool, MatchOption, Result, Ok, Err, unwrap_or}
use Rattle.std.specs.Bool.{OnTrue}
use Rattle.std.specs.Io.KnownBytes.{Consumes}
use Rattle.std.specs.List.{list_any}
use Rattle.nc_types.specs.Bytes.{Bytes}
use Rattle.devices.specs.Failures.{HasFailed, one_more}
use Rattle.devices.specs.Openers.{OpenerView, refuse}
use Rattle.devices.specs.Readers.{ReaderView}
use Rattle.devices.specs.Sinks.{SinkView, Appended, FailedPartway}
use Rattle.devices.specs.Uses.{Use}
use Rattle.devices.specs.declared.fault.OpenFailed.TheVariants.{NotFound}
use Rattle.nc_report.specs.Reports.{IsReport}
use Rattle.nc_findings.specs.declared.listing.Listing.{Listing}
use Rattle.nc_findings.specs.declared.{filter.Filter.Filter, finding.Finding.Finding, report.Report.Report}
use Rattle.check_lines.specs.Json.{json_lines}
use Rattle.check_lines.specs.Lines.{gravest, lines}
use Rattle.check_options.specs.CommandLine.{Asked, asked_by}
use Rattle.check_options.specs.Misuse.{Misuse}
use Rattle.check_options.specs.declared.options.Form.{Form}
use Rattle.check_options.specs.declared.options.Form.TheVariants.{Lines, Objects, Paths}
use Rattle.nccheck.specs.Faults.{file_line, flush_line, refusal_lines}
use Rattle.nccheck.specs.Formats.{format_line, format_of}
use Rattle.nccheck.specs.Info.{info_in, info_text}
use Rattle.nccheck.specs.PathLists.{path_fault, Item, items_in, ListEnd, Path, Unread, Whole, Broken}
use Rattle.nccheck.specs.Tallies.{Answer, outcome_of, status_of, summary, tally_of}
use Rattle.nccheck.specs.declared.{fault.FileFault.FileFault, info.Info.Info, tally.Outcome.Outcome}
use Rattle.nccheck.specs.declared.tally.Outcome.TheVariants.{NothingReported}
use Rattle.nccheck.specs.declared.fault.FileFault.TheVariants.{BadPath, CannotOpen, NotClassic, ReadFailed, OutOfMemory, WriteFailed}

-- ---- the check of one file

-- what is written of these findings in each form
abbrev pub written : Form → Filter → Bytes → Listing → List Finding → Bytes
written Lines filter file l findings = lines filter file l findings
written Objects filter file l findings = json_lines filter file l findings
written Paths filter file l findings = if is_some (gravest filter findings) then file ++ 0 ∷ [] else []

-- what is asked for of them: nothing in a quiet run
abbrev pub shown : Asked → Bytes → Listing → List Finding → Bytes
shown a file l findings = if a.is_quiet then [] else written a.form a.filter file l findings

-- the file has these bytes; what is asked for of its findings was written, and this came of it
pub record Checks (a : Asked) (bytes file : Bytes) (old new : SinkView) (came : Outcome) : Type 0 where
  pub report : Report
  pub is_report : IsReport bytes report
  pub text : Appended old new (shown a file report.listing report.findings)
  pub said : came ≡ outcome_of a.filter report.findings

-- the file has these bytes, and a prefix of that was written before standard output failed (a quiet run writes nothing)
pub record BreaksOff (a : Asked) (bytes file : Bytes) (old new : SinkView) : Type 0 where
  pub report : Report
  pub is_report : IsReport bytes report
  pub not_quiet : a.is_quiet ≡ false
  pub partway : FailedPartway old new (shown a file report.listing report.findings)

-- what was written of the findings of a file with these bytes
abbrev pub Reports : Asked → Bytes → Bytes → SinkView → SinkView → Answer → Type 0
Reports a bytes file old new (Ok came) = Checks a bytes file old new came
Reports a bytes file old new (Err WriteFailed) = BreaksOff a bytes file old new
Reports a bytes file old new (Err ReadFailed) = new ≡ old
Reports a bytes file old new (Err OutOfMemory) = new ≡ old
Reports a bytes file old new (Err fault) = ⊥

-- a line tells the format of a file with these bytes, or it has none
abbrev pub TellsFormat : Bytes → SinkView → SinkView → Answer → Type 0
TellsFormat bytes old new (Ok came) = IsSomeAnd (format_of bytes) (λ format. Appended old new (format_line format)) × (came ≡ NothingReported)
TellsFormat bytes old new (Err WriteFailed) = IsSomeAnd (format_of bytes) (λ format. FailedPartway old new (format_line format))
TellsFormat bytes old new (Err NotClassic) = (format_of bytes ≡ None) × (new ≡ old)
TellsFormat bytes old new (Err ReadFailed) = new ≡ old
TellsFormat bytes old new (Err OutOfMemory) = new ≡ old
TellsFormat bytes old new (Err fault) = ⊥

-- what was written of a file with these bytes
abbrev pub ChecksBytes : Asked → Bytes → Bytes → SinkView → SinkView → Answer → Type 0
ChecksBytes a bytes file old new answer = MatchBool a.tells_formats (TellsFormat bytes old new answer) (Reports a bytes file old new answer)

-- there is no such file, and nothing was written
abbrev pub Unopened : SinkView → SinkView → Answer → Type 0
Unopened old new answer = (answer ≡ Err (CannotOpen NotFound)) × (new ≡ old)

-- what was written of a path that names these bytes, or none
abbrev pub ChecksNamed : Asked → Option Bytes → Bytes → SinkView → SinkView → Answer → Type 0
ChecksNamed a (Some bytes) file old new answer = ChecksBytes a bytes file old new answer
ChecksNamed a None file old new answer = Unopened old new answer

-- a source has failed exactly if the answer says so
abbrev pub ReadFailsOnly : {A : Type 0} → ℕ → ℕ → Result A FileFault → Type 0
ReadFailsOnly old new (Err ReadFailed) = HasFailed old new
ReadFailsOnly old new _ = new ≡ old

-- standard output has failed exactly if the answer says so; with any other fault nothing was written
abbrev pub WriteFailsOnly : {A : Type 0} → SinkView → SinkView → Result A FileFault → Type 0
WriteFailsOnly old new (Ok done) = new.failures ≡ old.failures
WriteFailsOnly old new (Err WriteFailed) = HasFailed old.failures new.failures
WriteFailsOnly old new (Err _) = new ≡ old

-- a path could not be opened exactly if the answer says so, with the reason that the opener gave
abbrev pub RefusesOnly : {A : Type 0} → OpenerView → OpenerView → Result A FileFault → Type 0
RefusesOnly old new (Err (BadPath why)) = ⊥
RefusesOnly old new (Err (CannotOpen why)) = new.refusals ≡ refuse old.refusals why
RefusesOnly old new _ = new.refusals ≡ old.refusals

-- the opener was asked for one path; that it could not open it, or that a source has failed, is so exactly if the answer says so
pub record OpensFile {A : Type 0} (old new : OpenerView) (answer : Result A FileFault) : Type 0 where
  pub opens : new.opens ≡ one_more old.opens
  pub refusals : RefusesOnly old new answer
  pub reads : ReadFailsOnly old.failures new.failures answer

-- ---- one path of a run

-- how a run sees what opens paths; the bytes that a path names, if any, are known where what is opened is transparent
pub record Openings (P : Type 0) : Type 0 where
  pub is_transparent : Bool
  pub named : Bytes → Option Bytes
  pub view : P → OpenerView

-- what opens paths, standard output and standard error, at some time of a run
pub record State (P : Type 0) : Type 0 where
  pub opener : P
  pub out : SinkView
  pub err : SinkView

abbrev pub openings : {P : Type 0} → Bool → (Bytes → Option Bytes) → (P → OpenerView) → Openings P
openings is_transparent named view = record { is_transparent = is_transparent; named = named; view = view }

abbrev pub state : {P O E : Type 0} → (O → SinkView) → (E → SinkView) → P → O → E → State P
state out_view err_view opener out err = record { opener = opener; out = out_view out; err = err_view err }

-- it was written, or a prefix of it
abbrev pub IsTold : SinkView → SinkView → Bytes → Type 0
IsTold old new text = Appended old new text ⊎ FailedPartway old new text

-- the line of a fault was written to standard error, or a prefix of it
abbrev pub Tells : Bytes → SinkView → SinkView → Answer → Type 0
Tells file old new (Ok came) = new ≡ old
Tells file old new (Err fault) = IsTold old new (file_line file fault)

-- the path was checked with this answer, and a fault was told
pub record ChecksPath {P : Type 0} (o : Openings P) (a : Asked) (file : Bytes) (old new : State P) (answer : Answer)
    : Type 0 where
  pub opens : OpensFile (o.view old.opener) (o.view new.opener) answer
  pub writes : WriteFailsOnly old.out new.out answer
  pub checks : OnTrue o.is_transparent (ChecksNamed a (o.named file) file old.out new.out answer)
  pub tells : Tells file old.err new.err answer

-- nothing was opened or written but the line of this fault
pub record Fails {P : Type 0} (file : Bytes) (fault : FileFault) (old new : State P) (answer : Answer) : Type 0 where
  pub opener : new.opener ≡ old.opener
  pub out : new.out ≡ old.out
  pub is : answer ≡ Err fault
  pub tells : Tells file old.err new.err answer

-- what came of a path, or of a list that can't be read on
abbrev pub ChecksItem : {P : Type 0} → Openings P → Asked → Item → State P → State P → Answer → Type 0
ChecksItem o a (Path file) old new answer =
    MatchOption (path_fault file) (ChecksPath o a file old new answer) (λ why. Fails file (BadPath why) old new answer)
ChecksItem o a Unread old new answer = Fails (codes "-") ReadFailed old new answer

-- ---- the items of a run, in turn

-- a failed standard output ends the run
abbrev pub ends_run : Answer → Bool
ends_run (Err WriteFailed) = true
ends_run answer = false

-- the item was checked, and then, unless the run ended there, what `Others` says
pub record ChecksFirst {P : Type 0} (o : Openings P) (a : Asked) (item : Item) (old new : State P) (answers : List Answer)
    (Others : State P → State P → List Answer → Type 0) : Type 0 where
  pub mid : State P
  pub answer : Answer
  pub others : List Answer
  pub first : ChecksItem o a item old mid answer
  pub goes_on : MatchBool (ends_run answer) ((new ≡ mid) × (others ≡ [])) (Others mid new others)
  pub all : answers ≡ answer ∷ others

-- the items were checked in turn, with these answers, up to one whose fault ends the run
abbrev pub RunsOver : {P : Type 0} → Openings P → Asked → List Item → State P → State P → List Answer → Type 0
RunsOver o a [] old new answers = (new ≡ old) × (answers ≡ [])
RunsOver o a (item ∷ items) old new answers = ChecksFirst o a item old new answers (RunsOver o a items)

-- a fault has ended the run
abbrev pub has_ended : List Answer → Bool
has_ended answers = list_any ends_run answers

-- how a run ends before the last flush: with a status, or since standard output has failed, which was told
abbrev pub Ending : Type 0
Ending = Option ℕ

-- the text was written to standard output after the run had this status; if that failed, the line of a failure was written to standard
-- error, or a prefix of it
abbrev pub Writes : {P : Type 0} → Bytes → State P → State P → ℕ → Ending → Type 0
Writes text mid new before (Some status) = Appended mid.out new.out text × (new.err ≡ mid.err) × (status ≡ before)
Writes text mid new before None = FailedPartway mid.out new.out text × IsTold mid.err new.err flush_line

-- ---- the list on standard input

-- a list of these bytes can be read: they are all that there is, if that is known, or the reader has failed after them (a list isn't read
-- on either after 2^64 - 1 bytes)
abbrev pub HasBytes : ListEnd → ReaderView → ReaderView → Bytes → Type 0
HasBytes Whole old new bytes = IfSome old.remaining (λ all. bytes ≡ all) × (new.failures ≡ old.failures)
HasBytes Broken old new bytes =
    Consumes old.remaining new.remaining bytes × (HasFailed old.failures new.failures ⊎ (2 ^ 64 ≤ length bytes + 1))

pub record ReadsList (old new : ReaderView) (items : List Item) : Type 0 where
  pub bytes : Bytes
  pub end : ListEnd
  pub has : HasBytes end old new bytes
  pub is : items ≡ items_in end bytes

-- all paths of the words, and then the items of the list if it is asked for, were checked in turn, up to one whose fault ends the run; if
-- there was none, and it is asked for, a line says what came of them, or a prefix of it if standard output fails
pub record RunsFiles {P : Type 0} (o : Openings P) (a : Asked) (input : Use ReaderView) (old new : State P) (ending : Ending) : Type 0 where
  pub listed : List Item
  pub reads : MatchBool a.reads_paths_from_input (ReadsList input.before input.after listed) ((input.after ≡ input.before) × (listed ≡ []))
  pub answers : List Answer
  pub mid : State P
  pub runs : RunsOver o a (map Path a.files ++ listed) old mid answers
  pub opener : new.opener ≡ mid.opener
  pub ends : MatchBool (has_ended answers) ((new ≡ mid) × (ending ≡ None))
      (MatchBool a.has_summary
      (Writes (summary a.form (tally_of answers)) mid new (status_of (tally_of answers)) ending)
      ((new ≡ mid) × (ending ≡ Some (status_of (tally_of answers)))))

-- ---- the whole run

-- nothing was opened, read or written, but the lines of a command line that is misused, or for which memory ran out, to standard error, or
-- a prefix of them
pub record RefusesWords {P : Type 0} (asked : Result Asked Misuse) (input : Use ReaderView) (old new : State P) (ending : Ending) : Type 0 where
  pub misuse : Option Misuse
  pub is : IfSome misuse (λ why. asked ≡ Err why)
  pub unread : input.after ≡ input.before
  pub opener : new.opener ≡ old.opener
  pub out : new.out ≡ old.out
  pub tells : IsTold old.err new.err (refusal_lines misuse)
  pub trouble : ending ≡ Some 2

-- the words were refused, or the paths that they name were checked
abbrev pub RunsAsked : {P : Type 0} → Openings P → Result Asked Misuse → Use ReaderView → State P → State P → Ending → Type 0
RunsAsked o asked input old new ending =
    RefusesWords asked input old new ending ⊎ IsOkAnd asked (λ a. RunsFiles o a input old new ending)

-- what the program tells of itself was written, and nothing was opened or read
pub record Informs {P : Type 0} (info : Info) (input : Use ReaderView) (old new : State P) (ending : Ending) : Type 0 where
  pub unread : input.after ≡ input.before
  pub opener : new.opener ≡ old.opener
  pub writes : Writes (info_text info) old new 0 ending

-- `-V` or `-h` among the words was answered, whatever else is there; without them, what the words ask for was done
abbrev pub RunsWords : {P : Type 0} → Openings P → List Bytes → Use ReaderView → State P → State P → Ending → Type 0
RunsWords o words input old new ending =
    MatchOption (info_in words) (RunsAsked o (asked_by words) input old new ending) (λ info. Informs info input old new ending)

-- standard output was flushed after a run that ended in the first way, and so it ends in the second; of a failure that was told before,
-- nothing more is told
abbrev pub Flushes : {P : Type 0} → State P → State P → Ending → Ending → Type 0
Flushes mid new (Some before) after = Writes [] mid new before after
Flushes mid new None after = IsTold mid.out new.out [] × (new.err ≡ mid.err) × (after ≡ None)

-- the status of a run that ends in this way
abbrev pub ending_status : Ending → ℕ
ending_status ending = unwrap_or ending 2

-- the run, and then the flush of standard output
pub record Runs {P : Type 0} (o : Openings P) (words : List Bytes) (input : Use ReaderView) (old new : State P) (status : ℕ) : Type 0 where
  pub mid : State P
  pub before : Ending
  pub after : Ending
  pub runs : RunsWords o words input old mid before
  pub opener : new.opener ≡ mid.opener
  pub flushes : Flushes mid new before after
  pub is : status ≡ ending_status after
