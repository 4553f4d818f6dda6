-- Definition. How many files of a run were checked, and what was reported of them: the status, and the last line of `-s`.
use Rattle.std.specs.Prelude.{ℕ, ◌+◌, Bool, true, false, nat_lt, if◌then◌else◌, List, [], ◌∷◌, codes, decimal, Some, None, Result, Ok, Err, fold}
use Rattle.nc_types.specs.Bytes.{Bytes, concat_parts}
use Rattle.std.specs.List.{list_any}
use Rattle.nc_findings.specs.Kinds.{kind_of}
use Rattle.nc_findings.specs.declared.{filter.Filter.Filter, finding.Finding.Finding, kind.Kind.Kind}
use Rattle.nc_findings.specs.declared.kind.Kind.TheVariants.{Hdf5, Gzip}
use Rattle.nc_findings.specs.declared.kind.Severity.TheVariants.{Error, Violation, Note}
use Rattle.check_lines.specs.Lines.{gravest}
use Rattle.check_options.specs.declared.options.Form.{Form}
use Rattle.check_options.specs.declared.options.Form.TheVariants.{Objects}
use Rattle.nccheck.specs.declared.{fault.FileFault.FileFault, tally.Outcome.Outcome, tally.SummaryCount.SummaryCount, tally.Tally.Tally}
use Rattle.nccheck.specs.declared.tally.Outcome.TheVariants.{Reported, NothingReported, OtherFormat}
use Rattle.nccheck.specs.declared.tally.SummaryCount.TheVariants.{Checked, WithErrors, WithViolations, WithNotes, WithNothing, OtherFormats, NotChecked}

-- ---- one file

-- findings of this kind are about a file of another format, which the rules say nothing of
abbrev pub is_other_format : Kind → Bool
is_other_format Hdf5 = true
is_other_format Gzip = true
is_other_format kind = false

-- the file of these findings has another format
abbrev pub has_other_format : List Finding → Bool
has_other_format findings = list_any (λ (f : Finding). is_other_format (kind_of f.fact)) findings

-- what came of a file with these findings: the gravest severity that was reported, or none, of a classic file or one of another format
abbrev pub outcome_of : Filter → List Finding → Outcome
outcome_of filter findings = elim (gravest filter findings) [
  | Some severity ↦ Reported severity
  | None ↦ if has_other_format findings then OtherFormat else NothingReported
]

-- what came of a path: that of its file, or a fault
abbrev pub Answer : Type 0
Answer = Result Outcome FileFault

-- ---- all files

abbrev pub no_files : Tally
no_files = record { with_errors = 0; with_violations = 0; with_notes = 0; with_nothing = 0; other_formats = 0; not_checked = 0 }

-- the tally with one more file, counted by what came of it
abbrev pub counted : Tally → Answer → Tally
counted t (Ok (Reported Error)) = record t { with_errors = t.with_errors + 1 }
counted t (Ok (Reported Violation)) = record t { with_violations = t.with_violations + 1 }
counted t (Ok (Reported Note)) = record t { with_notes = t.with_notes + 1 }
counted t (Ok NothingReported) = record t { with_nothing = t.with_nothing + 1 }
counted t (Ok OtherFormat) = record t { other_formats = t.other_formats + 1 }
counted t (Err fault) = record t { not_checked = t.not_checked + 1 }

abbrev pub tally_of : List Answer → Tally
tally_of answers = fold counted no_files answers

-- how many files were checked: those of other formats, of which nothing was reported, aren't among them
abbrev pub checked : Tally → ℕ
checked t = t.with_errors + t.with_violations + t.with_notes + t.with_nothing

-- how many there were
abbrev pub total : Tally → ℕ
total t = checked t + t.other_formats + t.not_checked

-- the status of a run over these files
abbrev pub status_of : Tally → ℕ
status_of t =
    if nat_lt 0 t.not_checked then 2
    else if nat_lt 0 (t.with_errors + t.with_violations + t.with_notes) then 1
    else 0

-- the words after a count
unfoldable pub count_words : SummaryCount → Bytes
count_words Checked = codes " checked: "
count_words WithErrors = codes " with errors, "
count_words WithViolations = codes " with violations, "
count_words WithNotes = codes " with notes, "
count_words WithNothing = codes " with nothing to report; "
count_words OtherFormats = codes " of other formats; "
count_words NotChecked = codes " not checked\n"

unfoldable pub count_text : ℕ → SummaryCount → Bytes
count_text n count = concat_parts (decimal n ∷ count_words count ∷ [])

unfoldable pub reported_text : Tally → Bytes
reported_text t = concat_parts (
    count_text t.with_errors WithErrors ∷
    count_text t.with_violations WithViolations ∷
    count_text t.with_notes WithNotes ∷
    count_text t.with_nothing WithNothing ∷ [])

-- the line of `-s`
unfoldable pub summary_line : Tally → Bytes
summary_line t = concat_parts (
    count_text (checked t) Checked ∷ reported_text t ∷ count_text t.other_formats OtherFormats ∷ count_text t.not_checked NotChecked ∷ [])

-- the text before a count in the object of `-s` beside `-j`
unfoldable pub member_words : SummaryCount → Bytes
member_words Checked = codes "{\"checked\":"
member_words WithErrors = codes ",\"errors\":"
member_words WithViolations = codes ",\"violations\":"
member_words WithNotes = codes ",\"notes\":"
member_words WithNothing = codes ",\"nothing_to_report\":"
member_words OtherFormats = codes ",\"other_formats\":"
member_words NotChecked = codes ",\"not_checked\":"

unfoldable pub member_text : ℕ → SummaryCount → Bytes
member_text n count = concat_parts (member_words count ∷ decimal n ∷ [])

unfoldable pub reported_members : Tally → Bytes
reported_members t = concat_parts (
    member_text t.with_errors WithErrors ∷
    member_text t.with_violations WithViolations ∷
    member_text t.with_notes WithNotes ∷
    member_text t.with_nothing WithNothing ∷ [])

unfoldable pub summary_object : Tally → Bytes
summary_object t = concat_parts (
    member_text (checked t) Checked ∷
    reported_members t ∷
    member_text t.other_formats OtherFormats ∷
    member_text t.not_checked NotChecked ∷ codes "}\n" ∷ [])

-- beside `-p` there is no `-s`
abbrev pub summary : Form → Tally → Bytes
summary Objects t = summary_object t
summary form t = summary_line t
