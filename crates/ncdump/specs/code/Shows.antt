-- For contracts. What showing the values of variables has done.
use Rattle.std.specs.Prelude.{◌≡◌, ℕ, ◌+◌, ◌*◌, ◌≤◌, ◌&&◌, ◌||◌, ◌⊎◌, nat_lt, not, Bool, true, if◌then◌else◌, List, [], ◌∷◌, ◌++◌, length, take, drop, Some, slice_get, IfSome, Result, Ok, Err}
use Rattle.std.specs.Bool.{OnTrue}
use Rattle.nc_base.specs.declared.{header.Header.Header, header.Var.Var}
use Rattle.nc_base.specs.Sizes.{is_record_var, record_count}
use Rattle.nc_types.specs.Types.{size_of}
use Rattle.nc_base.specs.HeadText.{head_text}
use Rattle.nc_base.specs.Places.{stored_values, first_missing}
use Rattle.nc_base.specs.ValueText.{look_of, variable_prefix}
use Rattle.nc_base.specs.Dump.{Options, Ending, whole, data_truncated, DataText, no_data_text, values_in_file, has_values, with_variable, variables_text, data_word, dump_text, shown_data}
use Rattle.devices.specs.Failures.{HasFailed}
use Rattle.devices.specs.Sources.{SourceView}
use Rattle.devices.specs.code.SourceReads.{having_read}
use Rattle.devices.specs.Sinks.{SinkView, append, is_transparent, Appended, FailedPartway, IsCut}
use Rattle.devices.specs.Uses.{Use, between}
use Rattle.nc_walk.specs.code.Walked.{whole_count}
use Rattle.ncdump.specs.Calls.{Call}
use Rattle.ncdump.specs.declared.fault.DumpFault.{DumpFault}
use Rattle.ncdump.specs.declared.fault.DumpFault.TheVariants.{ReadFailed, WriteFailed, DataTruncated}

-- What the text of values depends on: the header, the bytes of the file, the number of records, and the width of a line.
pub record Dumped : Type 0 where
  pub header : Header
  pub bytes : List ℕ
  pub records : ℕ
  pub width : ℕ

-- the same of the file that a source has
abbrev pub dumped : Header → SourceView → ℕ → ℕ → Dumped
dumped h source n width = record { header = h; bytes = source.bytes; records = n; width = width }

-- the sink holds a text after what it held
abbrev pub Holds : SinkView → SinkView → List ℕ → Type 0
Holds old new bytes = OnTrue (is_transparent old) (IsCut (append old bytes) new)

-- the source has failed exactly where the answer says so
abbrev pub ReadFailsOnly : {A : Type 0} → SourceView → SourceView → Result A DumpFault → Type 0
ReadFailsOnly old new (Err ReadFailed) = HasFailed old.failures new.failures
ReadFailsOnly old new _ = new.failures ≡ old.failures

-- the sink has failed exactly where the answer says so, and there is no other fault than a device's or a missing value
abbrev pub ShowsOrFails : {A : Type 0} → SinkView → SinkView → Result A DumpFault → Type 0
ShowsOrFails old new (Ok done) = new.failures ≡ old.failures
ShowsOrFails old new (Err WriteFailed) = HasFailed old.failures new.failures
ShowsOrFails old new (Err ReadFailed) = new.failures ≡ old.failures
ShowsOrFails old new (Err (DataTruncated v k)) = new.failures ≡ old.failures
ShowsOrFails old new (Err _) = ⊥

-- ---- one variable

-- the answer says whether the variable at index v has a slab over n records
abbrev pub SaysHasSlabs : Header → ℕ → ℕ → Bool → Type 0
SaysHasSlabs h v n answer = IfSome (slice_get h.vars v) (λ var. answer ≡ (nat_lt 0 n || not (is_record_var h.dims var)))

-- the answer says whether the variable is shown, that is, is selected and has a value over n records
abbrev pub SaysIsShown : Header → ℕ → ℕ → Bool → Bool → Type 0
SaysIsShown h v n is_selected answer = IfSome (slice_get h.vars v) (λ var. answer ≡ (is_selected && has_values h.dims n var))

-- the opening of a variable and its first k values
abbrev pub prefix_text : Dumped → Var → ℕ → List ℕ
prefix_text d var k = variable_prefix (look_of d.header var d.records d.width) (take k (stored_values d.header d.bytes var d.records))

-- the values of the variable at index v, with a section after them
abbrev pub values_and : Dumped → ℕ → Var → DataText → DataText
values_and d v var others =
    with_variable (look_of d.header var d.records d.width) (stored_values d.header d.bytes var d.records) (first_missing d.header d.bytes var d.records) v others

-- with nothing after them
abbrev pub values_alone : Dumped → ℕ → Var → DataText
values_alone d v var = values_and d v var no_data_text

-- the number of the values before the first missing one
abbrev pub whole_values : Dumped → Var → ℕ
whole_values d var = whole_count d.header d.bytes var d.records

-- their bytes
abbrev pub whole_bytes : Dumped → Var → ℕ
whole_bytes d var = whole_values d var * size_of var.ty

-- The text of the variable's first k values was taken, as Taken says it, and no more was read than the bytes of these
-- values and one buffer: no value waits for more.
pub record KeepsUp (d : Dumped) (var : Var) (buffer_len : ℕ) (source : Use SourceView) (Taken : List ℕ → Type 0) : Type 0 where
  pub k : ℕ
  pub few : k ≤ whole_values d var
  pub taken : Taken (prefix_text d var k)
  pub handed : source.after.handed ≤ source.before.handed + k * size_of var.ty + buffer_len

-- all values are shown, or those before the first missing one
pub record IsShown (d : Dumped) (v : ℕ) (var : Var) (ending : Ending) (call : Call) : Type 0 where
  pub ends : (values_alone d v var).ending ≡ ending
  pub appended : Appended call.sink.before call.sink.after (values_alone d v var).text
  pub handed : call.source.after ≡ having_read call.source.before (whole_bytes d var)

-- a read failed after some values
pub record IsUnread (d : Dumped) (var : Var) (call : Call) : Type 0 where
  pub bytes : call.source.after.bytes ≡ call.source.before.bytes
  pub most : call.source.after.handed ≤ call.source.before.handed + whole_bytes d var
  pub keeps_up : KeepsUp d var call.buffer_len call.source (Appended call.sink.before call.sink.after)

-- a write failed, before a value was read or after some values
pub record IsUnwritten (d : Dumped) (v : ℕ) (var : Var) (call : Call) : Type 0 where
  pub bytes : call.source.after.bytes ≡ call.source.before.bytes
  pub most : call.source.after.handed ≤ call.source.before.handed + whole_bytes d var
  pub partway : FailedPartway call.sink.before call.sink.after (values_alone d v var).text
  pub keeps_up : (call.source.after ≡ call.source.before) ⊎ KeepsUp d var call.buffer_len call.source (Holds call.sink.before call.sink.after)

-- what showing the variable at index v has done
abbrev pub ShowsOne : {A : Type 0} → Dumped → ℕ → Call → Result A DumpFault → Var → Type 0
ShowsOne d v call (Ok done) var = IsShown d v var whole call
ShowsOne d v call (Err (DataTruncated w k)) var = IsShown d v var (data_truncated w k) call
ShowsOne d v call (Err ReadFailed) var = IsUnread d var call
ShowsOne d v call (Err WriteFailed) var = IsUnwritten d v var call
ShowsOne d v call (Err _) var = ⊥

-- the same, where this is the variable's index in the header
abbrev pub ShowsAt : {A : Type 0} → Dumped → ℕ → Call → Result A DumpFault → Type 0
ShowsAt d v call result = IfSome (slice_get d.header.vars v) (ShowsOne d v call result)

-- ---- the selected variables

-- the values of the selected variables from index v on
abbrev pub values_from : Dumped → List Bool → ℕ → DataText
values_from d selection v =
    variables_text (shown_data d.header (values_in_file d.header d.bytes d.records) d.records d.width) v (drop v d.header.vars) (drop v selection)

-- of all of them
abbrev pub selected_values : Dumped → List Bool → DataText
selected_values d selection = variables_text (shown_data d.header (values_in_file d.header d.bytes d.records) d.records d.width) 0 d.header.vars selection

-- the bytes of the values before the first missing one, of each of these variables that is selected and has values
abbrev pub bytes_of : Dumped → List Var → List Bool → ℕ
bytes_of d (var ∷ vars) (is_selected ∷ selection) = (if is_selected && has_values d.header.dims d.records var then whole_bytes d var else 0) + bytes_of d vars selection
bytes_of d vars selection = 0

-- what stands before the values of the variables from index v on, and n bytes of values stand for it in the file
pub record IsBefore (d : Dumped) (selection : List Bool) (v : ℕ) (prefix : List ℕ) (spent : ℕ) : Type 0 where
  pub text_is : (selected_values d selection).text ≡ prefix ++ (values_from d selection v).text
  pub ending_is : (selected_values d selection).ending ≡ (values_from d selection v).ending
  pub spent_is : bytes_of d d.header.vars selection ≡ spent + bytes_of d (drop v d.header.vars) (drop v selection)

-- The text up to and with the first k values of a selected variable was taken, as Taken says it, and no more was read
-- than the bytes of the values before it, of these k values, and one buffer.
pub record KeepsUpIn (d : Dumped) (selection : List Bool) (buffer_len : ℕ) (source : Use SourceView) (Taken : List ℕ → Type 0) : Type 0 where
  pub v : ℕ
  pub var : Var
  pub prefix : List ℕ
  pub spent : ℕ
  pub at : slice_get d.header.vars v ≡ Some var
  pub selected : slice_get selection v ≡ Some true
  pub some : has_values d.header.dims d.records var ≡ true
  pub is_before : IsBefore d selection v prefix spent
  pub keeps_up : KeepsUp d var buffer_len (between (having_read source.before spent) source.after) (λ (values : List ℕ). Taken (prefix ++ values))

-- all selected variables are shown, or all values before the first missing one
pub record AreShown (d : Dumped) (selection : List Bool) (ending : Ending) (source : Use SourceView) (Taken : DataText → Type 0) : Type 0 where
  pub ends : (selected_values d selection).ending ≡ ending
  pub taken : Taken (selected_values d selection)
  pub bytes : source.after.bytes ≡ source.before.bytes
  pub most : source.after.handed ≤ source.before.handed + bytes_of d d.header.vars selection

-- a read failed after some values
pub record AreUnread (d : Dumped) (selection : List Bool) (buffer_len : ℕ) (source : Use SourceView) (Taken : List ℕ → Type 0) : Type 0 where
  pub bytes : source.after.bytes ≡ source.before.bytes
  pub most : source.after.handed ≤ source.before.handed + bytes_of d d.header.vars selection
  pub keeps_up : KeepsUpIn d selection buffer_len source Taken

-- no value waits: no value was read, or what was read is written but for a buffer
abbrev pub IsUpToDate : Dumped → List Bool → ℕ → Use SourceView → (List ℕ → Type 0) → Type 0
IsUpToDate d selection buffer_len source Taken = (source.after ≡ source.before) ⊎ KeepsUpIn d selection buffer_len source Taken

-- a write failed, before a value was read or after some values
pub record AreUnwritten (d : Dumped) (selection : List Bool) (buffer_len : ℕ) (source : Use SourceView) (Cut : DataText → Type 0) (Taken : List ℕ → Type 0) : Type 0 where
  pub bytes : source.after.bytes ≡ source.before.bytes
  pub most : source.after.handed ≤ source.before.handed + bytes_of d d.header.vars selection
  pub partway : Cut (selected_values d selection)
  pub keeps_up : IsUpToDate d selection buffer_len source Taken

-- what showing the selected variables has done
abbrev pub ShowsSelected : {A : Type 0} → Dumped → List Bool → Call → Result A DumpFault → Type 0
ShowsSelected d selection call (Ok done) =
    AreShown d selection whole call.source (λ (section : DataText). Appended call.sink.before call.sink.after section.text)
    × IsUpToDate d selection call.buffer_len call.source (Holds call.sink.before call.sink.after)
ShowsSelected d selection call (Err (DataTruncated v k)) =
    AreShown d selection (data_truncated v k) call.source (λ (section : DataText). Appended call.sink.before call.sink.after section.text)
ShowsSelected d selection call (Err ReadFailed) = AreUnread d selection call.buffer_len call.source (Appended call.sink.before call.sink.after)
ShowsSelected d selection call (Err WriteFailed) =
    AreUnwritten d selection call.buffer_len call.source (λ (section : DataText). FailedPartway call.sink.before call.sink.after section.text) (Holds call.sink.before call.sink.after)
ShowsSelected d selection call (Err _) = ⊥

-- ---- the whole text

-- what stands before the values
abbrev pub text_before : Options → Header → ℕ → List ℕ
text_before o h n = head_text o.name h n ++ data_word h o

-- the selection that counts: nothing where the header alone is asked for
abbrev pub unless_head_only : Options → List Bool → List Bool
unless_head_only o selection = if o.head_only then [] else selection

-- What showing a file with this header, over n records, has done: the head, the values of the selected variables and the closing
-- brace; or what of that was written before the first missing value, or before a device failed.
abbrev pub Shows : {A : Type 0} → Options → Header → ℕ → List Bool → Call → Result A DumpFault → Type 0
Shows o h n shown call (Ok done) =
    AreShown (dumped h call.source.before n o.width) (unless_head_only o shown) whole call.source (λ (section : DataText). Appended call.sink.before call.sink.after (dump_text h o n section))
Shows o h n shown call (Err (DataTruncated v k)) =
    AreShown (dumped h call.source.before n o.width) (unless_head_only o shown) (data_truncated v k) call.source (λ (section : DataText). Appended call.sink.before call.sink.after (dump_text h o n section))
Shows o h n shown call (Err ReadFailed) =
    AreUnread (dumped h call.source.before n o.width) (unless_head_only o shown) call.buffer_len call.source (λ (values : List ℕ). Appended call.sink.before call.sink.after (text_before o h n ++ values))
Shows o h n shown call (Err WriteFailed) =
    AreUnwritten (dumped h call.source.before n o.width) (unless_head_only o shown) call.buffer_len call.source
    (λ (section : DataText). FailedPartway call.sink.before call.sink.after (dump_text h o n section))
    (λ (values : List ℕ). Holds call.sink.before call.sink.after (text_before o h n ++ values))
Shows o h n shown call (Err _) = ⊥

-- the same over the records that the file has by its length
abbrev pub ShowsFile : {A : Type 0} → Options → Header → List Bool → Call → Result A DumpFault → Type 0
ShowsFile o h shown call result = Shows o h (record_count h (length call.source.before.bytes)) shown call result
