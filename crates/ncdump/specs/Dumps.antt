-- Definition. What a call of `dump` has done. `Dumps` and `ReadsForward` hold if the source is transparent.
use Rattle.std.specs.Prelude.{ℕ, ◌≡◌, ◌+◌, ◌⊎◌, ◌++◌, length, None, Result, Ok, Err}
use Rattle.nc_types.specs.Bytes.{Bytes}
use Rattle.nc_base.specs.declared.header.Header.{Header}
use Rattle.nc_base.specs.Grammar.{SpellsHeader}
use Rattle.nc_base.specs.Sizes.{record_count}
use Rattle.nc_base.specs.Dump.{Options, Ending, whole, wrong_field, no_such_variable, data_truncated, first_unknown, selection_of, IsDump}
use Rattle.devices.specs.Failures.{HasFailed}
use Rattle.devices.specs.Sources.{SourceView}
use Rattle.nc_file.specs.code.Answers.{EndsAt}
use Rattle.nc_window.specs.code.Window.{ReadUpTo}
use Rattle.devices.specs.Sinks.{SinkView, Appended, FailedPartway}
use Rattle.devices.specs.Uses.{between}
use Rattle.ncdump.specs.Calls.{Call}
use Rattle.ncdump.specs.code.Shows.{Shows}
use Rattle.ncdump.specs.declared.{fault.DumpFault.DumpFault, options.DumpOptions.DumpOptions}
use Rattle.ncdump.specs.declared.fault.DumpFault.TheVariants.{OutOfMemory, ReadFailed, WriteFailed, Format, NoSuchVariable, DataTruncated}

abbrev pub options_of : DumpOptions → Options
options_of o = record { name = o.name; head_only = o.head_only; coords = o.coords; chosen = o.chosen; width = o.width }

-- The sink has failed exactly if the answer says so. Nothing was written if memory ran out, if the header is wrong, or if a chosen name is
-- unknown.
abbrev pub WriteFailsOnly : {A : Type 0} → SinkView → SinkView → Result A DumpFault → Type 0
WriteFailsOnly old new (Ok done) = new.failures ≡ old.failures
WriteFailsOnly old new (Err WriteFailed) = HasFailed old.failures new.failures
WriteFailsOnly old new (Err ReadFailed) = new.failures ≡ old.failures
WriteFailsOnly old new (Err (DataTruncated v k)) = new.failures ≡ old.failures
WriteFailsOnly old new (Err _) = new ≡ old

-- ---- the text

-- the dump with this ending was written
pub record IsWritten (bytes : Bytes) (o : Options) (ending : Ending) (old new : SinkView) : Type 0 where
  pub text : Bytes
  pub is_dump : IsDump bytes o text ending
  pub appended : Appended old new text

-- a prefix of the dump was written, before the sink failed
pub record IsCutShort (bytes : Bytes) (o : Options) (old new : SinkView) : Type 0 where
  pub text : Bytes
  pub ending : Ending
  pub is_dump : IsDump bytes o text ending
  pub partway : FailedPartway old new text

-- a prefix of the dump was written, before the source failed
pub record IsLeftOff (bytes : Bytes) (o : Options) (old new : SinkView) : Type 0 where
  pub prefix : Bytes
  pub rest : Bytes
  pub ending : Ending
  pub is_dump : IsDump bytes o (prefix ++ rest) ending
  pub appended : Appended old new prefix

-- what was written, by the answer
abbrev pub Dumps : {A : Type 0} → Bytes → Options → SinkView → SinkView → Result A DumpFault → Type 0
Dumps bytes o old new (Ok done) = IsWritten bytes o whole old new
Dumps bytes o old new (Err (DataTruncated v k)) = IsWritten bytes o (data_truncated v k) old new
Dumps bytes o old new (Err (Format fault)) = IsWritten bytes o (wrong_field fault) old new
Dumps bytes o old new (Err (NoSuchVariable index)) = IsWritten bytes o (no_such_variable index) old new
Dumps bytes o old new (Err OutOfMemory) = new ≡ old
Dumps bytes o old new (Err ReadFailed) = (new ≡ old) ⊎ IsLeftOff bytes o old new
Dumps bytes o old new (Err WriteFailed) = IsCutShort bytes o old new

-- ---- one forward pass

-- the call, from this state of the source on
abbrev pub rest_of : SourceView → Call → Call
rest_of here call = record call { source = between here call.source.after }

-- the header and at most one buffer more were read, and then the selected variables shown
pub record IsAfterHeader {A : Type 0} (o : Options) (call : Call) (result : Result A DumpFault) : Type 0 where
  pub h : Header
  pub rest : Bytes
  pub end : ℕ
  -- the source after the header
  pub here : SourceView
  pub spelled : SpellsHeader call.source.before.bytes h rest
  pub ends : end + length rest ≡ length call.source.before.bytes
  -- each chosen name is known
  pub knows : first_unknown h.vars o.chosen ≡ None
  pub bytes : here.bytes ≡ call.source.before.bytes
  pub handed : ReadUpTo call.source.before.handed here.handed end call.buffer_len
  pub shows : Shows o h (record_count h (length call.source.before.bytes)) (selection_of h o) (rest_of here call) result

-- at most one buffer was read after the end of the header, or of its first wrong field
pub record IsInHeader (call : Call) : Type 0 where
  pub end : ℕ
  pub ends : EndsAt call.source.before.bytes end
  pub handed : ReadUpTo call.source.before.handed call.source.after.handed end call.buffer_len

-- reading broke off in the header, with nothing written, or after it
pub data IsUnread {A : Type 0} (o : Options) (call : Call) (result : Result A DumpFault) : Type 0 where
  in_header : IsInHeader call → call.sink.after ≡ call.sink.before → IsUnread o call result
  after_header : IsAfterHeader o call result → IsUnread o call result

-- after the header, only values that are shown were read; with a fault of the header, an unknown name or out of memory, none were
abbrev pub ReadsForward : {A : Type 0} → Options → Call → Result A DumpFault → Type 0
ReadsForward o call (Ok done) = IsAfterHeader o call (Ok done)
ReadsForward o call (Err (DataTruncated v k)) = IsAfterHeader {A = Unit {0}} o call (Err (DataTruncated v k))
ReadsForward o call (Err WriteFailed) = IsAfterHeader {A = Unit {0}} o call (Err WriteFailed)
ReadsForward o call (Err ReadFailed) = IsUnread {A = Unit {0}} o call (Err ReadFailed)
ReadsForward o call (Err other) = IsInHeader call
