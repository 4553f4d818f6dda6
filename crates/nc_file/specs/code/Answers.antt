-- For contracts. What reading a header answers, for the bytes of a source that is transparent.
use Rattle.std.specs.Bool.{OnTrue}
use Rattle.std.specs.Prelude.{◌≡◌, Bool, ℕ, ◌+◌, ◌≤◌, List, length, Result, Ok, Err}
use Rattle.nc_base.specs.declared.{fault.FormatFault.FormatFault, header.Header.Header}
use Rattle.nc_base.specs.Headers.{IsSound, HasValidNames}
use Rattle.nc_base.specs.Grammar.{SpellsHeader, StopsAt}
use Rattle.devices.specs.Sources.{SourceView}
use Rattle.nc_window.specs.code.Window.{ReadUpTo}
use Rattle.nc_window.specs.declared.head_fault.HeadFault.{HeadFault}
use Rattle.nc_window.specs.declared.head_fault.HeadFault.TheVariants.{OutOfMemory, ReadFailed, Format}

-- at least n bytes were read in between
abbrev pub ReadAtLeast : SourceView → SourceView → ℕ → Type 0
ReadAtLeast old new n = old.handed + n ≤ new.handed

-- The bytes begin with a spelling of the header, with this rest after it. The header is sound and has valid names.
pub record IsRead (bytes : List ℕ) (before after buffer_len : ℕ) (h : Header) : Type 0 where
  pub rest : List ℕ
  pub end : ℕ
  pub spelled : SpellsHeader bytes h rest
  pub ends : end + length rest ≡ length bytes
  pub handed : ReadUpTo before after end buffer_len
  pub sound : IsSound h
  pub names : HasValidNames h

-- the first wrong field has this fault, and ends here
pub record IsRefused (bytes : List ℕ) (before after buffer_len : ℕ) (fault : FormatFault) : Type 0 where
  pub end : ℕ
  pub stops : StopsAt bytes fault end
  pub handed : ReadUpTo before after end buffer_len

-- the header ends here, or its first wrong field
pub data EndsAt (bytes : List ℕ) (end : ℕ) : Type 0 where
  header_end : (h : Header) (rest : List ℕ) → SpellsHeader bytes h rest → end + length rest ≡ length bytes → EndsAt bytes end
  fault_end : (fault : FormatFault) → StopsAt bytes fault end → EndsAt bytes end

-- reading broke off before the header's end, or that of its first wrong field
pub record IsInterrupted (bytes : List ℕ) (before after buffer_len : ℕ) : Type 0 where
  pub end : ℕ
  pub ends : EndsAt bytes end
  pub handed : ReadUpTo before after end buffer_len

abbrev pub Answers : List ℕ → ℕ → ℕ → ℕ → Result Header HeadFault → Type 0
Answers bytes before after buffer_len (Ok h) = IsRead bytes before after buffer_len h
Answers bytes before after buffer_len (Err (Format fault)) = IsRefused bytes before after buffer_len fault
Answers bytes before after buffer_len (Err OutOfMemory) = IsInterrupted bytes before after buffer_len
Answers bytes before after buffer_len (Err ReadFailed) = IsInterrupted bytes before after buffer_len

-- the answer is right for the bytes that the source had
pub record HasAnswered (bytes : List ℕ) (before after buffer_len : ℕ) (result : Result Header HeadFault) : Type 0 where
  pub answer : Answers bytes before after buffer_len result

-- the same of the views of a source before and after, where it is transparent
abbrev pub AnswersIn : Bool → SourceView → SourceView → List ℕ → Result Header HeadFault → Type 0
AnswersIn is_transparent old new buffer result = OnTrue is_transparent (HasAnswered old.bytes old.handed new.handed (length buffer) result)
