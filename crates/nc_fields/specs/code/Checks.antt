-- For contracts. What a reader of a part of a header does, which lists its fields.
use Rattle.std.specs.Prelude.{◌≡◌, ◌⊎◌, ℕ, ◌++◌, List, [], ◌∷◌, length, map, take, Some, None, Result, Ok, Err}
use Rattle.std.specs.Bool.{OnTrue}
use Rattle.nc_types.specs.Bytes.{Bytes}
use Rattle.nc_base.specs.Parts.{Step, Part}
use Rattle.devices.specs.declared.source.Source.{Ghosts}
use Rattle.nc_window.specs.declared.{head_fault.HeadFault.HeadFault, window.Window.Window}
use Rattle.nc_window.specs.declared.head_fault.HeadFault.TheVariants.{OutOfMemory, ReadFailed, Format}
use Rattle.nc_base.specs.declared.fault.FormatFault.{FormatFault}
use Rattle.nc_window.specs.code.Window.{Kept, FailsOnly, Reads, left, next_of, source_of}
use Rattle.nc_fields.specs.declared.{fields.FieldReader.FieldReader, fields.PendingField.PendingField}
use Rattle.nc_findings.specs.declared.{entry.Entry.Entry, entry.Content.Content, place.Place.Place}
use Rattle.nc_findings.specs.declared.entry.Content.TheVariants.{Cut, Number}
use Rattle.nc_findings.specs.declared.entry.Content.TheVariants as content
use Rattle.nc_fields.specs.Fields.{fields}
use Rattle.nc_fields.specs.Entries.{Seen, seen, seen_by, number_in, steps_of, whole_content, cut_content}

-- a window, and the fields that were listed while it was read through
pub record Reader (S : Type 0) (g : Ghosts S) : Type 0 where
  pub window : Window S g
  pub entries : List Entry

-- a window, and the fields of this reader
abbrev pub at : {S : Type 0} {g : Ghosts S} → Window S g → FieldReader → Reader S g
at window fields = record { window = window; entries = fields.entries }

-- the fields before, and then what the rules look at in those of a part under these steps, in a file of this length
unfoldable pub listed : {A : Type 0} → ℕ → List Seen → List Step → Part A → Bytes → List Seen
listed file_len before steps part from = before ++ map (seen file_len) (fields steps part from)

-- the last field has this fault
unfoldable pub with_fault : FormatFault → List Seen → List Seen
with_fault fault [] = []
with_fault fault (f ∷ fs) = elim fs [ [] ↦ record f { fault = Some fault } ∷ [] | next ∷ later ↦ f ∷ with_fault fault fs ]

-- The fields of the part were listed after those before, if neither the device nor memory has failed; the fault isn't listed yet.
abbrev pub Lists : {S A : Type 0} {g : Ghosts S} → Reader S g → Reader S g → List Step → Part A → Result A HeadFault → Type 0
Lists {g = g} old new steps part (Ok x) =
    OnTrue g.is_transparent (map seen_by new.entries ≡ listed (length (source_of old.window).bytes) (map seen_by old.entries) steps part (left old.window))
Lists {g = g} old new steps part (Err (Format fault)) =
    OnTrue g.is_transparent
    (with_fault fault (map seen_by new.entries) ≡ listed (length (source_of old.window).bytes) (map seen_by old.entries) steps part (left old.window))
Lists old new steps part (Err e) = Unit {0}

-- A reader's whole contract: what it keeps, why it fails, that it reads this part, and that it lists its fields under these steps.
pub record Checked {S A : Type 0} {g : Ghosts S} (old new : Reader S g) (steps : List Step) (part : Part A) (result : Result A HeadFault) : Type 0 where
  pub kept : Kept old.window new.window
  pub cause : FailsOnly old.window new.window result
  pub reads : Reads g.is_transparent (left old.window) (left new.window) part result
  pub lists : Lists old new steps part result

-- ---- one field

-- a listing keeps a number of the field in this place
abbrev pub IsNumeric : Place → Type 0
IsNumeric place = (size : ℕ) (start : Bytes) → whole_content (steps_of place) size start ≡ Number (number_in size (take size start))

-- a listing keeps the bytes of the field in this place, if all of them are there
abbrev pub IsFilling : Place → Type 0
IsFilling place =
    (size : ℕ) (start : Bytes) → (whole_content (steps_of place) size start ≡ content.Bytes (take size start)) × (cut_content (steps_of place) start ≡ Cut)

-- these bytes are returned, unless memory ran out
abbrev pub IsHeld : Bytes → Result Bytes HeadFault → Type 0
IsHeld bytes (Ok held) = held ≡ bytes
IsHeld bytes (Err e) = e ≡ OutOfMemory

-- this field begins at the next byte
pub record IsStart {S : Type 0} {g : Ghosts S} (w : Window S g) (place : Place) (size : ℕ) (start : PendingField) : Type 0 where
  pub same_place : start.place ≡ place
  pub offset : start.offset ≡ next_of w
  pub same_size : start.size ≡ size

abbrev pub entry_of : PendingField → Content → Entry
entry_of start content = record { place = start.place; offset = start.offset; size = start.size; content = content; fault = None }

-- The answer of the call that read the field is returned. If it is that the source has ended, the field was listed as cut, unless memory
-- ran out.
abbrev pub ListsCut : {A : Type 0} → List Entry → List Entry → PendingField → Result A HeadFault → Result A HeadFault → Type 0
ListsCut old new start answer (Ok x) = (answer ≡ Ok x) × (new ≡ old)
ListsCut old new start answer (Err (Format fault)) = (answer ≡ Err (Format fault)) × (new ≡ old ++ entry_of start Cut ∷ [])
ListsCut old new start answer (Err OutOfMemory) = (answer ≡ Err OutOfMemory) ⊎ ((fault : FormatFault) × (answer ≡ Err (Format fault)))
ListsCut old new start answer (Err ReadFailed) = answer ≡ Err ReadFailed
