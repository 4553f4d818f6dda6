-- Definition. A reader, as contracts see it.
use Rattle.std.specs.Prelude.{ℕ, Bool, true, false, [], Option, Some}
use Rattle.nc_types.specs.Bytes.{Bytes}
use Rattle.devices.specs.declared.reader.CountedRead.{CountedRead}

-- The bytes that are still to come (if the reader is transparent), how often it has failed, how often it was read, how many bytes it has
-- handed over, and whether it has ended: a read with room for bytes has given none.
pub record ReaderView : Type 0 where
  pub remaining : Option Bytes
  pub failures : ℕ
  pub reads : ℕ
  pub handed : ℕ
  pub is_ended : Bool

-- what is still to come: nothing after the end
abbrev pub left : Option Bytes → Bool → Option Bytes
left remaining true = Some []
left remaining false = remaining

abbrev pub view_of : {R : Type 0} → (R → Option Bytes) → CountedRead R → ReaderView
view_of remaining r = record { remaining = left (remaining r.reader) r.is_ended; failures = r.failures; reads = r.reads; handed = r.handed; is_ended = r.is_ended }
