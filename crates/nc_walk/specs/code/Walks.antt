-- For contracts. A walk as its contracts see it, and what a call of it does.
use Rattle.std.specs.Prelude.{◌≡◌, ℕ, zero, suc, ◌+◌, ◌*◌, ◌/◌, ◌<◌, ◌≤◌, Bool, List, length, map, take, drop, slice_index, All, Option, Some, None, Result, Ok, Err, IfSome}
use Rattle.std.specs.Bool.{OnTrue}
use Rattle.std.specs.List.{concat, slice_get}
use Rattle.std.specs.Borrow.{Bor, MutBor, RattleType, Fml, follows_so}
use mathlib.Core.Option.{none}
use Rattle.nc_base.specs.declared.{header.Header.Header, header.Var.Var}
use Rattle.nc_types.specs.Types.{size_of}
use Rattle.nc_base.specs.Sizes.{value_count}
use Rattle.nc_base.specs.Places.{bytes_at, value_offsets}
use Rattle.devices.specs.Sources.{SourceView}
use Rattle.devices.specs.code.SourceReads.{having_read}
use Rattle.nc_walk.specs.declared.{fault.WalkFault.WalkFault, slabs.Slabs.Slabs, cursor.Cursor.Cursor}
use Rattle.nc_walk.specs.declared.fault.WalkFault.TheVariants.{ReadFailed, DataTruncated}
use Rattle.nc_walk.specs.code.Slabs.{offsets_after, number_at, IsSized, IsCursor}
use Rattle.nc_walk.specs.code.FullReads.{FailedReadInFull}

-- the bytes of a value, the offsets of the values that it has still to hand out, how many it has handed out, the fault
-- that it stopped with, and what the caller's buffer holds
pub record WalkView : Type 0 where
  pub size : ℕ
  pub left : List ℕ
  pub done : ℕ
  pub fault : Option WalkFault
  pub buf : List ℕ

-- a walk at the first value of the variable at this index, over n records, with a buffer of this length
pub record Starts (h : Header) (v n len : ℕ) (w : WalkView) : Type 0 where
  pub var : Var
  pub at : slice_get h.vars v ≡ Some var
  pub size : w.size ≡ size_of var.ty
  pub left : w.left ≡ value_offsets h var n
  pub count : length w.left ≡ value_count h.dims var n
  pub done : w.done ≡ 0
  pub fault : w.fault ≡ None
  pub capacity : length w.buf ≡ len

-- ---- what a call answers

-- a chunk of values, the end, or a fault
abbrev pub Answer : Type 0
Answer = Result (Option (List ℕ)) WalkFault

-- a lent chunk, as an answer
abbrev pub lent : Result (Option (Bor (List ℕ))) WalkFault → Answer
lent (Ok None) = Ok None
lent (Ok (Some chunk)) = Ok (Some chunk.now)
lent (Err fault) = Err fault

-- how many values of this size are in these bytes
abbrev pub count : ℕ → List ℕ → ℕ
count size chunk = length chunk / size

-- how many values an answer hands out
abbrev pub counted : ℕ → Answer → ℕ
counted size (Ok (Some chunk)) = count size chunk
counted size (Ok None) = 0
counted size (Err fault) = 0

-- the fault of an answer
abbrev pub fault_of : Answer → Option WalkFault
fault_of (Ok answer) = None
fault_of (Err fault) = Some fault

-- ---- what a call does

-- the value of this size at an offset lies inside of these bytes
abbrev pub IsWhole : ℕ → List ℕ → ℕ → Type 0
IsWhole size bytes offset = offset + size ≤ length bytes

-- The chunk has the bytes of the next n values, which are whole in the source. Only these bytes of the source were read.
pub record Exactly (w : WalkView) (before now : SourceView) (chunk : List ℕ) (n : ℕ) : Type 0 where
  pub whole : All (IsWhole w.size before.bytes) (take n w.left)
  pub bytes : chunk ≡ concat (map (bytes_at w.size before.bytes) (take n w.left))
  pub handed : now ≡ having_read before (length chunk)

-- The chunk has n values, one at least, in no more bytes than the buffer's, and as many bytes at least were read from the source: also
-- from an opaque one.
pub record ReturnsValues (is_transparent : Bool) (w : WalkView) (before now : SourceView) (chunk : List ℕ) (n : ℕ) : Type 0 where
  pub some : 0 < n
  pub len : length chunk ≡ n * w.size
  pub within : n ≤ length w.left
  pub capacity : n * w.size ≤ length w.buf
  pub failures : now.failures ≡ before.failures
  pub handed : before.handed + length chunk ≤ now.handed
  pub exactly : OnTrue is_transparent (Exactly w before now chunk n)

-- A read failed among the next n values, which are whole in the source. No bytes but theirs were read, and no more than the
-- buffer takes.
pub record Failing (w : WalkView) (before now : SourceView) (n : ℕ) : Type 0 where
  pub some : 0 < length w.left
  pub within : n ≤ length w.left
  pub whole : All (IsWhole w.size before.bytes) (take n w.left)
  pub capacity : n * w.size ≤ length w.buf
  pub partway : FailedReadInFull before now (n * w.size)

-- Value number k is the next one, and it isn't whole in the source. Nothing was read from the source, or from an opaque one a part of the
-- value.
pub record Truncated (is_transparent : Bool) (w : WalkView) (before now : SourceView) (k : ℕ) : Type 0 where
  pub value : k ≡ w.done
  pub some : 0 < length w.left
  pub failures : now.failures ≡ before.failures
  pub kept : before.handed ≤ now.handed
  pub part : now.handed < before.handed + w.size
  pub missing : OnTrue is_transparent ((length before.bytes < slice_index w.left 0 + w.size) × (now ≡ before))

-- what a call does with a walk that hasn't stopped
abbrev pub Steps : Bool → WalkView → SourceView → SourceView → Answer → Type 0
Steps is_transparent w before now (Ok None) = (length w.left ≡ 0) × (now ≡ before)
Steps is_transparent w before now (Ok (Some chunk)) = ReturnsValues is_transparent w before now chunk (count w.size chunk)
Steps is_transparent w before now (Err ReadFailed) = (n : ℕ) × Failing w before now n
Steps is_transparent w before now (Err (DataTruncated k)) = Truncated is_transparent w before now k

-- the same, given how contracts see the source before the call and after it; nothing is said of a walk that has stopped
abbrev pub TakesStep : {S : Type 0} → Bool → WalkView → (S → SourceView) → S → S → Answer → Type 0
TakesStep is_transparent w view old new answer = w.fault ≡ None → Steps is_transparent w (view old) (view new) answer

-- what it does with a walk that has stopped: it answers the same fault, and leaves the source as contracts saw it
abbrev pub Repeats : {S : Type 0} → WalkView → (S → SourceView) → S → S → Answer → Type 0
Repeats w view old new answer = IfSome w.fault (λ fault. (answer ≡ Err fault) × (view new ≡ view old))

-- what the walk is afterwards: past the values that were handed out, and with the fault of the answer
pub record Advanced (old new : WalkView) (answer : Answer) : Type 0 where
  pub size : new.size ≡ old.size
  pub left : new.left ≡ drop (counted old.size answer) old.left
  pub done : new.done ≡ old.done + counted old.size answer
  pub fault : new.fault ≡ fault_of answer
  pub buf : length new.buf ≡ length old.buf

-- the fact holds of what the `&mut` leads to, once the borrow in the result ends
abbrev pub Rests : (R : RattleType) → MutBor R.Denot → (R.Denot → Type 0) → Fml
Rests R s P = follows_so R R s.ghost_name none (λ _ _. Unit {0}) P

-- ---- how a call does it

-- what a walk over these slabs is, after n values
abbrev pub stopped : Slabs → ℕ → Option WalkFault → List ℕ → WalkView
stopped l done fault buf = record { size = l.size; left = offsets_after l done; done = done; fault = fault; buf = buf }

-- the same of one that hasn't stopped
abbrev pub standing : Slabs → ℕ → List ℕ → WalkView
standing l done buf = stopped l done None buf

-- what holds of the fields of every walk
pub record IsInOrder (l : Slabs) (cursor : Cursor) (capacity : ℕ) (buf : List ℕ) : Type 0 where
  pub sized : IsSized l
  pub is_cursor : IsCursor l cursor
  pub some : 0 < capacity
  pub fits : capacity * l.size ≤ length buf

-- n values from number i on are whole in the source, and as many bytes as they have were read from it
pub record ReadValues (l : Slabs) (i : ℕ) (before now : SourceView) (n : ℕ) : Type 0 where
  pub whole : All (IsWhole l.size before.bytes) (take n (offsets_after l i))
  pub handed : now ≡ having_read before (n * l.size)

-- a call that reads values from a cursor on to the start of a slice: the slabs, the cursor, and the slice before and after
pub record Reading : Type 0 where
  pub slabs : Slabs
  pub cursor : Cursor
  pub had : List ℕ
  pub buf : List ℕ

abbrev pub reading : Slabs → Cursor → List ℕ → List ℕ → Reading
reading l cursor had buf = record { slabs = l; cursor = cursor; had = had; buf = buf }

-- the walk as it is before the call
abbrev pub walk_of : Reading → WalkView
walk_of r = standing r.slabs (number_at r.slabs r.cursor) r.had

-- the first n values of the slice, as bytes
abbrev pub values_in : Reading → ℕ → List ℕ
values_in r n = take (n * r.slabs.size) r.buf

-- n bytes at the start of the buffer, as an answer
abbrev pub as_answer : List ℕ → Result ℕ WalkFault → Answer
as_answer buf (Ok zero) = Ok None
as_answer buf (Ok (suc n)) = Ok (Some (take (suc n) buf))
as_answer buf (Err fault) = Err fault
