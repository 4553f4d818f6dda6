-- For contracts. What a caller knows of a walk between two calls, and what the next call gives it: in terms of the values that the bytes
-- of the file have for the variable.
use Rattle.std.specs.Prelude.{◌≡◌, ℕ, ◌+◌, ◌*◌, ◌<◌, ◌≤◌, Bool, List, ◌++◌, length, take, drop, All, unwrap_or, Option, Some, None, Ok, Err}
use Rattle.std.specs.Bool.{OnTrue}
use Rattle.std.specs.List.{concat}
use Rattle.nc_base.specs.declared.{header.Header.Header, header.Var.Var}
use Rattle.nc_types.specs.Types.{size_of}
use Rattle.nc_base.specs.Numbers.{numbers}
use Rattle.nc_base.specs.Sizes.{value_count}
use Rattle.nc_base.specs.Places.{value_offsets, stored_bytes, stored_values, first_missing}
use Rattle.devices.specs.Failures.{HasFailed}
use Rattle.devices.specs.Sources.{SourceView}
use Rattle.devices.specs.code.SourceReads.{having_read}
use Rattle.nc_walk.specs.declared.fault.WalkFault.TheVariants.{ReadFailed, DataTruncated}
use Rattle.devices.specs.Uses.{Use}
use Rattle.nc_walk.specs.code.Walks.{WalkView, Answer, IsWhole, count}

-- how many values stand before the first missing one: all of them, where none is missing
abbrev pub whole_count : Header → List ℕ → Var → ℕ → ℕ
whole_count h bytes var n = unwrap_or (first_missing h bytes var n) (value_count h.dims var n)

-- a walk: the variable that it walks over, the number of records, the length of its buffer, and its source when it began and now
pub record Pass : Type 0 where
  pub is_transparent : Bool
  pub header : Header
  pub var : Var
  pub records : ℕ
  pub buffer_len : ℕ
  pub source : Use SourceView

-- the offsets of its values
abbrev pub offsets_in : Pass → List ℕ
offsets_in p = value_offsets p.header p.var p.records

-- the bytes of each of them, by those of the file
abbrev pub stored_in : Pass → List (List ℕ)
stored_in p = stored_bytes p.header p.source.before.bytes p.var p.records

-- how many there are
abbrev pub total_in : Pass → ℕ
total_in p = value_count p.header.dims p.var p.records

-- the number of the first one that is missing
abbrev pub missing_in : Pass → Option ℕ
missing_in p = first_missing p.header p.source.before.bytes p.var p.records

-- how many stand before it
abbrev pub whole_in : Pass → ℕ
whole_in p = whole_count p.header p.source.before.bytes p.var p.records

-- the first k values are whole, and their bytes, and no others, were read
pub record HasRead (p : Pass) (k : ℕ) : Type 0 where
  pub whole : All (IsWhole (size_of p.var.ty) p.source.before.bytes) (take k (offsets_in p))
  pub handed : p.source.after ≡ having_read p.source.before (k * size_of p.var.ty)

-- the walk stands after the first k values
pub record Walked (p : Pass) (w : WalkView) (k : ℕ) : Type 0 where
  pub size : w.size ≡ size_of p.var.ty
  pub left : w.left ≡ drop k (offsets_in p)
  pub done : w.done ≡ k
  pub within : k ≤ total_in p
  pub fault : w.fault ≡ None
  pub buf : length w.buf ≡ p.buffer_len
  pub failures : p.source.after.failures ≡ p.source.before.failures
  pub read : OnTrue p.is_transparent (HasRead p k)

-- ---- what the next call gives

-- the same walk after a call that left the source as it is now
abbrev pub going_on : Pass → SourceView → Pass
going_on p now = record p { source = record p.source { after = now } }

-- the chunk has the bytes of the j values after the first k, and these are its numbers
pub record IsChunk (p : Pass) (k : ℕ) (chunk : List ℕ) (j : ℕ) : Type 0 where
  pub bytes_are : chunk ≡ concat (take j (drop k (stored_in p)))
  pub joined : concat (take k (stored_in p)) ++ chunk ≡ concat (take (k + j) (stored_in p))
  pub numbers_are : numbers p.var.ty chunk ≡ take j (drop k (stored_values p.header p.source.before.bytes p.var p.records))

-- a chunk of j values comes, one at least, in no more bytes than the buffer's
pub record GivesChunk (p : Pass) (k : ℕ) (chunk : List ℕ) (j : ℕ) : Type 0 where
  pub some : 0 < j
  pub within : k + j ≤ total_in p
  pub length_is : length chunk ≡ j * size_of p.var.ty
  pub capacity : length chunk ≤ p.buffer_len
  pub failures : p.source.after.failures ≡ p.source.before.failures
  pub chunk_is : OnTrue p.is_transparent (IsChunk p k chunk j)
  pub read : OnTrue p.is_transparent (HasRead p (k + j))

-- no value is left, and none was missing
pub record GivesEnd (p : Pass) (k : ℕ) : Type 0 where
  pub all : k ≡ total_in p
  pub failures : p.source.after.failures ≡ p.source.before.failures
  pub none_missing : OnTrue p.is_transparent (missing_in p ≡ None)
  pub read : OnTrue p.is_transparent (HasRead p k)

-- value number k is the first missing one
pub record GivesCut (p : Pass) (k value : ℕ) : Type 0 where
  pub value_is : value ≡ k
  pub within : k < total_in p
  pub failures : p.source.after.failures ≡ p.source.before.failures
  pub missing : OnTrue p.is_transparent (missing_in p ≡ Some k)
  pub read : OnTrue p.is_transparent (HasRead p k)

-- A read failed: bytes of values before the first missing one were read, after the first k no more than fill the
-- buffer.
pub record GivesFailure (p : Pass) (k : ℕ) : Type 0 where
  pub within : k < total_in p
  pub failed : HasFailed p.source.before.failures p.source.after.failures
  pub bytes : OnTrue p.is_transparent (p.source.after.bytes ≡ p.source.before.bytes)
  pub whole : OnTrue p.is_transparent (p.source.after.handed ≤ p.source.before.handed + whole_in p * size_of p.var.ty)
  pub capacity : OnTrue p.is_transparent (p.source.after.handed ≤ p.source.before.handed + k * size_of p.var.ty + p.buffer_len)

-- what the next call, after which the source is what it is now, gives a caller that has walked past the first k values
abbrev pub Gives : Pass → ℕ → Answer → Type 0
Gives p k (Ok (Some chunk)) = GivesChunk p k chunk (count (size_of p.var.ty) chunk)
Gives p k (Ok None) = GivesEnd p k
Gives p k (Err (DataTruncated value)) = GivesCut p k value
Gives p k (Err ReadFailed) = GivesFailure p k

-- ---- whole values

-- the bytes of whole values, one after the other, are read as these values
abbrev pub StoredNumbers : Type 0
StoredNumbers = (h : Header) (bytes : List ℕ) (var : Var) (n k : ℕ) → k ≤ whole_count h bytes var n
    → numbers var.ty (concat (take k (stored_bytes h bytes var n))) ≡ take k (stored_values h bytes var n)
