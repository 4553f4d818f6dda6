-- For contracts. The values of a statement of the data section, and the bytes that they are.
use Rattle.std.specs.Prelude.{ℕ, ℤ, pos, Bool, false, List, [], ◌∷◌, ◌++◌, ◌-◌, ◌^◌, ◌==◌, nat_le, nat_lt, replicate, if◌then◌else◌, map, length, Option, None, Some, Result, Ok, Err}
use Rattle.nc_types.specs.declared.nc_type.NcType.{NcType}
use Rattle.nc_types.specs.declared.nc_type.NcType.TheVariants.{Byte, Char, Short, Int, Ubyte, Ushort, Uint, Int64, Uint64}
use Rattle.nc_base.specs.Numbers.{bytes_of_number}
use Rattle.std.specs.List.{flat_map}
use Rattle.cdl_tokens.specs.Numerals.{signed}
use Rattle.cdl_statements.specs.Shapes.{Value, Number, Characters, Underscore}
use Rattle.cdl_statements.specs.declared.fault.CdlKind.{CdlKind}
use Rattle.cdl_statements.specs.declared.fault.CdlKind.TheVariants.{NumberRange, WrongKind, TooManyValues, StringTooLong}
use Rattle.cdl_statements.specs.State.{has_number}
use Rattle.cdl_values.specs.declared.{capacity.Capacity.Capacity, form.ValueForm.ValueForm}
use Rattle.cdl_values.specs.declared.capacity.Capacity.TheVariants.{AtMost, Unlimited}
use Rattle.cdl_values.specs.declared.form.ValueForm.TheVariants.{Numbers, Joined, Rows}

-- the greatest magnitude of a type's numbers with and without a minus
abbrev pub greatest : NcType → Bool → ℕ
greatest Byte minus = if minus then 128 else 127
greatest Char minus = if minus then 0 else 255
greatest Short minus = if minus then 32768 else 32767
greatest Int minus = if minus then 2147483648 else 2147483647
greatest Ubyte minus = if minus then 0 else 255
greatest Ushort minus = if minus then 0 else 65535
greatest Uint minus = if minus then 0 else 4294967295
greatest Int64 minus = if minus then 9223372036854775808 else 9223372036854775807
greatest Uint64 minus = if minus then 0 else 18446744073709551615

-- a number's bytes, where the type has it
abbrev pub number_bytes : NcType → ℤ → Result (List ℕ) CdlKind
number_bytes ty n = if has_number ty n then Ok (bytes_of_number ty n) else Err NumberRange

-- the bytes of a number, as held
abbrev pub held_bytes : NcType → Bool → Option ℕ → Result (List ℕ) CdlKind
held_bytes ty minus None = Err NumberRange
held_bytes ty minus (Some m) = if nat_le m (greatest ty minus) then Ok (bytes_of_number ty (signed minus m)) else Err NumberRange

-- characters as the numbers that a variable of characters has
abbrev pub char_bytes : List ℕ → List ℕ
char_bytes bytes = flat_map (bytes_of_number Char) (map pos bytes)

-- no more values are taken
abbrev pub is_full : Capacity → Bool
is_full Unlimited = false
is_full (AtMost n) = n == 0

-- how many values are taken; if any number is, the greatest number of 64 bits
abbrev pub capacity_limit : Capacity → ℕ
capacity_limit Unlimited = 2 ^ 64 - 1
capacity_limit (AtMost n) = n

-- what is left after n values
abbrev pub capacity_minus : ℕ → Capacity → Capacity
capacity_minus n Unlimited = Unlimited
capacity_minus n (AtMost m) = AtMost (m - n)

-- fewer than n more values are taken
abbrev pub is_exceeded_by : ℕ → Capacity → Bool
is_exceeded_by n Unlimited = false
is_exceeded_by n (AtMost m) = nat_lt m n

-- the bytes of a value of a variable of numbers
abbrev pub value_bytes : NcType → ℤ → Bool → Value → Result (List ℕ) CdlKind
value_bytes ty fill full (Characters bytes) = Err WrongKind
value_bytes ty fill full Underscore = if full then Err TooManyValues else Ok (bytes_of_number ty fill)
value_bytes ty fill full (Number n) = if full then Err TooManyValues else number_bytes ty n.value

-- of a variable of characters of rank 0 or 1, whose capacity is in bytes
abbrev pub text_bytes : Capacity → Value → Result (List ℕ) CdlKind
text_bytes capacity (Characters bytes) = if is_exceeded_by (length bytes) capacity then Err StringTooLong else Ok (char_bytes bytes)
text_bytes capacity v = Err WrongKind

-- of a variable of characters of rank 2 and up, whose rows have this length
abbrev pub row_bytes : ℕ → ℕ → Bool → Value → Result (List ℕ) CdlKind
row_bytes len fill full (Characters bytes) = if full then Err TooManyValues else (if nat_lt len (length bytes) then Err StringTooLong else Ok (char_bytes bytes ++ replicate (len - length bytes) fill))
row_bytes len fill full v = Err WrongKind

-- the bytes of a value in this form, with this capacity left before it; or its fault
abbrev pub bytes_of : ValueForm → Capacity → Value → Result (List ℕ) CdlKind
bytes_of (Numbers fill) capacity v = value_bytes fill.ty fill.value (is_full capacity) v
bytes_of Joined capacity v = text_bytes capacity v
bytes_of (Rows len fill) capacity v = row_bytes len fill (is_full capacity) v

-- the capacity that is left after a value with these bytes: in values, in bytes or in rows
abbrev pub capacity_after : ValueForm → List ℕ → Capacity → Capacity
capacity_after (Numbers fill) bytes capacity = capacity_minus 1 capacity
capacity_after Joined bytes capacity = capacity_minus (length bytes) capacity
capacity_after (Rows len fill) bytes capacity = capacity_minus 1 capacity

-- one list of bytes after the other; the first fault decides
abbrev pub joined : Result (List ℕ) CdlKind → Result (List ℕ) CdlKind → Result (List ℕ) CdlKind
joined (Err e) r = Err e
joined (Ok bs) (Err e) = Err e
joined (Ok bs) (Ok cs) = Ok (bs ++ cs)

-- a value's bytes and those that follow; a fault decides
abbrev pub followed_by : Result (List ℕ) CdlKind → (List ℕ → Result (List ℕ) CdlKind) → Result (List ℕ) CdlKind
followed_by (Err e) rest = Err e
followed_by (Ok bytes) rest = joined (Ok bytes) (rest bytes)

-- the bytes of these values in this form, with this capacity before the first; or the first fault
unfoldable pub packed : ValueForm → Capacity → List Value → Result (List ℕ) CdlKind
packed form capacity [] = Ok []
packed form capacity (v ∷ vs) = followed_by (bytes_of form capacity v) (λ bytes. packed form (capacity_after form bytes capacity) vs)
