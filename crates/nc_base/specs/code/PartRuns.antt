-- For contracts. Reading a part of a header: its value and the rest, or the fault of the first wrong field, and where that lies.
use Rattle.std.specs.Prelude.{ℕ, ◌≡◌, ◌+◌, ◌<◌, ◌⊎◌, nat_le, if◌then◌else◌, List, [], ◌∷◌, length, take, drop, Some, None, Result, Ok, Err}
use Rattle.nc_base.specs.declared.fault.FormatFault.{FormatFault}
use Rattle.nc_types.specs.Bytes.{Bytes}
use Rattle.nc_base.specs.Parts.{Step, Part, done, bytes, decoded, under, chain, Spells}

-- a value and the rest, or the fault of the first wrong field and the rest after it
abbrev pub Outcome : Type 0 → Type 0
Outcome A = Result (A × Bytes) (FormatFault × Bytes)

abbrev pub and_then : {A B : Type 0} → Outcome A → (A → Bytes → Outcome B) → Outcome B
and_then (Ok x) f = f x.0 x.1
and_then (Err e) f = Err e

abbrev pub with_rest : {B : Type 0} → Result B FormatFault → Bytes → Outcome B
with_rest (Ok y) rest = Ok (y, rest)
with_rest (Err fault) rest = Err (fault, rest)

-- what reading a part gives at the start of these bytes
unfoldable pub run : {A : Type 0} → Part A → Bytes → Outcome A
run (done x) from = Ok (x, from)
run (bytes n cut) from = if nat_le n (length from) then Ok (take n from, drop n from) else Err (cut, [])
run (decoded decode encode p) from = and_then (run p from) (λ x rest. with_rest (decode x) rest)
run (under step p) from = run p from
run (chain get p next) from = and_then (run p from) (λ x middle. run (next x) middle)

-- the steps to the first wrong field, and the bytes from its first byte on (of no use if there is no such field)
unfoldable pub place : {A : Type 0} → Part A → Bytes → List Step × Bytes
unfolding run
place (done x) from = ([], from)
place (bytes n cut) from = ([], from)
place (decoded decode encode p) from = elim (run p from) [ Ok x ↦ ([], from) | Err e ↦ place p from ]
place (under step p) from = let inner = place p from in (step ∷ inner.0, inner.1)
place (chain get p next) from = elim (run p from) [ Ok x ↦ place (next x.0) x.1 | Err e ↦ place p from ]

-- the first wrong field has this fault, and this rest after it, wherever it lies
unfoldable pub StopsWith : {A : Type 0} → Part A → Bytes → FormatFault → Bytes → Type 0
StopsWith (done x) from fault rest = ⊥
StopsWith (bytes n cut) from fault rest = (length from < n) × (fault ≡ cut) × (rest ≡ [])
StopsWith (decoded {A = A} decode encode p) from fault rest = StopsWith p from fault rest ⊎ ((x : A) × Spells p from x rest × (decode x ≡ Err fault))
StopsWith (under step p) from fault rest = StopsWith p from fault rest
StopsWith (chain {A = A} get p next) from fault rest =
    StopsWith p from fault rest ⊎ ((x : A) × (middle : Bytes) × Spells p from x middle × StopsWith (next x) middle fault rest)

-- how many bytes are left after the last field that was looked at
unfoldable pub left_after : {A : Type 0} → Outcome A → ℕ
left_after (Ok x) = length x.1
left_after (Err e) = length e.1

-- what is written of the value is read back
abbrev pub IsPrintable : {A : Type 0} → Part A → A → Type 0
IsPrintable (done x) y = y ≡ x
IsPrintable (bytes n cut) content = length content ≡ n
IsPrintable (decoded decode encode p) y = IsPrintable p (encode y) × (decode (encode y) ≡ Ok y)
IsPrintable (under step p) x = IsPrintable p x
IsPrintable (chain {A = A} get p next) y = (x : A) × (get y ≡ Some x) × IsPrintable p x × IsPrintable (next x) y

-- how many bytes are written of a value
unfoldable pub printed_len : {A : Type 0} → Part A → A → ℕ
printed_len (done x) y = 0
printed_len (bytes n cut) content = length content
printed_len (decoded decode encode p) y = printed_len p (encode y)
printed_len (under step p) x = printed_len p x
printed_len (chain get p next) y = elim (get y) [ Some x ↦ printed_len p x + printed_len (next x) y | None ↦ 0 ]
