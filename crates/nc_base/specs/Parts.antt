-- Definition. A part of a file's header as data: which fields it has, in which order. Three recursions on a part say what bytes spell
-- (`Spells`), which field is the first wrong one (`Stops`), and how a value is written (`print`).
use Rattle.std.specs.Prelude.{ℕ, ◌≡◌, ◌<◌, ◌⊎◌, List, [], ◌∷◌, ◌++◌, length, Option, Some, None, Result, Ok, Err}
use Rattle.nc_base.specs.declared.fault.FormatFault.{FormatFault}
use Rattle.nc_types.specs.Bytes.{Bytes}

-- a step on the way to a field
pub data Step : Type 0 where
  -- 'C' 'D' 'F', VERSION and numrecs
  Magic : Step
  VersionByte : Step
  Records : Step
  -- dim_list, gatt_list and var_list
  Dims : Step
  Gatts : Step
  Vars : Step
  -- of a list: its tag, nelems, and the element at this index
  Tag : Step
  Count : Step
  Item : ℕ → Step
  -- the name of a dimension, an attribute or a variable; in it, nelems, namestring, and what fills it up
  Name : Step
  Length : Step
  Text : Step
  Padding : Step
  -- of a dimension, dim_length is `Length`; of an attribute, nelems is `Count`, and what fills up its values is `Padding`
  TypeCode : Step
  Values : Step
  -- of a variable: its shape, which is a count and items, vatt_list, vsize and begin
  Shape : Step
  Atts : Step
  Vsize : Step
  Begin : Step

-- a part of a header whose value is an A
pub data Part : Type 0 → Type 1 where
  -- no more fields: the value is x
  done : {A : Type 0} → A → Part A
  -- n bytes; this fault if fewer are left
  bytes : ℕ → FormatFault → Part Bytes
  -- a part whose value the first function decodes, or refuses with a fault; the second one encodes a value that is to be written
  decoded : {A B : Type 0} → (A → Result B FormatFault) → (B → A) → Part A → Part B
  -- a part under this step
  under : {A : Type 0} → Step → Part A → Part A
  -- a part, and what follows, which may depend on its value; the function finds this value in a value of the whole, or returns `None` if the
  -- whole is a list that has ended
  chain : {A B : Type 0} → (B → Option A) → Part A → (A → Part B) → Part B

-- the bytes `from` begin with a spelling of this value, and `rest` follows it
unfoldable pub Spells : {A : Type 0} → Part A → Bytes → A → Bytes → Type 0
Spells (done x) from y rest = (y ≡ x) × (rest ≡ from)
Spells (bytes n cut) from content rest = (length content ≡ n) × (from ≡ content ++ rest)
Spells (decoded {A = A} decode encode p) from y rest = (x : A) × Spells p from x rest × (decode x ≡ Ok y)
Spells (under step p) from x rest = Spells p from x rest
Spells (chain {A = A} get p next) from y rest = (x : A) × (middle : Bytes) × Spells p from x middle × Spells (next x) middle y rest

-- `steps` lead to the first wrong field, `start` are the bytes from its first byte on, `fault` is its fault, and `rest` follows it
unfoldable pub Stops : {A : Type 0} → Part A → Bytes → List Step → Bytes → FormatFault → Bytes → Type 0
Stops (done x) from steps start fault rest = ⊥
Stops (bytes n cut) from steps start fault rest = (length from < n) × (steps ≡ []) × (start ≡ from) × (fault ≡ cut) × (rest ≡ [])
Stops (decoded {A = A} decode encode p) from steps start fault rest =
    Stops p from steps start fault rest ⊎ ((x : A) × (steps ≡ []) × (start ≡ from) × Spells p from x rest × (decode x ≡ Err fault))
Stops (under step p) from steps start fault rest = (inner : List Step) × (steps ≡ step ∷ inner) × Stops p from inner start fault rest
Stops (chain {A = A} get p next) from steps start fault rest =
    Stops p from steps start fault rest ⊎ ((x : A) × (middle : Bytes) × Spells p from x middle × Stops (next x) middle steps start fault rest)

-- how a value is written
unfoldable pub print : {A : Type 0} → Part A → A → Bytes
print (done x) y = []
print (bytes n cut) content = content
print (decoded decode encode p) y = print p (encode y)
print (under step p) x = print p x
print (chain get p next) y = elim (get y) [ Some x ↦ print p x ++ print (next x) y | None ↦ [] ]
