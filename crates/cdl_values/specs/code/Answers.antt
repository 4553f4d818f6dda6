-- For contracts. What the calls answer, but for want of memory.
use Rattle.std.specs.Prelude.{◌≡◌, ℕ, List, Result, Ok, Err, ⊤}
use Rattle.cdl_statements.specs.declared.fault.CdlKind.{CdlKind}
use Rattle.cdl_values.specs.code.PackedValues.{joined}
use Rattle.cdl_values.specs.declared.read_error.ReadError.{ReadError}
use Rattle.cdl_values.specs.declared.read_error.ReadError.TheVariants.{OutOfMemory, Fault}

-- a fault is the one that the definition gives; out of memory says nothing
abbrev pub FailsRead : {A : Type 0} → ReadError → Result A CdlKind → Type 0
FailsRead OutOfMemory read = Unit {0}
FailsRead (Fault f) read = read ≡ Err f

-- with an Ok, what `view` makes of its value is what the definition gives; a fault is the definition's
abbrev pub GivesRead : {B A : Type 0} → (B → A) → Result B ReadError → Result A CdlKind → Type 0
GivesRead view (Ok b) read = read ≡ Ok (view b)
GivesRead view (Err e) read = FailsRead e read

-- with an Ok, the definition gives what `after` makes of its value: it reads on from there; a fault is the definition's
abbrev pub ContinuesRead : {B A : Type 0} → (B → Result A CdlKind) → Result B ReadError → Result A CdlKind → Type 0
ContinuesRead after (Ok b) read = read ≡ after b
ContinuesRead after (Err e) read = FailsRead e read

-- with an Ok the bytes that the definition gives are appended; a fault is the definition's
abbrev pub Adds : List ℕ → List ℕ → Result ⊤ ReadError → Result (List ℕ) CdlKind → Type 0
Adds before after (Ok u) bytes = joined (Ok before) bytes ≡ Ok after
Adds before after (Err e) bytes = FailsRead e bytes

-- a fault that the definition gives is the answer, however much memory there is
abbrev pub RefusesValue : Result ⊤ ReadError → Result (List ℕ) CdlKind → Type 0
RefusesValue answer (Ok bytes) = Unit {0}
RefusesValue answer (Err f) = answer ≡ Err (Fault f)

-- with an Ok the value afterwards is what the definition gives; a fault is its fault
abbrev pub Leaves : {A : Type 0} → A → Result ⊤ ReadError → Result A CdlKind → Type 0
Leaves after (Ok u) read = read ≡ Ok after
Leaves after (Err e) read = FailsRead e read
