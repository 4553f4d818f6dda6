-- Names that the format doesn't allow.
use Rattle.cdl_values.proofs.Prelude.{is_name, CdlKind, BadName, unless, ContinuesRead, FailsRead, GivesRead, ReadError, OutOfMemory, Fault, ◌≡◌, ℕ, Bool, false, List, Result, Err, arith, rules}

-- what asks first whether the format allows the name has that fault
pub not_allowed : {A : Type 0} (e : ReadError) (name : List ℕ) (read : Bool → Result A CdlKind) → read false ≡ Err BadName → FailsRead e (unless (is_name name) BadName) → FailsRead e (read (is_name name))
not_allowed OutOfMemory name read bad h = tt
not_allowed {A} (Fault k) name read bad h = search rules

pub refused : {A B : Type 0} (view : B → A) (r : Result B ReadError) (e : ReadError) (read : Result A CdlKind) → r ≡ Err e → FailsRead e read → GivesRead view r read
refused view r e read h h2 = grind arith

pub stopped : {A B : Type 0} (after : B → Result A CdlKind) (r : Result B ReadError) (e : ReadError) (read : Result A CdlKind) → r ≡ Err e → FailsRead e read → ContinuesRead after r read
stopped after r e read h h2 = grind arith
