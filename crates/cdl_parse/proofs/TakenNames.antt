-- A taken name comes before the faults after it.
use Rattle.cdl_parse.proofs.Prelude.{◌≡◌, Bool, true, false, refl, Result, arith, CdlKind, BadName, DuplicateName, unless, when, FailsRead, ReadError, duplicate_name_or, ◌>>=◌}

pub fails_after : {A : Type 0} (taken : Bool) (e : ReadError) (read : Result A CdlKind) → FailsRead e read → FailsRead (duplicate_name_or taken e) (when taken DuplicateName >>= (λ u. read))
fails_after taken e read h = grind arith

pub named : {A : Type 0} (named : Bool) (read : Result A CdlKind) → named ≡ true → (unless named BadName >>= (λ u. read)) ≡ read
named true read is = refl
named false read is = cc
