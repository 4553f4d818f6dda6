-- Options that have nothing.
use Rattle.cdl_statements.proofs.Prelude.{◌≡◌, false, Option, None, is_some, arith}

pub none_of : {A : Type 0} (o : Option A) → is_some o ≡ false → o ≡ None
none_of o h = grind arith
