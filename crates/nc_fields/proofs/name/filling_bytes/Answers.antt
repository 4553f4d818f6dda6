use Rattle.nc_fields.proofs.Prelude.{Bytes, IsHeld, subst}
use Rattle.nc_fields.proofs.Texts.{held-read}
use Rattle.nc_fields.proofs.name.filling_bytes.Goals as goal

pub returns-in_ok-array-in-1 : goal.returns-in_ok-array-in-1
returns-in_ok-array-in-1 g c = rw c.in-1.is (held-read c.in_ok-array-in-1.ensures c.held.ensures)

pub returns-in_ok-array-in-2 : goal.returns-in_ok-array-in-2
returns-in_ok-array-in-2 g c = rw c.in-2.is (held-read c.in_ok-array-in-2.ensures c.held-in-2.ensures)

pub returns-in_ok-array-in-3 : goal.returns-in_ok-array-in-3
returns-in_ok-array-in-3 g c = rw c.in-3.is (held-read c.in_ok-array-in-3.ensures c.held-in-3.ensures)

pub returns-in_ok-bytes-in_default : goal.returns-in_ok-bytes-in_default
returns-in_ok-bytes-in_default g c =
    held-read c.in_ok-bytes-in_default.ensures.read
    (subst (λ (bs : Bytes). IsHeld bs c.held-in_default.result) c.as_slice-in_default.ensures c.held-in_default.ensures)
