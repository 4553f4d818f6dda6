use Rattle.nc_fields.proofs.Letters.{letters-answer, listed-letters, letters-memory, cut-letters}
use Rattle.nc_fields.proofs.Checks.{failed}
use Rattle.nc_fields.proofs.fields.FieldReader.letters.Goals as goal

pub returns-in_err-letters : goal.returns-in_err-letters
returns-in_err-letters g c = failed c.from_residual.ensures.1 (cut-letters _ c.letters_there-there.ensures c.filling_bytes.ensures c.in_err-letters.ensures)

pub returns-in_err-list : goal.returns-in_err-list
returns-in_err-list g c = failed c.from_residual-in_err-list.ensures.1 (letters-memory c.letters_there-there.ensures c.filling_bytes.ensures c.in_ok-letters.ensures.0)

pub returns : goal.returns
returns g c =
    rw (c.letters_in-answer.ensures, c.as_slice.ensures, letters-answer)
    (listed-letters (rw c.field-place.ensures at c.pending_field-start.ensures) c.letters_there-there.ensures c.filling_bytes.ensures c.in_ok-letters.ensures c.in_ok-list.ensures)
