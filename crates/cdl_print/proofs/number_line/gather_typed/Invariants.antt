use Rattle.cdl_print.proofs.Prelude.{◌≡◌, ◌+◌, ◌*◌, ◌≤◌, length, take, numbers, look_at}
use Rattle.cdl_print.proofs.NumberRows.{IsInRow}
use Rattle.cdl_print.proofs.number_line.gather_typed.Given as goal

abbrev pub invariant-loop-rest : goal.invariant-loop-rest
invariant-loop-rest l =
    IsInRow (look_at l.layout) l.fn.line.columns_left l.now.columns_left (take l.fn.line.end l.fn.text) (take l.now.end l.text) (numbers l.ty l.rest) (numbers l.ty l.bytes)
    × (l.now.end + 47 * length (numbers l.ty l.rest) ≤ l.fn.line.end + 47 * length (numbers l.ty l.bytes))
    × (length l.text ≡ length l.fn.text)

abbrev pub decreases-loop-rest : goal.decreases-loop-rest
decreases-loop-rest l = length l.rest
