use Rattle.cdl_print.proofs.Prelude.{◌+◌, ◌*◌, ◌≤◌, [], length, take, numbers, look_at, gathered}
use Rattle.cdl_print.proofs.PrintingLaws.{IsUnderway}
use Rattle.cdl_print.proofs.number_row.gather_numbers.Given as goal

abbrev pub invariant-loop-rest : goal.invariant-loop-rest
invariant-loop-rest l =
    IsUnderway (look_at l.layout) l.fn.progress l.now (gathered []) (gathered (take l.end l.text)) (numbers l.layout.ty l.rest) (numbers l.layout.ty l.bytes)
    × (l.end + 47 * length (numbers l.layout.ty l.rest) ≤ length l.text)

abbrev pub decreases-loop-rest : goal.decreases-loop-rest
decreases-loop-rest l = length l.rest
