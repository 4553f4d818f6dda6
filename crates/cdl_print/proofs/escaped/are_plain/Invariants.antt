use Rattle.cdl_print.proofs.Prelude.{◌≡◌, take, list_all, stands_for_itself}
use Rattle.cdl_print.proofs.escaped.are_plain.Given as goal

abbrev pub invariant-loop-b : goal.invariant-loop-b
invariant-loop-b l = l.all ≡ list_all (stands_for_itself l.quoting) (take l.b-index l.bytes)
