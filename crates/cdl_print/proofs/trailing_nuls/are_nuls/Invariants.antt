use Rattle.cdl_print.proofs.Prelude.{◌≡◌, ◌==◌, take, list_all}
use Rattle.cdl_print.proofs.trailing_nuls.are_nuls.Given as goal

abbrev pub invariant-loop-b : goal.invariant-loop-b
invariant-loop-b l = l.all ≡ list_all (λ b. b == 0) (take l.b-index l.block)
