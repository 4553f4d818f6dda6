use Rattle.nc_layout.proofs.Prelude.{swept, ◌≡◌, ◌++◌, drop, None}
use Rattle.nc_layout.proofs.block_rules.push_findings_in_order.Given as goal

abbrev pub invariant-loop-block : goal.invariant-loop-block
invariant-loop-block l =
    l.found ++ swept l.header_end l.reached (drop l.block-index l.sorted)
    ≡ l.fn.found ++ swept l.header_end (record { values = None; padding = None }) l.sorted
