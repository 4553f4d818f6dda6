use Rattle.nc_layout.proofs.Prelude.{slot_findings, arith, append_assoc}
use Rattle.nc_layout.proofs.PassedLists.{has_successor_is, order_is}
use Rattle.nc_layout.proofs.slot_rules.push_findings_of_slot.Goals as goal

pub returns : goal.returns
unfolding slot_findings
returns c =
    let slots = c.args.layout.now.slots in
    grind (arith, append_assoc, has_successor_is slots c.args.i c.args.passed c.args.records.begin, order_is slots c.args.i c.args.passed)
