use Rattle.nc_layout.proofs.Prelude.{at_drop_more, Slot, each_slot, slot_findings, arith, append_assoc}
use Rattle.nc_layout.proofs.PassedLists.{passed-more, bytes_before-le}
use Rattle.nc_layout.proofs.slot_rules.push_slot_findings.Goals as goal

pub passed_after-passed-requires-clause-bytes : goal.passed_after-passed-requires-clause-bytes
passed_after-passed-requires-clause-bytes c = grind (arith, bytes_before-le c.args.layout.now.slots c.loop-i.i)

pub loop-i-preserved : goal.loop-i-preserved
loop-i-preserved c =
    let slots = c.as_slice-slots.result.now in
    let i = c.loop-i.i in
    let step = λ (d : Slot). at_drop_more (each_slot (slot_findings c.args.layout.now) i) slots i d c.loop-i-test.true in
    let passed = λ (d : Slot). passed-more slots i c.loop-i.passed d c.loop-i.invariant.passed c.loop-i-test.true in
    record { found = grind (arith, append_assoc, step); passed = grind (arith, passed) }
