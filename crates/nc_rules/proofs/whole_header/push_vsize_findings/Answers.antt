use Rattle.nc_rules.proofs.Prelude.{at_drop_more, option_to_list, Slot, each_slot, Finding, vsize_finding_at, ℕ, List, ◌++◌, ◌+◌, ap, sym, ◌∙◌, append_assoc, drop, slice_get}
use Rattle.nc_rules.proofs.whole_header.push_vsize_findings.Goals as goal

pub loop-i-preserved : goal.loop-i-preserved
loop-i-preserved c =
    let slots = c.as_slice-slots.result.now in
    let i = c.loop-i.i in
    let f : ℕ → Slot → List Finding = λ i slot. option_to_list (vsize_finding_at c.args.layout.now.version slot (slice_get c.args.vsizes.now i)) in
    let rest = each_slot f (i + 1) (drop (i + 1) slots) in
    let step = at_drop_more (each_slot f i) slots i _ c.loop-i-test.true in
    ap (λ xs. xs ++ rest) c.in_ok-push_some.ensures
    ∙ ap (λ o. (c.loop-i.found ++ option_to_list o) ++ rest) (rw c.field_at-vsize.ensures at c.vsize_finding.ensures)
    ∙ append_assoc c.loop-i.found _ rest ∙ ap (λ xs. c.loop-i.found ++ xs) (sym step) ∙ c.loop-i.invariant
