use Rattle.nc_rules.proofs.Prelude.{AllPairs, answers_always, Finding, finding_cmp, IsInOrder, List, rules, sym, subst}
use Rattle.nc_rules.proofs.OneOrder.{sorted-order}
use Rattle.nc_rules.proofs.Found.{key, findings-total}
use Rattle.nc_rules.proofs.findings.in_order.Goals as goal

pub returns-clause-in_order : goal.returns-clause-in_order
returns-clause-in_order c =
    subst (λ (found : List Finding). AllPairs IsInOrder found) (sym c.from_vec.ensures)
    (sorted-order finding_cmp findings-total _ (c.sort_unstable_by_key.ensures.sorted key (answers_always _ _ _ (λ f a r q k. search rules))))
