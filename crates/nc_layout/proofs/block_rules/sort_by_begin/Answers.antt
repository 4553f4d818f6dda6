use Rattle.nc_layout.proofs.Prelude.{IsNonDecreasingBy-from_sort_by_key, answers_always, Extent, rules}
use Rattle.nc_layout.proofs.block_rules.sort_by_begin.Goals as goal

pub returns-clause-sorted : goal.returns-clause-sorted
returns-clause-sorted c = IsNonDecreasingBy-from_sort_by_key (λ (b : Extent). b.begin) _ c.in_ok-sort_by_key.ensures.sorted
    (λ a r q k. search rules)

pub returns-clause-stable : goal.returns-clause-stable
returns-clause-stable c = c.sort_by_key.ensures.stable (λ (b : Extent). b.begin) (answers_always _ _ _ (λ f a r q k. search rules))
