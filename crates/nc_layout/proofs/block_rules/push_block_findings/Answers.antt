use Rattle.nc_layout.proofs.Prelude.{AllPairs, arith, sym, subst}
use Rattle.nc_layout.proofs.BlockOrder.{Listed, ascending-sorted}
use Rattle.nc_layout.proofs.ListedBlocks.{blocks-listed}
use Rattle.nc_layout.proofs.SweptBlocks.{swept-blocks}
use Rattle.nc_layout.proofs.block_rules.push_block_findings.Goals as goal

pub returns : goal.returns
returns c =
    let bs = c.args.extents.now.items in
    let sorted = c.sort_by_begin.new.extents.items in
    let sort = c.in_ok-sort_by_begin.ensures in
    let listed = subst (AllPairs Listed) (sym c.requires) (blocks-listed c.args.layout.now) in
    let up = ascending-sorted bs sorted sort.sorted sort.stable listed in
    let swept = swept-blocks c.args.layout.now.header_end bs sorted c.sort_by_begin.ensures.permutation up in
    (_, c.in_ok-push_findings_in_order.ensures, grind (arith, swept))
