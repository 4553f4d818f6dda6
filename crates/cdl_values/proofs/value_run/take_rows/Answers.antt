use Rattle.cdl_values.proofs.Prelude.{at_same_comma, Cutter, capacity_minus, place, Rows, refl, subst, sym}
use Rattle.cdl_statements.specs.code.ValueLists as lists
use Rattle.cdl_values.proofs.ValueRuns.{ended_at, reached, stays, takes_further}
use Rattle.cdl_values.proofs.value_run.take_rows.Goals as goal

pub put_rows-requires : goal.put_rows-requires
put_rows-requires c = at_same_comma (lists.reached c.new-list.result) c.args.start.cutter c.new-list.ensures c.requires.at

pub cutter-requires : goal.cutter-requires
cutter-requires c = (c.in_ok-count.ensures c.args.start.capacity c.limit.ensures.room).at

pub returns : goal.returns
returns c =
    let a = c.args in
    let form = Rows a.len a.fill in
    let start = place a.start a.array.now in
    let first = lists.reached c.new-list.result in
    let here = reached first a.array.now a.start.capacity in
    let there = reached (lists.reached c.put_rows.new.list) c.put_rows.new.array (capacity_minus c.in_ok-count.count a.start.capacity) in
    let r = c.after_values in
    let begun = ended_at form start start first a.start.capacity c.new-list.ensures refl (stays form start c.requires.at) in
    let so = takes_further form start here there begun (c.in_ok-count.ensures a.start.capacity c.limit.ensures.room) in
    ended_at form start there r.result.cutter r.result.capacity (subst (λ (x : Cutter). lists.SamePlace x there.cutter) (sym r.ensures.cutter) c.cutter.ensures) r.ensures.capacity so
