use Rattle.cdl_values.proofs.Prelude.{Characters, joined, capacity_minus, row_bytes, Rows, rules, arith, ◌≡◌, ◌+◌, false, sym, subst, Ok}
use Rattle.cdl_statements.specs.declared.{value_list.ValueList.ValueList}
use Rattle.cdl_values.specs.code.ValueRuns.{TakesRows, list_place}
use Rattle.cdl_values.proofs.ValueRuns.{ended, row_on, stays, takes_further}
use Rattle.cdl_values.proofs.value_run.put_rows.Goals as goal

pub rows-init : goal.rows-init
rows-init c = search (rules, ended, stays)

pub rows-preserved : goal.rows-preserved
rows-preserved c =
    let a = c.args in
    let l = c.rows in
    let e = c.in-Some.ensures in
    let n = c.in-Some.characters.now in
    let new = c.put_plain_row.new.array in
    let adds : joined (Ok l.array) (row_bytes a.len a.fill false (Characters n)) ≡ Ok new = search rules in
    record {
      at = e.passes.passes.at;
      so = λ left room.
          let start = list_place a.list.now a.array.now left in
          let here = list_place l.list l.array (capacity_minus l.count left) in
          let there = list_place c.string_and_comma.new.self new (capacity_minus (l.count + 1) left) in
          takes_further (Rows a.len a.fill) start here there (l.invariant.so left room) (row_on a.len a.fill here there n l.invariant.at e.passes (room l.count c.rows-test.true) adds (grind arith));
    }

pub returns-in_default : goal.returns-in_default
returns-in_default c =
    let a = c.args in
    let l = c.rows in
    subst (λ (list : ValueList). TakesRows a.room (Rows a.len a.fill) (list_place a.list.now a.array.now) (list_place list l.array) l.count) (sym (c.string_and_comma.ensures.stays c.in_default.is)) l.invariant.so
