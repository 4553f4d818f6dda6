use Rattle.cdl_values.proofs.Prelude.{at_same_comma, capacity_minus, place, Cutter, Numbers, TakesValues, arith, ◌-◌, ℕ, List, sym, ◌∙◌, subst, subst₂, rules}
use Rattle.cdl_statements.specs.code.ValueLists as lists
use Rattle.cdl_statements.specs.declared.{value_list.ValueList.ValueList}
use Rattle.cdl_values.proofs.ValueRuns.{ended_at, reached, stays, takes_further}
use Rattle.cdl_values.proofs.value_run.take_numbers_of_type.Goals as goal
use Rattle.cdl_values.proofs.value_run.take_numbers_of_type.Goals.{else-numbers-test, then-numbers-test+in_ok-put_next_number+then-not-branch}

pub numbers-init : goal.numbers-init
numbers-init c =
    let a = c.args in
    let room = c.limit-room.result in
    let start = place a.start a.array.now in
    let same = c.new-list.ensures in
    record {
      within = omega arith;
      at = at_same_comma (lists.reached c.new-list.result) a.start.cutter same c.requires.at;
      so = ended_at (Numbers a.fill) start start (lists.reached c.new-list.result) (capacity_minus (room - room) a.start.capacity) same (grind arith) (stays (Numbers a.fill) start c.requires.at);
    }

pub numbers-preserved : goal.numbers-preserved
numbers-preserved c = search (rules, takes_further)

pub returns : goal.returns
returns c =
    let a = c.args in
    let l = c.numbers in
    let r = c.after_values in
    let left = capacity_minus (c.limit-room.result - l.left) a.start.capacity in
    let start = place a.start a.array.now in
    let ended_in : ValueList → List ℕ → Type 0 = λ list bytes. TakesValues (Numbers a.fill) start (reached (lists.reached list) bytes left) in
    let so : ended_in c.numbers-test.list c.numbers-test.array = elim c.numbers-test.branch [
      | else-numbers-test w ↦ subst₂ ended_in (sym w.list-is) (sym w.array-is) l.invariant.so
      | then-numbers-test+in_ok-put_next_number+then-not-branch w ↦
          let e = w.in_ok-put_next_number.ensures in
          let none = w.if-not-branch.true in
          subst₂ ended_in (sym (w.list-is ∙ e.same_list none)) (sym (w.array-is ∙ e.same_array none)) l.invariant.so
    ] in
    ended_at (Numbers a.fill) start (reached (lists.reached c.numbers-test.list) c.numbers-test.array left) r.result.cutter r.result.capacity
    (subst (λ (x : Cutter). lists.SamePlace x (lists.reached c.numbers-test.list)) (sym r.ensures.cutter) c.cutter.ensures) r.ensures.capacity so
