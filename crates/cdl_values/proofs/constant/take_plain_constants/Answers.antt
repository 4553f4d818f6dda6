use Rattle.cdl_values.proofs.Prelude.{CdlKind, FailsRead, at_same_comma, version_of, rules, ◌≡◌, ℕ, List, Result, sym, ◌∙◌, Err, Ok, subst}
use Rattle.cdl_statements.specs.code.ValueLists as lists
use Rattle.cdl_values.proofs.ConstantRuns.{is_wrong, left_at, moved, moved_past, moved_to, number_turn}
use Rattle.cdl_values.proofs.constant.take_plain_constants.Goals as goal

pub numbers-init : goal.numbers-init
numbers-init c = search (rules, at_same_comma, left_at, moved_to)

pub numbers-preserved : goal.numbers-preserved
numbers-preserved c =
    let a = c.args in
    let l = c.numbers in
    let ok = c.in_ok-put_number_constant in
    let p = c.in-Some.ensures.passes in
    let here = lists.reached l.list in
    let there = lists.reached c.number_and_comma.new.self in
    record {
      at = p.passes.at;
      moves = moved a.start here there l.invariant.moves (moved_past here there _ p.passes);
      adds = sym (number_turn a.ty (version_of a.start) here there c.in-Some.n l.vals c.put_number_constant.new.vals (Ok ok.field-0) l.invariant.at p ok.ensures) ∙ l.invariant.adds;
    }

pub returns-in_err-put_number_constant-clause-adds : goal.returns-in_err-put_number_constant-clause-adds
returns-in_err-put_number_constant-clause-adds c =
    let a = c.args in
    let l = c.numbers in
    let err = c.in_err-put_number_constant in
    let v = version_of a.start in
    let here = lists.reached l.list in
    let there = lists.reached c.number_and_comma.new.self in
    let wrong = number_turn a.ty v here there c.in-Some.n l.vals c.put_number_constant.new.vals (Err err.field-0.0) l.invariant.at c.in-Some.ensures.passes err.ensures in
    let is : c.from_residual.result ≡ Err err.field-0.0 = search rules in
    is_wrong a.ty a.start a.vals.now c.put_number_constant.new.vals c.from_residual.result err.field-0.0 is (subst (λ (read : Result (List ℕ) CdlKind). FailsRead err.field-0.0 read) l.invariant.adds wrong)

pub returns-clause-adds : goal.returns-clause-adds
returns-clause-adds c = search (rules, left_at)
