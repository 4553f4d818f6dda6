use Rattle.cdl_values.proofs.Prelude.{lexeme_of, place, sym, ◌∙◌}
use Rattle.cdl_values.proofs.ValueRuns.{reached, takes_further, token_on}
use Rattle.cdl_values.proofs.value_run.take_values.Goals as goal

-- the value of the token alone
pub values-preserved : goal.values-preserved
values-preserved c =
    let a = c.args in
    let l = c.values in
    let passes = c.in-Some.ensures.passes in
    let e = c.in_ok-unread.ensures in
    let here = place l.unread l.array in
    let there = reached c.token_and_comma.new.self c.put_checked_value.new.array c.in_ok-unread.field-0 in
    let one = token_on a.form c.version-version.result here there (lexeme_of c.in-Some.token) l.invariant.version l.invariant.at passes e.good (sym c.is_value.ensures ∙ c.if-not-is_value.false) e.packs in
    record {
      at = passes.at;
      version = l.invariant.version ∙ sym passes.same.version;
      so = takes_further a.form (place a.start a.array.now) here there l.invariant.so one;
    }

-- and plain values after it
pub values-preserved-then-may_precede_plain : goal.values-preserved-then-may_precede_plain
values-preserved-then-may_precede_plain c =
    let a = c.args in
    let l = c.values in
    let passes = c.in-Some.ensures.passes in
    let e = c.in_ok-unread.ensures in
    let more = c.in_ok-unread-2.ensures in
    let start = place a.start a.array.now in
    let here = place l.unread l.array in
    let there = reached c.token_and_comma.new.self c.put_checked_value.new.array c.in_ok-unread.field-0 in
    let rest = place c.in_ok-unread-2.unread c.take_plain_values.new.array in
    let one = token_on a.form c.version-version.result here there (lexeme_of c.in-Some.token) l.invariant.version l.invariant.at passes e.good (sym c.is_value.ensures ∙ c.if-not-is_value.false) e.packs in
    record {
      at = more.at;
      version = l.invariant.version ∙ sym passes.same.version ∙ sym more.on.passes.same.version;
      so = takes_further a.form start here rest l.invariant.so (takes_further a.form here there rest one more);
    }
