use Rattle.cdl_print.proofs.Prelude.{◌∙◌, ◌+◌, ◌++◌, ap, arith, take, escaped_in, stands_for_itself}
use Rattle.cdl_print.proofs.Runs.{escape_put, plain_itself, run_put}
use Rattle.cdl_print.proofs.escaped.gather_escaped.Goals as goal

pub loop-rest-preserved : goal.loop-rest-preserved
loop-rest-preserved c =
    let q = c.args.quoting in
    let run = c.put_plain_run-run.ensures in
    let put = run_put (stands_for_itself q) (escaped_in q) (plain_itself q) _ _ c.loop-rest.rest.now _ _ run.text run.plain c.split_at.ensures.back in
    record { text = put ∙ c.loop-rest.invariant.text; short = omega (arith, c.split_at.ensures.back_len, run.within, c.loop-rest.invariant.short) }

pub loop-rest-preserved-then-not-is_empty : goal.loop-rest-preserved-then-not-is_empty
loop-rest-preserved-then-not-is_empty c =
    let q = c.args.quoting in
    let run = c.put_plain_run-run.ensures in
    let put = run_put (stands_for_itself q) (escaped_in q) (plain_itself q) _ _ c.loop-rest.rest.now _ _ run.text run.plain c.split_at.ensures.back in
    let rest = c.split_at-then-not-is_empty.ensures in
    let escape = c.put_escape-end.ensures.written ∙ ap (λ t. take (c.loop-rest.end + c.put_plain_run-run.result) c.put_plain_run-run.new.text ++ t) c.escape.ensures in
    record {
      text = escape_put (escaped_in q) _ _ c.split_at.result.1.now _ escape (omega arith) rest.back ∙ put ∙ c.loop-rest.invariant.text;
      short = omega (arith, rest.back_len, c.split_at.ensures.back_len, run.within, c.put_escape-end.ensures.short, c.loop-rest.invariant.short);
    }
