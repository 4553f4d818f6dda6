use Rattle.cdl_print.proofs.Prelude.{rules, sym, ◌∙◌, stands_for_itself}
use Rattle.cdl_print.proofs.Runs.{plain_more}
use Rattle.cdl_print.proofs.escaped.plain_len.Goals as goal

pub loop-len-preserved : goal.loop-len-preserved
loop-len-preserved c = record {
  within = search rules;
  plain = plain_more (stands_for_itself c.args.quoting) c.args.bytes.now _ _ c.loop-len.len _ c.split_at.ensures.back c.split_at-in-loop-len.ensures.front c.loop-len.invariant.plain (sym c.are_plain.ensures ∙ c.if-not-are_plain.false);
}
