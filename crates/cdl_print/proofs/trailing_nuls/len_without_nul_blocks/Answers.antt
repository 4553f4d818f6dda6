use Rattle.cdl_print.proofs.Prelude.{◌-◌, ◌∙◌, arith, ap, length, take, sym, take-take}
use Rattle.cdl_print.proofs.TrailingNuls.{nul_block}
use Rattle.cdl_print.proofs.trailing_nuls.len_without_nul_blocks.Goals as goal

pub loop-rest-preserved : goal.loop-rest-preserved
loop-rest-preserved c =
    let rest = c.loop-rest.rest.now in
    let len = c.split_at.ensures.front_len in
    record {
      prefix = c.split_at.ensures.front ∙ ap (take (length rest - 16)) c.loop-rest.invariant.prefix
          ∙ take-take (length rest - 16) (length rest) c.args.bytes.now (omega arith) ∙ ap (λ n. take n c.args.bytes.now) (sym len);
      within = omega (arith, len, c.loop-rest.invariant.within);
      only_nuls = omega (arith, len, c.split_at.ensures.back_len, c.loop-rest.invariant.only_nuls, nul_block _ rest _ _ c.split_at.ensures.front c.split_at.ensures.back (sym c.are_nuls.ensures ∙ c.if-not-are_nuls.false));
    }
