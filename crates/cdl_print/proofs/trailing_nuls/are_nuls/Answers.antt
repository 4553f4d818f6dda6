use Rattle.cdl_print.proofs.Prelude.{◌==◌, ◌&&◌, ◌∙◌, ap, sym, get_or, list_all, take_all}
use Rattle.std.proofs.lemmas.List.Folds.{list_all_more}
use Rattle.cdl_print.proofs.trailing_nuls.are_nuls.Goals as goal

pub loop-b-preserved : goal.loop-b-preserved
loop-b-preserved c =
    ap (λ b. b && (get_or c.args.block.now c.loop-b.b-index 0 == 0)) c.loop-b.invariant ∙ sym (list_all_more (λ b. b == 0) c.args.block.now c.loop-b.b-index 0 c.loop-b-test.true)

pub returns : goal.returns
returns c = c.loop-b.invariant ∙ ap (list_all (λ b. b == 0)) (take_all c.loop-b.b-index c.args.block.now c.loop-b-test.false)
