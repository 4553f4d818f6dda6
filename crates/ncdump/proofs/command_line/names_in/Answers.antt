use Rattle.ncdump.proofs.Prelude.{◌∙◌, lit<, YieldsList-at, YieldsList-end}
use Rattle.std.proofs.lemmas.Iterator.Splits.{YieldsList-from_str_split}
use Rattle.ncdump.proofs.command_line.names_in.Goals as goal

pub returns : goal.returns
returns c =
    let split = c.split-name-items.ensures in
    let pieces = YieldsList-at c.into_iter-name-iterator.ensures.into_iter_gives (YieldsList-from_str_split {s = c.split-name-items.result} 44 c.args.word.now (lit< tt) split.text split.has_more split.pattern) in
    c.loop-name.invariant ∙ (YieldsList-end pieces c.loop-name.yielded _ c.loop-name.yielded_by _ _ c.in-None.is c.next.ensures.steps).0
