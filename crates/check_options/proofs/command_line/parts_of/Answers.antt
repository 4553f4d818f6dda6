use Rattle.check_options.proofs.Prelude.{texts_of, ◌∙◌, ap, lit<}
use Rattle.std.proofs.lemmas.Iterator.Consumers.{map_from_collect}
use Rattle.std.proofs.lemmas.Iterator.Splits.{YieldsList-from_str_split}
use Rattle.check_options.proofs.command_line.parts_of.Goals as goal

pub returns : goal.returns
returns c =
    let split = c.split.ensures in
    let yields = YieldsList-from_str_split {s = c.split.result} 44 c.args.word.now (lit< tt) split.text split.has_more split.pattern in
    let parts = map_from_collect _ c.collect.ensures.ran yields in
    ap texts_of c.from_vec.ensures ∙ rw c.in_ok-collect.was at parts
