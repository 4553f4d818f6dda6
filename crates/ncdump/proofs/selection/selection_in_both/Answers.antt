use Rattle.ncdump.proofs.Prelude.{rules, ◌&&◌, YieldsList-at, Var, holds_if}
use Rattle.std.proofs.lemmas.Iterator.{YieldsList-from_map, YieldsList-from_slice}
use Rattle.std.proofs.lemmas.Iterator.Adapters.{items_from_extend}
use Rattle.ncdump.proofs.selection.selection_in_both.Goals as goal

pub returns : goal.returns
returns c =
    let is_selected = λ (var : Var). holds_if c.args.chosen.now var.name && holds_if c.args.dims.now var.name in
    let h = items_from_extend c.extend.result c.extend.ensures.ran (YieldsList-from_map _ is_selected (YieldsList-at c.map.ensures.source (YieldsList-from_slice c.args.vars.now c.iter.ensures.rest)) c.map.ensures.closure (λ x r q k. search rules)) in
    search rules
