use Rattle.nc_base.proofs.Prelude.{is_record_var, rules, sym, ◌∙◌, Var}
use Rattle.std.proofs.Common.{tests}
use Rattle.std.proofs.lemmas.Iterator.{YieldsList-from_map, YieldsList-from_slice}
use Rattle.std.proofs.lemmas.Iterator.Adapters.{option_map_id}
use Rattle.std.proofs.lemmas.Iterator.Consumers.{YieldsList-at, YieldsList-from_filter, min_from_yields_List}
use Rattle.nc_base.proofs.sizes.records_begin.Goals as goal

pub returns : goal.returns
returns c =
    sym (option_map_id _) ∙ min_from_yields_List c.map.result _ c.min.ensures.ran
    (YieldsList-from_map _ (λ (var : Var). var.begin_at) (YieldsList-at c.map.ensures.source
    (YieldsList-from_filter _ (is_record_var c.args.dims.now) (YieldsList-from_slice c.args.vars.now cc) c.filter.ensures.closure
    (λ x r q k. search (rules, tests)))) c.map.ensures.closure (λ x r q k. search (rules, tests)))
