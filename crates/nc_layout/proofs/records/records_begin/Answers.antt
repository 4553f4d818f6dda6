use Rattle.nc_layout.proofs.Prelude.{Slot, records_begin, rules, sym, ◌∙◌}
use Rattle.std.proofs.Common.{tests}
use Rattle.std.proofs.lemmas.Iterator.{YieldsList-from_map, YieldsList-from_slice}
use Rattle.std.proofs.lemmas.Iterator.Adapters.{option_map_id}
use Rattle.std.proofs.lemmas.Iterator.Consumers.{YieldsList-at, YieldsList-from_filter, min_from_yields_List}
use Rattle.nc_layout.proofs.records.records_begin.Goals as goal

pub returns : goal.returns
unfolding records_begin
returns c =
    sym (option_map_id _) ∙ min_from_yields_List c.map.result _ c.min.ensures.ran
    (YieldsList-from_map _ (λ (slot : Slot). slot.begin) (YieldsList-at c.map.ensures.source
    (YieldsList-from_filter _ (λ (slot : Slot). slot.is_record) (YieldsList-from_slice c.args.slots.now cc) c.filter.ensures.closure
    (λ x r q k. search (rules, tests)))) c.map.ensures.closure (λ x r q k. search (rules, tests)))
