use Rattle.nc_rules.proofs.Prelude.{option_to_list, Entry, Finding, field_at, indexed, indexed_from, duplicate_name, first_index, ◌≡◌, ◌+◌, ◌∷◌, [], ◌++◌, List, take, drop, ap, sym, ◌∙◌, append_assoc, arith, Option}
use Rattle.nc_rules.proofs.IndexedLists.{rest, indexed-take}
use Rattle.nc_rules.proofs.name_rules.push_name_findings.Goals as goal

pub loop-i-preserved : goal.loop-i-preserved
loop-i-preserved c =
    let es = c.args.entries.now in
    let i = c.loop-i.i in
    let f = field_at i c.index-entries-i.result in
    let earlier = indexed (take i es) in
    let later = indexed_from (i + 1) (drop (i + 1) es) in
    let found : List Finding = c.loop-i.found in
    let now : List Finding = c.push_some.new.found in
    let here : Option Finding = duplicate_name earlier f in
    let more : indexed (take (i + 1) es) ≡ earlier ++ f ∷ [] = indexed-take es i c.index-entries-i.result c.loop-i-test.true
    ∙ ap (λ (e : Entry). earlier ++ field_at i e ∷ []) (sym c.index-entries-i.is) in
    let next : indexed_from i (drop i es) ≡ f ∷ later = rest (λ fs. fs) es i c.index-entries-i.result c.loop-i-test.true
    ∙ ap (λ (e : Entry). field_at i e ∷ later) (sym c.index-entries-i.is) in
    let pushed : now ≡ found ++ option_to_list here = c.in_ok-push_some.ensures
    ∙ ap (λ (o : Option Finding). found ++ option_to_list o) (c.in_ok-duplicate.ensures.finding earlier c.loop-i.invariant.names) in
    record {
      names = λ key. c.in_ok-duplicate.ensures.names earlier c.loop-i.invariant.names key ∙ ap (first_index key) (sym more);
      found = grind (arith, append_assoc, more, next, pushed);
    }
