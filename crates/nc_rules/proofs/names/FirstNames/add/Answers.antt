use Rattle.nc_rules.proofs.Prelude.{◌∙◌, sym}
use Rattle.nc_rules.proofs.NameKeys.{LentKey, index-found, added-new, added-again}
use Rattle.nc_rules.proofs.names.FirstNames.add.Goals as goal

pub returns-in_default-clause-first : goal.returns-in_default-clause-first
returns-in_default-clause-first c = c.in_ok-earlier.ensures.old ∙ index-found c.args.self.now.first (c.hash.result, (c.args.list, c.args.name)) c.hash.ensures

pub returns-in_ok-insert-clause-first : goal.returns-in_ok-insert-clause-first
returns-in_ok-insert-clause-first c =
    sym c.in-Some.is ∙ c.in_ok-earlier.ensures.old ∙ index-found c.args.self.now.first (c.hash.result, (c.args.list, c.args.name)) c.hash.ensures

pub returns-in_default-clause-names : goal.returns-in_default-clause-names
returns-in_default-clause-names c =
    let key : LentKey = (c.hash.result, (c.args.list, c.args.name)) in
    added-new c.args.self.now.first c.insert.new.self key c.args.index c.hash.ensures
    (sym (index-found c.args.self.now.first key c.hash.ensures) ∙ sym c.in_ok-earlier.ensures.old ∙ c.in_default.is) c.in_ok-earlier.ensures.updates

pub returns-in_ok-insert-clause-names : goal.returns-in_ok-insert-clause-names
returns-in_ok-insert-clause-names c =
    let key : LentKey = (c.hash.result, (c.args.list, c.args.name)) in
    added-again c.args.self.now.first c.insert.new.self c.insert-in-Some.new.self key c.args.index c.in-Some.first c.hash.ensures
    (sym (index-found c.args.self.now.first key c.hash.ensures) ∙ sym c.in_ok-earlier.ensures.old ∙ c.in-Some.is) c.in_ok-earlier.ensures.updates
    c.in_ok-insert.ensures.updates
