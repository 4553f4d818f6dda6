use Rattle.nc_rules.proofs.Prelude.{option_copied, is_index, index_of, ◌≡◌, ◌∙◌, ap, sym, None, Some}
use Rattle.nc_rules.proofs.NameKeys.{index-found}
use Rattle.nc_rules.proofs.names.FirstNames.is_first.Goals as goal

pub returns-in_default : goal.returns-in_default
returns-in_default c =
    let none : index_of c.args.self.now (c.args.list, c.args.name.now) ≡ None =
    sym (index-found c.args.self.now.first (c.hash.result, (c.args.list, c.args.name)) c.hash.ensures)
    ∙ sym c.get.ensures.value ∙ ap option_copied c.in_default.is in
    sym (ap (is_index c.args.index) none)

pub returns : goal.returns
returns c =
    let some : index_of c.args.self.now (c.args.list, c.args.name.now) ≡ Some c.in-Some.first.now =
    sym (index-found c.args.self.now.first (c.hash.result, (c.args.list, c.args.name)) c.hash.ensures)
    ∙ sym c.get.ensures.value ∙ ap option_copied c.in-Some.is in
    sym (ap (is_index c.args.index) some)
