use Rattle.nc_rules.proofs.Prelude.{option_map, option_or, field_at, NameKey, is_same_key, key_of, index_if, ◌≡◌, ℕ, ◌∙◌, ap, sym, Option, Some, None}
use Rattle.nc_rules.proofs.NameKeys.{LentName, lent, first_index-other, first_index-name}
use Rattle.nc_rules.proofs.name_rules.add_name.Goals as goal

pub returns-in_default-clause-names : goal.returns-in_default-clause-names
returns-in_default-clause-names c = λ earlier has key.
    let f = field_at c.args.i c.args.entry.now in
    let none : key_of f.entry ≡ None = sym c.key_of.ensures ∙ ap (λ (o : Option LentName). option_map lent o) c.in_default.is in
    has key ∙ sym (first_index-other key earlier f none)

pub returns-clause-names : goal.returns-clause-names
returns-clause-names c = λ earlier has key.
    let f = field_at c.args.i c.args.entry.now in
    let k : NameKey = (c.in-Some.list, c.in-Some.name.now) in
    let is : key_of f.entry ≡ Some k = sym c.key_of.ensures ∙ ap (λ (o : Option LentName). option_map lent o) c.in-Some.is in
    c.in_ok-first.ensures.names key ∙ ap (λ (o : Option ℕ). option_or o (index_if (is_same_key k key) c.args.i)) (has key)
    ∙ first_index-name key k earlier f is
