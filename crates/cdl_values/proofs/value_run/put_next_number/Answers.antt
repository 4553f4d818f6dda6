use Rattle.cdl_values.proofs.Prelude.{NcType, bytes_of_number, held_bytes, joined, capacity_minus, PassesUnderscore, rules, ◌≡◌, ◌++◌, sym, ap, ◌∙◌, subst, Ok, refl}
use Rattle.cdl_statements.proofs.InRange.{has_it}
use Rattle.cdl_statements.specs.code.ValueLists as lists
use Rattle.cdl_statements.specs.declared.{value_list.ValueList.ValueList}
use Rattle.cdl_values.proofs.ValueRuns.{fill_on, number_on, reached}
use Rattle.cdl_values.proofs.value_run.put_next_number.Goals as goal

pub returns-in-Some-clause-more : goal.returns-in-Some-clause-more
returns-in-Some-clause-more c = λ _ left room.
    let a = c.args in
    let n = c.in-Some.n in
    let new = c.put_numeral_inline.new.array in
    let added : joined (Ok a.array.now) (held_bytes a.ty n.minus n.magnitude) ≡ Ok new = search rules in
    let adds : joined (Ok a.array.now) (held_bytes a.fill.ty n.minus n.magnitude) ≡ Ok new = ap (λ (ty : NcType). joined (Ok a.array.now) (held_bytes ty n.minus n.magnitude)) (sym c.requires.ty) ∙ added in
    number_on a.fill (reached (lists.reached a.list.now) a.array.now left) (reached (lists.reached c.number_and_comma.new.self) new (capacity_minus 1 left)) n c.requires.at c.in-Some.ensures.passes room adds refl

pub pack_number-requires : goal.pack_number-requires
pack_number-requires c = search (rules, has_it)

pub returns-then-underscore_and_comma-clause-more : goal.returns-then-underscore_and_comma-clause-more
returns-then-underscore_and_comma-clause-more c = λ _ left room.
    let a = c.args in
    let new = c.pack_number.new.array in
    let rest = lists.reached c.underscore_and_comma.new.self in
    let same : c.number_and_comma.new.self ≡ a.list.now = c.number_and_comma.ensures.stays c.in_default.is in
    let passes = subst (λ (l : ValueList). PassesUnderscore (lists.reached l) rest) same (c.underscore_and_comma.ensures.passes c.if-underscore_and_comma.true) in
    let adds : new ≡ a.array.now ++ bytes_of_number a.fill.ty a.fill.value = search rules in
    let start = reached (lists.reached a.list.now) a.array.now left in
    let after = reached rest new (capacity_minus 1 left) in
    fill_on a.fill start after c.requires.at passes room adds refl
