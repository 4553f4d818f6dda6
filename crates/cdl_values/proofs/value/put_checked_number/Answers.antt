use Rattle.cdl_values.proofs.Prelude.{value_of, parts, held, joined, held_bytes, is_full, rules, ◌≡◌, sym, ◌∙◌, Ok, false, Some, option_map}
use Rattle.cdl_values.proofs.Ranges.{number_added}
use Rattle.cdl_values.proofs.value.put_checked_number.Goals as goal

pub returns-clause-adds : goal.returns-clause-adds
unfolding value_of
returns-clause-adds c =
    let off : is_full c.args.capacity ≡ false = sym c.is_full.ensures ∙ c.if-is_full.false in
    let said : Some c.in_ok-n.n ≡ option_map held (parts c.args.version c.args.bytes.now) = sym c.in_ok-n.ensures.ok_part ∙ c.number_of_token.ensures in
    let adds : joined (Ok c.args.array.now) (held_bytes c.in-Numbers.fill.ty c.in_ok-n.n.minus c.in_ok-n.n.magnitude) ≡ Ok c.put_numeral.new.array = search rules in
    rw (c.in-Numbers.is) (rw (off) (number_added c.args.array.now c.put_numeral.new.array c.in-Numbers.fill.ty c.in-Numbers.fill.value (parts c.args.version c.args.bytes.now) c.in_ok-n.n said adds))
