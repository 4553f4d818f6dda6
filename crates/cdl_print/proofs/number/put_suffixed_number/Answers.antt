use Rattle.cdl_print.proofs.Prelude.{◌∙◌, sym, to_z-of_z, w128, append-nil}
use Rattle.cdl_print.proofs.Joined.{number_put}
use Rattle.cdl_print.proofs.number.put_suffixed_number.Goals as goal

pub returns-then-is_last-clause-text : goal.returns-then-is_last-clause-text
returns-then-is_last-clause-text c =
    let back = to_z-of_z {w = w128} (record { sfits = c.number_of-number.type_inv }) in
    number_put c.args.ty c.args.value.now _ _ _ _ _ _ c.args.is_last (back ∙ c.number_of-number.ensures.number) c.suffix.ensures c.put_decimal.ensures c.put_suffix-end.ensures.written (rw c.if-is_last.true (sym (append-nil _)))

pub returns-else-is_last-clause-text : goal.returns-else-is_last-clause-text
returns-else-is_last-clause-text c =
    let back = to_z-of_z {w = w128} (record { sfits = c.number_of-number.type_inv }) in
    number_put c.args.ty c.args.value.now _ _ _ _ _ _ c.args.is_last (back ∙ c.number_of-number.ensures.number) c.suffix.ensures c.put_decimal.ensures c.put_suffix-end.ensures.written (rw c.if-is_last.false c.put_comma.ensures.written)
