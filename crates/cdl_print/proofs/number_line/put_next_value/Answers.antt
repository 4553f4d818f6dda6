use Rattle.cdl_print.proofs.Prelude.{◌∙◌, ℤ, subst, to_z-of_z, w128, PutNumber}
use Rattle.cdl_print.proofs.number_line.put_next_value.Goals as goal

pub returns-in-Byte-clause-put : goal.returns-in-Byte-clause-put
returns-in-Byte-clause-put c =
    let back = to_z-of_z {w = w128} (record { sfits = c.number_of-number.type_inv }) in
    subst (λ (number : ℤ). PutNumber c.args.layout.now number c.args.line c.args.text.now c.put_next_byte_number.result c.put_next_byte_number.new.text) (back ∙ c.number_of-number.ensures.number) c.put_next_byte_number.ensures.put

pub returns-in_default-clause-put : goal.returns-in_default-clause-put
returns-in_default-clause-put c =
    let back = to_z-of_z {w = w128} (record { sfits = c.number_of-number.type_inv }) in
    subst (λ (number : ℤ). PutNumber c.args.layout.now number c.args.line c.args.text.now c.put_next_number.result c.put_next_number.new.text) (back ∙ c.number_of-number.ensures.number) c.put_next_number.ensures.put
