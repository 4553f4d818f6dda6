use Rattle.cdl_print.proofs.Prelude.{◌∙◌, ◌++◌, List, ℕ, ap, length, take, append_assoc, to_z-of_z, w128, cast_signed, cast_unsigned, number_text, lead_bytes, next_number_lead, look_at, number_bytes}
use Rattle.cdl_print.specs.code.NumberTexts.{text_of}
use Rattle.cdl_print.proofs.number_row.gather_number.Goals as goal

pub returns-clause-text : goal.returns-clause-text
returns-clause-text c =
    let look = look_at c.args.layout.now in
    let before = take c.args.at c.args.text.now in
    let text = number_text look c.number_of-number.result in
    let back = to_z-of_z {w = w128} (record { sfits = c.number_of-number.type_inv }) in
    let shown = ap (λ b. text_of b (cast_signed w128 (cast_unsigned w128 c.number_of-number.result))) c.prints_as_fill-is_fill.ensures ∙ ap (λ z. number_text look z) back in
    c.put_text.ensures
    ∙ ap (λ (t : List ℕ). take c.put_lead-start.result c.put_lead-start.new.text ++ t) shown
    ∙ ap (λ (t : List ℕ). t ++ text) c.put_lead-start.ensures.written
    ∙ append_assoc before (lead_bytes c.number_lead-lead.result) text
    ∙ ap (λ g. before ++ (lead_bytes g ++ text)) (c.number_lead-lead.ensures ∙ ap (λ n. next_number_lead look c.args.progress.now n) (c.text_len-len.ensures.len ∙ ap length shown))
    ∙ ap (λ x. before ++ number_bytes look c.args.progress.now x) c.number_of-number.ensures.number
