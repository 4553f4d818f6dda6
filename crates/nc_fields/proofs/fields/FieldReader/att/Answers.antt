use Rattle.nc_fields.proofs.Prelude.{att_part, ignored, bytes, HeaderTruncated, padding_len, steps_of, ap, sym, ◌*◌, ◌∙◌}
use Rattle.nc_fields.proofs.Elements.{failed, part-then, part-stops, part-along, steps-along, checked-done}
use Rattle.nc_fields.proofs.fields.FieldReader.att.Goals as goal

pub returns-in_err-name : goal.returns-in_err-name
unfolding att_part
returns-in_err-name g c = failed c.from_residual.ensures.1 (part-stops c.in_err-name.ensures)

pub returns-in_err-ty : goal.returns-in_err-ty
unfolding att_part
returns-in_err-ty g c = failed c.from_residual-in_err-ty.ensures.1 (part-then c.in_ok-name.ensures (part-stops c.in_err-ty.ensures))

pub returns-in_err-n : goal.returns-in_err-n
unfolding att_part
returns-in_err-n g c = failed c.from_residual-in_err-n.ensures.1 (part-then c.in_ok-name.ensures (part-then c.in_ok-ty.ensures (part-stops (steps-along (ap steps_of c.field-count.ensures) c.in_err-n.ensures))))

pub returns-in_err-values : goal.returns-in_err-values
unfolding att_part
returns-in_err-values g c = failed c.from_residual-in_err-values.ensures.1 (part-then c.in_ok-name.ensures (part-then c.in_ok-ty.ensures (part-then (steps-along (ap steps_of c.field-count.ensures) c.in_ok-n.ensures) (part-stops (part-along (ap (λ k. bytes (c.in_ok-n.n * k) HeaderTruncated) c.size.ensures) c.in_err-values.ensures.checked)))))

pub returns-in_err-filling : goal.returns-in_err-filling
unfolding att_part
returns-in_err-filling g c =
    failed c.from_residual-in_err-filling.ensures.1 (part-then c.in_ok-name.ensures (part-then c.in_ok-ty.ensures (part-then (steps-along (ap steps_of c.field-count.ensures) c.in_ok-n.ensures)
    (part-then (part-along (ap (λ k. bytes (c.in_ok-n.n * k) HeaderTruncated) c.size.ensures) c.in_ok-values.ensures.checked) (part-stops (part-along (ap ignored (c.padding_len.ensures ∙ ap padding_len (sym c.in_ok-values.ensures.whole))) (steps-along (ap steps_of c.field-padding.ensures) c.in_err-filling.ensures)))))))

pub returns : goal.returns
unfolding att_part
returns g c =
    rw c.new.ensures (part-then c.in_ok-name.ensures (part-then c.in_ok-ty.ensures (part-then (steps-along (ap steps_of c.field-count.ensures) c.in_ok-n.ensures)
    (part-then (part-along (ap (λ k. bytes (c.in_ok-n.n * k) HeaderTruncated) c.size.ensures) c.in_ok-values.ensures.checked) (part-then (part-along (ap ignored (c.padding_len.ensures ∙ ap padding_len (sym c.in_ok-values.ensures.whole))) (steps-along (ap steps_of c.field-padding.ensures) c.in_ok-filling.ensures)) checked-done)))))
