use Rattle.nc_fields.proofs.Prelude.{var_part, number, err_from_is_err_and, steps_of, ap}
use Rattle.nc_fields.proofs.Elements.{part-then, part-stops, part-along, steps-along, checked-done}
use Rattle.nc_fields.proofs.fields.FieldReader.var.Goals as goal

pub returns-in_err-name-clause-var : goal.returns-in_err-name-clause-var
unfolding var_part
returns-in_err-name-clause-var g c = let p = err_from_is_err_and c.from_residual.result c.from_residual.ensures.1 in rw (p.1, p.2) (part-stops c.in_err-name.ensures)

pub returns-in_err-dimids-clause-var : goal.returns-in_err-dimids-clause-var
unfolding var_part
returns-in_err-dimids-clause-var g c = let p = err_from_is_err_and c.from_residual-in_err-dimids.result c.from_residual-in_err-dimids.ensures.1 in rw (p.1, p.2) (part-then c.in_ok-name.ensures (part-stops c.in_err-dimids.ensures))

pub returns-in_err-atts-clause-var : goal.returns-in_err-atts-clause-var
unfolding var_part
returns-in_err-atts-clause-var g c = let p = err_from_is_err_and c.from_residual-in_err-atts.result c.from_residual-in_err-atts.ensures.1 in rw (p.1, p.2) (part-then c.in_ok-name.ensures (part-then c.in_ok-dimids.ensures (part-stops c.in_err-atts.ensures)))

pub returns-in_err-sized-clause-var : goal.returns-in_err-sized-clause-var
unfolding var_part
returns-in_err-sized-clause-var g c =
    let p = err_from_is_err_and c.from_residual-in_err-sized.result c.from_residual-in_err-sized.ensures.1 in rw (p.1, p.2) (part-then c.in_ok-name.ensures (part-then c.in_ok-dimids.ensures (part-then c.in_ok-atts.ensures (part-stops (rw c.as_slice-ids.ensures at c.in_err-sized.ensures.var_type)))))

pub returns-in_err-number-clause-var : goal.returns-in_err-number-clause-var
unfolding var_part
returns-in_err-number-clause-var g c =
    let p = err_from_is_err_and c.from_residual-in_err-number.result c.from_residual-in_err-number.ensures.1 in rw (p.1, p.2) (part-then c.in_ok-name.ensures (part-then c.in_ok-dimids.ensures (part-then c.in_ok-atts.ensures
    (part-then (rw c.as_slice-ids.ensures at c.in_ok-sized.ensures.var_type) (part-stops (part-along (ap number c.of_counts.ensures) (steps-along (ap steps_of c.field-vsize.ensures) c.in_err-number.ensures)))))))

pub returns-in_err-begin_at-clause-var : goal.returns-in_err-begin_at-clause-var
unfolding var_part
returns-in_err-begin_at-clause-var g c =
    let p = err_from_is_err_and c.from_residual-in_err-begin_at.result c.from_residual-in_err-begin_at.ensures.1 in rw (p.1, p.2) (part-then c.in_ok-name.ensures (part-then c.in_ok-dimids.ensures (part-then c.in_ok-atts.ensures
    (part-then (rw c.as_slice-ids.ensures at c.in_ok-sized.ensures.var_type) (part-then (part-along (ap number c.of_counts.ensures) (steps-along (ap steps_of c.field-vsize.ensures) c.in_ok-number.ensures)) (part-stops c.in_err-begin_at.ensures))))))

pub returns-clause-var : goal.returns-clause-var
unfolding var_part
returns-clause-var g c =
    part-then c.in_ok-name.ensures (part-then c.in_ok-dimids.ensures (part-then c.in_ok-atts.ensures
    (part-then (rw c.as_slice-ids.ensures at c.in_ok-sized.ensures.var_type) (part-then (part-along (ap number c.of_counts.ensures) (steps-along (ap steps_of c.field-vsize.ensures) c.in_ok-number.ensures)) (part-then c.in_ok-begin_at.ensures checked-done)))))
