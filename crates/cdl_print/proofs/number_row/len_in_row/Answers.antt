use Rattle.cdl_print.proofs.Prelude.{◌*◌, ◌<◌, arith, ap, sym, ◌∙◌, length, take, numbers}
use Rattle.cdl_print.proofs.Batches.{count_taken, length_taken}
use Rattle.cdl_print.proofs.number_row.len_in_row.Goals as goal

pub returns-clause-whole : goal.returns-clause-whole
returns-clause-whole c =
    let count = count_taken c.args.layout.now.ty c.size-size.result c.min-count.result c.args.bytes.now c.size-size.ensures (omega (arith, c.min-count.ensures)) in
    length_taken c.size-size.result c.min-count.result c.args.bytes.now (omega (arith, c.min-count.ensures)) ∙ ap (λ k. k * c.size-size.result) (sym count) ∙ ap (λ s. length (numbers c.args.layout.now.ty (take (c.min-count.result * c.size-size.result) c.args.bytes.now)) * s) c.size-size.ensures

pub returns-clause-in_row : goal.returns-clause-in_row
returns-clause-in_row c some =
    let count = count_taken c.args.layout.now.ty c.size-size.result c.min-count.result c.args.bytes.now c.size-size.ensures (omega (arith, c.min-count.ensures)) in
    let left : 0 < c.values_left_in_row-left.result = omega (arith, count, some, c.min-count.ensures) in
    (c.values_left_in_row-left.ensures.some left, omega (arith, count, c.min-count.ensures, c.values_left_in_row-left.ensures.within left))
