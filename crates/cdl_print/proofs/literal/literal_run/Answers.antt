use Rattle.cdl_print.proofs.Prelude.{◌∙◌, ap, arith, is_literal, prefix_len-le-length, leading_from_mask_l, trailing_mask_l, needs_escape}
use lib.Count.{count_trailing_zeros}
use Rattle.cdl_print.proofs.literal.literal_run.Goals as goal

pub returns-then-found-eq0-clause-len : goal.returns-then-found-eq0-clause-len
returns-then-found-eq0-clause-len c = omega (arith, leading_from_mask_l needs_escape c.args.vector (omega (arith, c.escape_mask-found.ensures)), c.fits-vector.0)

pub returns-else-found-eq0 : goal.returns-else-found-eq0
returns-else-found-eq0 c =
    let v = c.args.vector in
    let found = c.escape_mask-found.ensures in
    let run = ap (count_trailing_zeros 64) found ∙ trailing_mask_l needs_escape 64 v (omega arith) (omega (arith, found)) in
    record { len = run; within = omega (arith, run, prefix_len-le-length is_literal v, c.fits-vector.0) }
