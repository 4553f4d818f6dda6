use Rattle.cdl_print.proofs.Prelude.{refl, arith, zip2_splat, zip2_of_maps, needs_escape}
use Rattle.cdl_print.specs.declared.literal.TheConstants.{ESCAPED}
use Rattle.cdl_print.proofs.Lanes.{masked, hit, low_ok, looked_up, itself}
use Rattle.cdl_print.proofs.literal.escape_mask.Goals as goal

pub swizzle-listed : goal.swizzle-listed
swizzle-listed c = low_ok c.args.vector c.fits-vector.0

pub returns : goal.returns
returns c =
    let v = c.args.vector in
    let long = c.fits-vector.0 in
    masked _ needs_escape v _ (omega arith) c.fits-vector.1
    (zip2_of_maps _ _ _ v (zip2_of_maps hit _ _ v (looked_up ESCAPED v long) (itself v)) (zip2_splat _ v 16 32 long)) refl
