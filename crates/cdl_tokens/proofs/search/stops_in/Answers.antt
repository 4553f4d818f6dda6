use Rattle.std.proofs.Common.{refl, arith, w8, ◌==◌, map, sym, ap, ◌∙◌}
use Rattle.std.proofs.lemmas.Simd.{bitmask_splat}
use Rattle.cdl_tokens.specs.code.Scanners.{is_stop}
use Rattle.cdl_tokens.specs.declared.search.TheConstants.{STRING_ENDS}
use Rattle.cdl_tokens.specs.declared.search.Stops.TheVariants.{AtStringEnd}
use Rattle.cdl_tokens.proofs.Masks.{two, low_ok, listed}
use Rattle.cdl_tokens.proofs.search.stops_in.Goals as goal
use lib.Lanes.{mask_l}

pub returns-in-At : goal.returns-in-At
returns-in-At c = bitmask_splat w8 (λ a b. a == b) c.args.vector 16 c.in-At.b c.fits-vector.0 (omega arith) ∙ ap (λ s. mask_l (map (is_stop s) c.args.vector)) (sym c.in-At.is)

pub returns-in-AtEscapeOr : goal.returns-in-AtEscapeOr
returns-in-AtEscapeOr c = two 0x5c c.in-AtEscapeOr.b c.args.vector c.fits-vector.0 c.fits-vector.1 ∙ ap (λ s. mask_l (map (is_stop s) c.args.vector)) (sym c.in-AtEscapeOr.is)

pub swizzle-listed : goal.swizzle-listed
swizzle-listed c = low_ok c.args.vector c.fits-vector.0

pub returns-in-AtStringEnd : goal.returns-in-AtStringEnd
returns-in-AtStringEnd c =
    listed STRING_ENDS c.args.vector (is_stop AtStringEnd) c.fits-vector.0 c.fits-vector.1 refl ∙ ap (λ s. mask_l (map (is_stop s) c.args.vector)) (sym c.in-AtStringEnd.is)
