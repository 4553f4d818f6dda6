use Rattle.std.proofs.Common.{◌==◌, arith, ap, ◌∙◌, w8}
use Rattle.std.proofs.lemmas.Simd.{bitmask_splat, ones-mask_l}
use Rattle.std.proofs.lemmas.List.Sums.{count_by-le-length}
use Rattle.std.specs.Int.RustNames.{count_ones}
use Rattle.cdl_tokens.proofs.search.equal_in.Goals as goal

pub returns : goal.returns
returns c = let ones = ap count_ones (bitmask_splat w8 (λ a b. a == b) c.args.vector 64 c.args.byte c.fits-vector.0 (omega arith)) ∙ ones-mask_l (λ b. b == c.args.byte) c.args.vector in grind (arith, ones, count_by-le-length (λ b. b == c.args.byte) c.args.vector)
