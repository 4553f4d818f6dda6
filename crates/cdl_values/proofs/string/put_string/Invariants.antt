use Rattle.std.proofs.Common.{length, ◌≡◌}
use Rattle.cdl_values.specs.code.Unescaping.{with_rest}
use Rattle.cdl_values.proofs.string.put_string.Given as goal

abbrev pub invariant-escapes : goal.invariant-escapes
invariant-escapes l = with_rest l.array l.rest ≡ with_rest l.fn.array l.raw

abbrev pub decreases-escapes : goal.decreases-escapes
decreases-escapes l = length l.rest
