use Rattle.nc_fields.proofs.Passed.{PassedSome}
use Rattle.nc_fields.proofs.attribute.pass_values.Given as goal

abbrev pub invariant-loop-missing : goal.invariant-loop-missing
invariant-loop-missing g l = PassedSome l.fn.window l.window l.n l.missing l.last_is_nul

abbrev pub decreases-loop-missing : goal.decreases-loop-missing
decreases-loop-missing g l = l.missing
