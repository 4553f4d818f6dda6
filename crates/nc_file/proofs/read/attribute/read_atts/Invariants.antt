use Rattle.nc_file.proofs.Prelude.{att_after, strict}
use Rattle.nc_file.proofs.Elements.{ReadsOn}
use Rattle.nc_file.proofs.read.attribute.read_atts.Given as goal

abbrev pub invariant-loop : goal.invariant-loop
invariant-loop g l = ReadsOn l.fn.window l.window (att_after strict l.version) l.n l.counter l.atts
