use Rattle.nc_file.proofs.Prelude.{◌≡◌, length, ◌==◌, dimid_after}
use Rattle.nc_file.proofs.Elements.{ReadsOn}
use Rattle.nc_file.proofs.read.variable.read_dimids.Given as goal

abbrev pub invariant-loop : goal.invariant-loop
invariant-loop g l = record {
  reads : ReadsOn l.fn.window l.window (dimid_after l.version l.dims) l.n l.counter l.dimids;
  first : l.first ≡ (length l.dimids == 0);
}
