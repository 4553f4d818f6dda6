use Rattle.nc_file.proofs.Prelude.{◌≡◌, var_after, strict}
use Rattle.nc_window.proofs.Totals.{total_of}
use Rattle.nc_file.proofs.Elements.{ReadsOn}
use Rattle.nc_file.proofs.read.variable.read_vars.Given as goal

abbrev pub invariant-loop : goal.invariant-loop
invariant-loop g l = record {
  reads : ReadsOn l.fn.window l.window (var_after strict l.version l.dims) l.n l.counter l.vars;
  total : l.total ≡ total_of l.dims l.vars;
}
