use Rattle.nc_window.proofs.Bytes.{Progress}
use Rattle.nc_window.proofs.window.Window.skip_by_bytes.Given as goal

abbrev pub invariant-loop : goal.invariant-loop
invariant-loop g l = Progress l.fn.self l.self l.counter
