use Rattle.nc_window.proofs.Prelude.{◌≡◌, ◌+◌, ◌++◌, length, take, OnTrue, left}
use Rattle.nc_window.proofs.Bytes.{Progress}
use Rattle.nc_window.proofs.window.Window.read_up_to.Given as goal

abbrev pub invariant-loop : goal.invariant-loop
invariant-loop g l = record {
  so_far : Progress l.fn.self l.self l.counter;
  len : length l.out ≡ length l.fn.out + l.counter;
  same : OnTrue g.S.Source.is_transparent (l.out ≡ l.fn.out ++ take l.counter (left l.fn.self));
}
