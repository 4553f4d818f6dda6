use Rattle.nc_window.proofs.Prelude.{◌≡◌, length, take, OnTrue, left}
use Rattle.nc_window.proofs.Bytes.{Progress}
use Rattle.nc_window.proofs.window.Window.array_by_bytes.Given as goal

abbrev pub invariant-loop-i : goal.invariant-loop-i
invariant-loop-i g l = record {
  so_far : Progress l.fn.self l.self l.i;
  same : OnTrue g.S.Source.is_transparent (take l.i l.array ≡ take l.i (left l.fn.self));
  len : length l.array ≡ g.row.N;
}
