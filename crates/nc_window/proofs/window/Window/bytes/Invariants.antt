use Rattle.nc_window.proofs.Prelude.{◌≡◌, ◌+◌, length, take, OnTrue, left}
use Rattle.nc_window.proofs.Bytes.{Progress}
use Rattle.nc_window.proofs.window.Window.bytes.Given as goal

abbrev pub invariant-loop-missing : goal.invariant-loop-missing
invariant-loop-missing g l = record {
  so_far : Progress l.fn.self l.self (length l.content);
  same : OnTrue g.S.Source.is_transparent (l.content ≡ take (length l.content) (left l.fn.self));
  whole : length l.content + l.missing ≡ l.n;
}

abbrev pub decreases-loop-missing : goal.decreases-loop-missing
decreases-loop-missing g l = l.missing
