use Rattle.nc_window.proofs.Prelude.{arith}
use Rattle.nc_window.proofs.Bytes.{is_ready}
use Rattle.nc_window.proofs.window.Window.ready.Goals as goal

pub returns : goal.returns
returns g c = is_ready c.args.self.now c.args.most c.min-k.result (omega (arith, c.min-k.ensures)) (omega (arith, c.min-k.ensures)) (omega (arith, c.min-k.ensures))
