use Rattle.nc_window.proofs.Prelude.{refl}
use Rattle.nc_window.proofs.Bytes.{skip_held}
use Rattle.nc_window.proofs.window.Window.skip.Goals as goal

pub returns : goal.returns
returns g c = skip_held c.args.self.now _ c.args.n (record { source = refl; buf = refl; base = refl; filled = refl; pos = refl })
