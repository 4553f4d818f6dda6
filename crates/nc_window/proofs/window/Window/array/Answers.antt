use Rattle.nc_window.proofs.Prelude.{refl}
use Rattle.nc_window.proofs.Bytes.{array_held}
use Rattle.nc_window.proofs.window.Window.array.Goals as goal

pub returns : goal.returns
returns g c = array_held c.args.self.now _ g.row.N c.peek_array-bytes.result (record { source = refl; buf = refl; base = refl; filled = refl; pos = refl }) c.peek_array-bytes.ensures
