use Rattle.nc_window.proofs.Prelude.{refl}
use Rattle.nc_window.proofs.Bytes.{took_byte}
use Rattle.nc_window.proofs.window.Window.byte.Goals as goal

pub returns-clause-byte : goal.returns-clause-byte
returns-clause-byte g c =
    took_byte c.args.self.now c.ensure_byte.new.self _ c.in_ok-ensure_byte.ensures.kept c.in_ok-ensure_byte.ensures.filled.1 c.in_ok-ensure_byte.ensures.filled.0 refl
