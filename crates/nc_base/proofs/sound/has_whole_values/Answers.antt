use Rattle.nc_base.proofs.Prelude.{arith}
use Rattle.nc_base.proofs.SoundLaws.{whole_values-iff}
use Rattle.nc_base.proofs.sound.has_whole_values.Goals as goal

pub returns-then-bytes-size-eq0 : goal.returns-then-bytes-size-eq0
returns-then-bytes-size-eq0 c = grind (arith, whole_values-iff)
