use Rattle.nc_base.proofs.Prelude.{arith}
use Rattle.nc_base.proofs.SoundLaws.{checked-small, small-checked}
use Rattle.nc_base.proofs.sound.has_sound_vars.Goals as goal

pub returns-then-are_sound_vars : goal.returns-then-are_sound_vars
returns-then-are_sound_vars c = grind (arith, small-checked, checked-small)
