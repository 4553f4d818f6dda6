use Rattle.nc_base.proofs.Prelude.{length-drop, arith, take_all}
use Rattle.nc_base.proofs.SoundLaws.{sound_shape}
use Rattle.nc_base.proofs.sound.are_sound_dimids.Goals as goal

pub returns-then-first-dims : goal.returns-then-first-dims
returns-then-first-dims c = grind (arith, take_all, length-drop, sound_shape)
