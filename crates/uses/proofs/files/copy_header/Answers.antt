use Rattle.nc_base.proofs.Fitting.{has-begins}
use Rattle.uses.proofs.files.copy_header.Goals as goal

pub write_header-requires-clause-sound : goal.write_header-requires-clause-sound
write_header-requires-clause-sound g c = (has-begins _ _ _ c.in_ok-header.ensures.sound c.in_ok-placed.ensures).sound

pub write_header-requires-clause-begins : goal.write_header-requires-clause-begins
write_header-requires-clause-begins g c = (has-begins _ _ _ c.in_ok-header.ensures.sound c.in_ok-placed.ensures).begins
