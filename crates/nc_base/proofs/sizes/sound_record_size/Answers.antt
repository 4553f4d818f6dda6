use Rattle.nc_base.proofs.Prelude.{◌∙◌, ap, is_some}
use Rattle.nc_base.proofs.SoundLaws.{checked-sound}
use Rattle.nc_base.proofs.sizes.sound_record_size.Goals as goal

pub unwrap-requires : goal.unwrap-requires
unwrap-requires c = ap is_some (c.rec_size.ensures ∙ checked-sound c.args.header.now c.requires)
