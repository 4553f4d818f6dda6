use Rattle.nc_base.proofs.SoundLaws.{slab_at-small, IsSome-from_SomeIff}
use Rattle.nc_base.proofs.sizes.sound_slab_size.Goals as goal

pub unwrap-requires : goal.unwrap-requires
unwrap-requires c =
    IsSome-from_SomeIff c.slab_bytes.result _ _ c.slab_bytes.ensures (slab_at-small c.args.header.now c.args.v c.requires.sound c.requires.there)
