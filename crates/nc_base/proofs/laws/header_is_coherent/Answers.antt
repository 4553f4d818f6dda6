use Rattle.nc_base.proofs.PartPlaces.{coherent}
use Rattle.nc_base.proofs.SoundSpelling.{spelled-sound}
use Rattle.nc_base.proofs.Prelude.{header_part}
use Rattle.nc_base.proofs.laws.header_is_coherent.Goals as goal

pub returns-clause-coherent : goal.returns-clause-coherent
returns-clause-coherent c = coherent header_part

pub returns-clause-sound : goal.returns-clause-sound
returns-clause-sound c = λ from h rest s. let t = spelled-sound from h rest s in (t.sound, t.names)
