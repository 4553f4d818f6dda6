use Rattle.nccheck_laws.proofs.Prelude.{spelled-layout}
use Rattle.nccheck_laws.proofs.laws.spelled_headers_have_sound_layouts.Goals as goal

pub returns : goal.returns
returns c = spelled-layout
