use Rattle.nc_base.proofs.Prelude.{◌∙◌}
use Rattle.nc_base.proofs.NameLemmas.{is_ok-is_utf8}
use Rattle.nc_base.proofs.name.is_utf8.Goals as goal

pub returns : goal.returns
returns c = c.is_ok.ensures.value ∙ is_ok-is_utf8 _ _ _ _ c.from_utf8.ensures.cases
