use Rattle.cdl_laws.proofs.Prelude.{arith}
use Rattle.cdl_laws.proofs.MeaningsAreGood.{meanings_are_nearly_sayable}
use Rattle.cdl_laws.proofs.Trimmed.{fill_value_survives_trim}
use Rattle.cdl_laws.proofs.laws.meanings_are_sayable.Goals as goal

pub returns : goal.returns
returns c = λ text v d bytes e. grind (arith, meanings_are_nearly_sayable text v d bytes e, fill_value_survives_trim)
