use Rattle.cdl_laws.proofs.MeaningsAreGood.{meanings_are_nearly_sayable}
use Rattle.cdl_laws.proofs.laws.meanings_are_nearly_sayable.Goals as goal

pub returns : goal.returns
returns c = meanings_are_nearly_sayable
