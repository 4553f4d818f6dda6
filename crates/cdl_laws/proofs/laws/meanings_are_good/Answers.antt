use Rattle.cdl_laws.proofs.MeaningsAreGood.{meanings_are_good}
use Rattle.cdl_laws.proofs.laws.meanings_are_good.Goals as goal

pub returns : goal.returns
returns c = meanings_are_good
