use Rattle.cdl_laws.proofs.Prelude.{arith, IsSayable, trimmed}
use Rattle.cdl_laws.proofs.MeaningsAreGood.{meanings_are_nearly_sayable, meanings_are_good}
use Rattle.cdl_laws.proofs.TextReadsBack.{text_reads_back}
use Rattle.cdl_laws.proofs.Trimmed.{fill_value_survives_trim, trimmed_is_sayable, trims_once}
use Rattle.cdl_laws.proofs.laws.meanings_come_back.Goals as goal

pub returns : goal.returns
returns c = λ text v d o p first second bytes e plain full full_again text_first text_second.
    let version = (meanings_are_good text v d bytes e).1 in
    let sayable : IsSayable d = grind (arith, meanings_are_nearly_sayable text v d bytes e, fill_value_survives_trim) in
    let once = text_reads_back d o first sayable full text_first in
    let twice = text_reads_back (trimmed d) p second (trimmed_is_sayable d sayable) full_again text_second in
    (cc, cc (trims_once d))
