-- Whose failure it was that a text could not be read.
use Rattle.ncgen.proofs.Prelude.{HasFailed, ReaderView, ReadsText, ◌≡◌, ℕ, subst, ◌∙◌, Result, Ok, Err}
use Rattle.devices.proofs.Openings.{one_failure, no_failure}
use Rattle.devices.specs.code.PathOpens.{HasBack, OpensOnce}
use Rattle.devices.specs.Failures.{one_more}
use Rattle.devices.specs.Openers.{OpenerView}
use Rattle.ncgen.specs.Inputs.{ReadFailsOnly, RefusesOnly}
use Rattle.ncgen.specs.declared.{fault.TextFault.TextFault, failure.InputFault.InputFault, failure.InputFault.TheVariants.Text}
use Rattle.ncgen.specs.declared.fault.TextFault.TheVariants.{OutOfMemory, ReadFailed, CdlTooLong}

pub record OpensPath {A : Type 0} (old new : OpenerView) (answer : Result A InputFault) : Type 0 where
  pub opens : new.opens ≡ one_more old.opens
  pub refusals : RefusesOnly old new answer
  pub reads : ReadFailsOnly old new answer

-- the text's failure is the opener's, once it has the text back
pub opens_text : {A D : Type 0} {device : D} (old mid new : OpenerView) (start text : ReaderView) (max : ℕ) (fault : TextFault) → OpensOnce old mid (Ok device) → start.failures ≡ 0
    → ReadsText max start text (Err fault) → HasBack mid new text.failures → OpensPath {A = A} old new (Err (Text fault))
unfolding HasFailed
opens_text old mid new start text max ReadFailed opened fresh failed back =
    record { opens = back.opens ∙ opened.opens; refusals = back.refusals ∙ opened.refusals; reads = one_failure old mid new text.failures opened (subst (λ n. HasFailed n text.failures) fresh failed) back }
opens_text old mid new start text max CdlTooLong opened fresh long back =
    record { opens = back.opens ∙ opened.opens; refusals = back.refusals ∙ opened.refusals; reads = no_failure old mid new text.failures opened (long.failures ∙ fresh) back }
opens_text old mid new start text max OutOfMemory opened fresh same back =
    record { opens = back.opens ∙ opened.opens; refusals = back.refusals ∙ opened.refusals; reads = no_failure old mid new text.failures opened (same ∙ fresh) back }
