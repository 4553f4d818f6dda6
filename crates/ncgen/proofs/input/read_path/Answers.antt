use Rattle.ncgen.proofs.Prelude.{ap, err_from_is_err_and, view_of}
unfoldable use Rattle.devices.specs.Failures.{HasFailed}
use Rattle.devices.specs.Openers.{Refusals}
use Rattle.ncgen.proofs.Blame.{opens_text}
use Rattle.ncgen.proofs.input.read_path.Goals as goal

pub returns-in_err-text-clause-opens : goal.returns-in_err-text-clause-opens
returns-in_err-text-clause-opens g c =
    (opens_text {A = Unit {0}} _ _ _ (view_of g.T.Text.Read.remaining c.in_ok-reader.reader) (view_of g.T.Text.Read.remaining c.read_text-text.new.input) _ _
    c.in_ok-reader.ensures.once c.in_ok-reader.ensures.failures c.in_err-text.ensures.text c.close_text.ensures).opens

pub returns-in_err-text-clause-reads : goal.returns-in_err-text-clause-reads
returns-in_err-text-clause-reads g c =
    let p = err_from_is_err_and c.from_residual-in_err-text.result c.from_residual-in_err-text.ensures.1 in
    rw (p.1, p.2) (opens_text {A = Unit {0}} _ _ _ (view_of g.T.Text.Read.remaining c.in_ok-reader.reader) (view_of g.T.Text.Read.remaining c.read_text-text.new.input) _ _
    c.in_ok-reader.ensures.once c.in_ok-reader.ensures.failures c.in_err-text.ensures.text c.close_text.ensures).reads

pub returns-in_err-reader-clause-refusals : goal.returns-in_err-reader-clause-refusals
unfolding HasFailed
returns-in_err-reader-clause-refusals g c =
    let p = err_from_is_err_and c.from_residual.result c.from_residual.ensures.1 in
    rw (p.1, p.2) (ap (λ (r : Refusals). r.count) c.in_err-reader.ensures.once.refusals)
