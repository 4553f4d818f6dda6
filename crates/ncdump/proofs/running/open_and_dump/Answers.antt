use Rattle.ncdump.proofs.Prelude.{ap, err_from_is_err_and}
unfoldable use Rattle.devices.specs.Failures.{HasFailed}
use Rattle.devices.specs.Openers.{Refusals}
use Rattle.ncdump.proofs.Blame.{opens_file}
use Rattle.ncdump.proofs.running.open_and_dump.Goals as goal

pub returns-clause-opens : goal.returns-clause-opens
returns-clause-opens g c =
    opens_file _ _ _ (g.P.Source.Source.view c.in_ok-source.source) (g.P.Source.Source.view c.dump_buffered-answer.new.source) c.dump_buffered-answer.result
    c.in_ok-source.ensures.once c.in_ok-source.ensures.failures c.dump_buffered-answer.ensures.reads c.close.ensures.back

pub returns-in_err-source-clause-opens : goal.returns-in_err-source-clause-opens
unfolding HasFailed
returns-in_err-source-clause-opens g c =
    let p = err_from_is_err_and c.from_residual.result c.from_residual.ensures.1 in
    let once = c.in_err-source.ensures.once in
    rw (p.1, p.2) (record { opens = once.opens; refusals = ap (λ (r : Refusals). r.count) once.refusals; reads = once.failures })
