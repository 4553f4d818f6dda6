use Rattle.nccheck.proofs.Openings.{opens_file}
use Rattle.std.proofs.lemmas.Result.{err_from_is_err_and}
use Rattle.nccheck.proofs.checking.check_file.Goals as goal

pub returns-clause-opens : goal.returns-clause-opens
returns-clause-opens g c =
    opens_file _ _ _ (g.P.Source.Source.view c.in_ok-source.source)
    (g.P.Source.Source.view c.check_source-answer.new.source) c.check_source-answer.result
    c.in_ok-source.ensures.once c.in_ok-source.ensures.failures c.check_source-answer.ensures.reads c.close.ensures.back

pub returns-in_err-source-clause-opens : goal.returns-in_err-source-clause-opens
returns-in_err-source-clause-opens g c =
    let p = err_from_is_err_and c.from_residual.result c.from_residual.ensures.1 in
    let once = c.in_err-source.ensures.once in
    rw (p.1, p.2) (record { opens = once.opens; refusals = once.refusals; reads = once.failures })
