use Rattle.std.proofs.lemmas.Result.{err_from_is_err_and}
use Rattle.nccheck.proofs.Formats.{head_writes}
use Rattle.nccheck.proofs.format.tell_format.Goals as goal

pub returns-in_err-start-clause-writes : goal.returns-in_err-start-clause-writes
returns-in_err-start-clause-writes g c =
    let p = err_from_is_err_and c.from_residual.result c.from_residual.ensures.1 in
    rw (p.1, p.2) (head_writes c.in_err-start.field-0.0 (g.O.Sink.view c.args.out.now))
