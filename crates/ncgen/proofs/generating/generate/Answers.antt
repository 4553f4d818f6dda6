use Rattle.ncgen.proofs.Prelude.{Generates, generated, GenFault, rules, ◌≡◌, Err, sym, subst, Result}
use Rattle.ncgen.proofs.Preparing.{refused-text}
use Rattle.ncgen.proofs.generating.generate.Goals as goal

pub returns-in_err-prepared : goal.returns-in_err-prepared
returns-in_err-prepared g c =
    let text = c.args.text.now in
    let v = c.args.version in
    let sink = g.W.Sink.view c.args.sink.now in
    let fault = c.in_err-prepared.field-0.0 in
    let is : c.from_residual.result ≡ Err fault = search rules in
    subst (λ (result : Result (Unit {0}) GenFault). Generates (generated text v) sink sink result) (sym is) (refused-text text v sink fault c.in_err-prepared.ensures)
