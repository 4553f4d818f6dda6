use Rattle.ncgen.proofs.Prelude.{err_from_is_err_and, generated, Refuses, ℕ, List, ap, sym, ◌∙◌, subst}
use Rattle.ncgen.proofs.running.read_and_prepare.Goals as goal

-- the text was read, and gives no file
pub returns-in_err-prepare : goal.returns-in_err-prepare
returns-in_err-prepare g c =
    let p = err_from_is_err_and c.from_residual-in_err-prepare.result c.from_residual-in_err-prepare.ensures.1 in
    rw (p.1, p.2) (record {
      text = c.in_ok-text.text;
      read = c.in_ok-text.ensures;
      refused = subst (λ (text : List ℕ). Refuses (generated text c.args.options.now.kind) c.in_err-prepare.field-0.0) c.as_slice.ensures.value c.in_err-prepare.ensures;
    })

-- the text was read, and gives the file that is ready
pub returns : goal.returns
returns g c = (
  c.in_ok-prepare.ensures.0,
  record {
    text = c.in_ok-text.text;
    read = c.in_ok-text.ensures;
    stated = ap (λ (text : List ℕ). generated text c.args.options.now.kind) (sym c.as_slice.ensures.value) ∙ c.in_ok-prepare.ensures.1;
  },
)
