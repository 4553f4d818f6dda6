use Rattle.cdl_statements.proofs.Prelude.{rules, ◌≡◌, true, false, sym, ◌∙◌, refl, is_none, numeral}
use Rattle.cdl_statements.proofs.ShapeChecks.{bad_number}
use Rattle.cdl_statements.proofs.shape_check.number_fault.Goals as goal

pub returns-then-is_none : goal.returns-then-is_none
returns-then-is_none c =
    let e = bad_number c.args.version c.args.bytes.now c.number_of_token.result c.number_of_token.ensures in
    let on : is_none (numeral c.args.version c.args.bytes.now) ≡ true = sym e ∙ (let h : is_none c.number_of_token.result ≡ true = search rules in h) in
    rw (on) refl

pub returns-else-is_none : goal.returns-else-is_none
returns-else-is_none c =
    let e = bad_number c.args.version c.args.bytes.now c.number_of_token.result c.number_of_token.ensures in
    let off : is_none (numeral c.args.version c.args.bytes.now) ≡ false = sym e ∙ (let h : is_none c.number_of_token.result ≡ false = search rules in h) in
    rw (off) refl
