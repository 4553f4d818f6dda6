use Rattle.cdl_values.proofs.Prelude.{CdlKind, FailsRead, Version, add_constant, in_turn, lexeme_of, values, version_of, words, rules, ◌≡◌, ◌∷◌, ℕ, List, Result, sym, ap, Err, subst}
use Rattle.cdl_values.proofs.ConstantRuns.{is_wrong, then_takes, token_turn, words_past}
use Rattle.cdl_values.proofs.constant.take_constants.Goals as goal

pub returns-in_err-put_token-clause-adds : goal.returns-in_err-put_token-clause-adds
returns-in_err-put_token-clause-adds c =
    let a = c.args in
    let v = version_of a.start in
    let rest = c.token_and_comma.new.self in
    let e = c.in_err-put_token.field-0.0 in
    let is : c.from_residual.result ≡ Err e = search rules in
    let past = words_past v a.start rest (lexeme_of c.in-Some.token) (c.is_at_comma.ensures c.if-not-is_at_comma.false) c.in-Some.ensures.passes in
    let wrong = subst (λ (v : Version). FailsRead e (in_turn (add_constant a.ty) a.vals.now (values v (lexeme_of c.in-Some.token ∷ words rest)))) c.version.ensures (c.in_err-put_token.ensures (words rest)) in
    is_wrong a.ty a.start a.vals.now c.put_token.new.vals c.from_residual.result e is (subst (λ (read : Result (List ℕ) CdlKind). FailsRead e read) (sym (ap (in_turn (add_constant a.ty) a.vals.now) past)) wrong)

-- the constant of the token alone
pub returns-then-not-may_precede_plain-clause-adds : goal.returns-then-not-may_precede_plain-clause-adds
returns-then-not-may_precede_plain-clause-adds c = search (rules, token_turn)

-- and plain numbers after it
pub returns-clause-adds : goal.returns-clause-adds
returns-clause-adds c = search (rules, then_takes, token_turn)
