use Rattle.cdl_parse.proofs.Prelude.{◌≡◌, ◌∙◌, sym, None, rules}
use Rattle.cdl_parse.proofs.SizeLimits.{each_some, none_kept, some_kept}
use Rattle.cdl_parse.proofs.records.records_within_limits.Goals as goal

pub returns-in_err-needs_of : goal.returns-in_err-needs_of
returns-in_err-needs_of c = λ drafts lists shaped.
    let a = c.args in let needs = c.needs_of.ensures (each_some a.dims.now a.vars.now a.listed.now drafts lists shaped) in let gives : c.from_residual.result ≡ None = search rules in
    gives ∙ sym (none_kept a.dims.now a.vars.now a.listed.now drafts lists (sym needs ∙ c.in_err-needs_of.was))

pub returns : goal.returns
returns c = λ drafts lists shaped.
    let a = c.args in let needs = c.needs_of.ensures (each_some a.dims.now a.vars.now a.listed.now drafts lists shaped) in
    c.records.ensures ∙ some_kept a.dims.now a.vars.now a.listed.now drafts c.in_ok-needs_of.field-0 lists shaped (sym needs ∙ c.in_ok-needs_of.was)
