use Rattle.ncdump.proofs.Prelude.{rules, ◌≡◌, ◌∙◌, ap₂, codes, IfOk-weaker, app_of, new_app, new_rule, rule_of, with_rule, flag, option, quiet, ncdump}
use Rattle.ncdump.proofs.command_line.command.Goals as goal

pub returns : goal.returns
unfolding ncdump
returns c =
    let head_is : rule_of c.flag.result ≡ flag (codes "head") (codes "h") = search rules in
    let coords_is : rule_of c.flag-2.result ≡ flag (codes "coords") (codes "c") = search rules in
    let names_is : rule_of c.option.result ≡ option (codes "names") (codes "v") = search rules in
    let name_is : rule_of c.option-2.result ≡ option (codes "name") (codes "n") = search rules in
    let width_is : rule_of c.option-3.result ≡ option (codes "width") (codes "l") = search rules in
    let file_is : rule_of c.new-2.result ≡ new_rule (codes "file") = search rules in
    let none : app_of c.disable_version_flag.result ≡ quiet (new_app (codes "ncdump")) = search (rules, c.new.ensures.app) in
    let one = c.in_ok-arg.ensures.shape c.flag.ensures.local ∙ ap₂ with_rule none head_is in
    let two = c.in_ok-arg-2.ensures.shape c.flag-2.ensures.local ∙ ap₂ with_rule one coords_is in
    let three = c.in_ok-arg-3.ensures.shape c.option.ensures.local ∙ ap₂ with_rule two names_is in
    let four = c.in_ok-arg-4.ensures.shape c.option-2.ensures.local ∙ ap₂ with_rule three name_is in
    let five = c.in_ok-arg-5.ensures.shape c.option-3.ensures.local ∙ ap₂ with_rule four width_is in
    IfOk-weaker c.arg-6.result _ _ (λ command adds. adds.shape c.new-2.ensures.optional.1 ∙ ap₂ with_rule five file_is) c.arg-6.ensures
