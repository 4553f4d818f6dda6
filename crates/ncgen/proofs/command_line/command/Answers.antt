use Rattle.ncgen.proofs.Prelude.{IfOk-weaker, app_of, new_app, new_rule, rule_of, with_rule, flag, option, quiet, ncgen, rules, ◌≡◌, ◌∙◌, ap₂, codes}
use Rattle.ncgen.proofs.command_line.command.Goals as goal

pub returns : goal.returns
unfolding ncgen
returns c =
    let binary_is : rule_of c.flag.result ≡ flag (codes "binary") (codes "b") = search rules in
    let output_is : rule_of c.option.result ≡ option (codes "output") (codes "o") = search rules in
    let kind_is : rule_of c.option-2.result ≡ option (codes "kind") (codes "k") = search rules in
    let file_is : rule_of c.new-2.result ≡ new_rule (codes "file") = search rules in
    let none : app_of c.disable_version_flag.result ≡ quiet (new_app (codes "ncgen")) = search (rules, c.new.ensures.app) in
    let one = c.in_ok-arg.ensures.shape c.flag.ensures.local ∙ ap₂ with_rule none binary_is in
    let two = c.in_ok-arg-2.ensures.shape c.option.ensures.local ∙ ap₂ with_rule one output_is in
    let three = c.in_ok-arg-3.ensures.shape c.option-2.ensures.local ∙ ap₂ with_rule two kind_is in
    IfOk-weaker c.arg-4.result _ _ (λ command adds. adds.shape c.new-2.ensures.optional.1 ∙ ap₂ with_rule three file_is) c.arg-4.ensures
