use Rattle.check_options.proofs.Prelude.{app_of, new_app, rule_of, with_rule, flag, option, quiet, nccheck, rules, ◌≡◌, ◌∙◌, ap₂, codes}
use Rattle.std.proofs.lemmas.Result.{IfOk-weaker}
use Rattle.check_options.proofs.command_line.command.Goals as goal

pub returns : goal.returns
unfolding nccheck
returns c =
    let quiet_is : rule_of c.flag.result ≡ flag (codes "quiet") (codes "q") = search rules in
    let summary_is : rule_of c.flag-2.result ≡ flag (codes "summary") (codes "s") = search rules in
    let objects_is : rule_of c.flag-3.result ≡ flag (codes "objects") (codes "j") = search rules in
    let paths_is : rule_of c.flag-4.result ≡ flag (codes "paths") (codes "p") = search rules in
    let formats_is : rule_of c.flag-5.result ≡ flag (codes "formats") (codes "k") = search rules in
    let list_is : rule_of c.flag-6.result ≡ flag (codes "list") (codes "0") = search rules in
    let level_is : rule_of c.option.result ≡ option (codes "level") (codes "l") = search rules in
    let ignored_is : rule_of c.option-2.result ≡ option (codes "ignored") (codes "i") = search rules in
    let none : app_of c.disable_version_flag.result ≡ quiet (new_app (codes "nccheck")) = search (rules, c.new.ensures.app, c.disable_help_flag.ensures, c.disable_version_flag.ensures) in
    let one = c.in_ok-arg.ensures.shape c.flag.ensures.local ∙ ap₂ with_rule none quiet_is in
    let two = c.in_ok-arg-2.ensures.shape c.flag-2.ensures.local ∙ ap₂ with_rule one summary_is in
    let three = c.in_ok-arg-3.ensures.shape c.flag-3.ensures.local ∙ ap₂ with_rule two objects_is in
    let four = c.in_ok-arg-4.ensures.shape c.flag-4.ensures.local ∙ ap₂ with_rule three paths_is in
    let five = c.in_ok-arg-5.ensures.shape c.flag-5.ensures.local ∙ ap₂ with_rule four formats_is in
    let six = c.in_ok-arg-6.ensures.shape c.flag-6.ensures.local ∙ ap₂ with_rule five list_is in
    let seven = c.in_ok-arg-7.ensures.shape c.option.ensures.local ∙ ap₂ with_rule six level_is in
    let eight = c.in_ok-arg-8.ensures.shape c.option-2.ensures.local ∙ ap₂ with_rule seven ignored_is in
    IfOk-weaker c.arg-9.result _ _
    (λ command adds. adds.shape c.files.ensures.local ∙ ap₂ with_rule eight c.files.ensures.rule) c.arg-9.ensures
