use Rattle.check_options.proofs.Prelude.{texts_of, App, HasKind, fault_of, found_of, is_simple, is_simple_and_free, kind_of, matches_of, rows_of, Asked, asked_for, Result, ◌∙◌, ap, subst, sym}
use Rattle.check_options.proofs.CommandLines.{asked_by_taken, is_exact, is_plain, refused_words}
use Rattle.check_options.specs.Misuse.{Misuse, misuse_in}
use Rattle.check_options.specs.code.Misuses.{RefusesBy, Says}
use Rattle.clap.specs.declared.error.kind.ErrorKind.{ErrorKind}
use Rattle.check_options.proofs.command_line.options_of_words.Goals as goal

pub returns-in-Ok : goal.returns-in-Ok
returns-in-Ok c =
    let words = texts_of c.args.words.now in
    let is = c.in_ok-command.ensures in
    let none = ap (λ (app : App). fault_of app words) (sym is) ∙ c.in-Ok.ensures.kinds (ap is_simple_and_free is ∙ is_plain) in
    let rows = (c.in-Ok.ensures.matches (ap is_simple is ∙ is_exact)).0 ∙ ap (λ (app : App). matches_of app words) is in
    subst (λ (asked : Result Asked Misuse). Says asked_for asked c.options_of.result)
    (asked_by_taken words (rows_of (found_of c.in-Ok.matches)) none rows) c.options_of.ensures

pub returns-in-Err : goal.returns-in-Err
returns-in-Err c =
    let words = texts_of c.args.words.now in
    let is = c.in_ok-command.ensures in
    let has = subst (λ (app : App). HasKind (fault_of app words) c.in-Err.error) is (c.in-Err.ensures.kinds (ap is_simple_and_free is ∙ is_plain)) in
    let refuses = subst (λ (kind : ErrorKind). RefusesBy kind (misuse_in words) c.refusal.result) c.kind.ensures c.refusal.ensures in
    refused_words words (kind_of c.in-Err.error) c.refusal.result refuses has
