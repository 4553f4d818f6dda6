use Rattle.ncgen.proofs.Prelude.{is_simple, is_simple_and_free, asked_by, asked_for, asked_in, ncgen, true, ◌≡◌, refl}
use Rattle.clap.proofs.OnLiterals.{clap_on_literals}
use Rattle.cli_base.proofs.Refusals.{refused_answers, taken_answers}
use Rattle.ncgen.proofs.command_line.options_of_words.Goals as goal

-- the parse says all of the command's matches
is_plain : is_simple_and_free ncgen ≡ true
unfolding clap_on_literals ncgen
is_plain = refl

is_exact : is_simple ncgen ≡ true
unfolding clap_on_literals ncgen
is_exact = refl

pub returns-in_err-matches : goal.returns-in_err-matches
unfolding asked_by
returns-in_err-matches c = refused_answers asked_for asked_in ncgen _ _ _ c.in_ok-command.ensures is_plain c.in_err-matches.field-0.0 c.in_err-matches.ensures.kinds c.from_residual-in_err-matches.ensures.1

pub returns : goal.returns
unfolding asked_by
returns c = taken_answers asked_for asked_in ncgen _ _ _ c.in_ok-command.ensures is_plain c.in_ok-matches.matches is_exact c.in_ok-matches.ensures.kinds c.in_ok-matches.ensures.matches c.options_of.ensures
