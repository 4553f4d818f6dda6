use Rattle.cdl_tokens.proofs.Prelude.{ne_eqb, rules}
use Rattle.cdl_tokens.proofs.StringContents.{are_good, contents, ends, none_good, past_escape, past_run}
use Rattle.cdl_tokens.proofs.Words.{and_yes}
use Rattle.cdl_tokens.proofs.string.string_contents.Goals as goal

pub escapes-preserved : goal.escapes-preserved
escapes-preserved c = search (rules, are_good, contents, past_escape, past_run)

pub returns-then-byte_at-ne92-clause-len : goal.returns-then-byte_at-ne92-clause-len
returns-then-byte_at-ne92-clause-len c = search (rules, ne_eqb, ends, past_run)

pub returns-then-byte_at-ne92-clause-good : goal.returns-then-byte_at-ne92-clause-good
returns-then-byte_at-ne92-clause-good c = search (rules, ne_eqb, are_good, contents, ends, none_good, past_run, and_yes)
