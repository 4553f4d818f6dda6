use Rattle.cdl_print.proofs.Prelude.{◌∙◌, escaped_name}
use Rattle.cdl_print.proofs.Openings.{columns_left_opening}
use Rattle.cdl_print.proofs.opening.columns_left_after_opening.Goals as goal

pub returns : goal.returns
returns c = c.saturating_sub.ensures ∙ columns_left_opening (escaped_name c.args.name.now) c.args.width c.columns_left_after_name.result c.columns_left_after_name.ensures
