use Rattle.std.proofs.Common.{length}
use Rattle.cdl_statements.specs.code.Cutters.{pieces_left}
use Rattle.uses.proofs.texts.print_statements.Given as goal

-- each statement leaves fewer
abbrev pub decreases-loop-tokens : goal.decreases-loop-tokens
decreases-loop-tokens g l = length (pieces_left l.cutter)
