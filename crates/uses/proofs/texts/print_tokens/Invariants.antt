use Rattle.std.proofs.Common.{ℕ, ◌+◌, length, if◌then◌else◌}
use Rattle.cdl_tokens.specs.Tokens.{is_end}
use Rattle.cdl_tokens.specs.code.Scanners.{left}
use Rattle.uses.proofs.texts.print_tokens.Given as goal

-- each token leaves fewer, and the last one ends the loop
abbrev pub decreases-loop-scanner : goal.decreases-loop-scanner
decreases-loop-scanner g l = length (left l.scanner) + (if is_end l.token.kind then 0 else 1)
