use Rattle.std.proofs.Common.{◌≡◌, take}
use Rattle.check_lines.specs.Paths.{names_after}
use Rattle.check_lines.specs.code.Names.{known}
use Rattle.check_lines.proofs.passed.pass_fields.Given as goal

abbrev pub invariant-loop-i : goal.invariant-loop-i
invariant-loop-i l = known l.names ≡ names_after (take l.i l.entries)
