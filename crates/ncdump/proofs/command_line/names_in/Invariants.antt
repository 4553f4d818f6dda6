use Rattle.ncdump.proofs.Prelude.{◌≡◌, map}
use Rattle.ncdump.proofs.command_line.names_in.Given as goal

abbrev pub invariant-loop-name : goal.invariant-loop-name
invariant-loop-name l = l.names ≡ map (λ name. name.now) l.yielded
