use Rattle.cdl_print.proofs.Prelude.{◌≡◌, ◌+◌, ◌*◌, ◌≤◌, ◌++◌, length, take, flat_map, escaped_in}
use Rattle.cdl_print.proofs.escaped.gather_escaped.Given as goal

abbrev pub invariant-loop-rest : goal.invariant-loop-rest
invariant-loop-rest l = record {
  text : take l.end l.text ++ flat_map (escaped_in l.quoting) l.rest ≡ take l.at l.initial.text ++ flat_map (escaped_in l.quoting) l.bytes;
  short : l.end + 4 * length l.rest ≤ l.at + 4 * length l.bytes;
}

abbrev pub decreases-loop-rest : goal.decreases-loop-rest
decreases-loop-rest l = length l.rest
