use Rattle.cdl_print.proofs.Prelude.{◌≡◌, ◌++◌, ◌<◌, ◌≤◌, length, take, numbers_text}
use Rattle.cdl_print.proofs.number.gather_numbers.Given as goal

abbrev pub invariant-loop-rest : goal.invariant-loop-rest
invariant-loop-rest l = record {
  text : numbers_text l.ty l.vals ≡ take l.end l.text ++ numbers_text l.ty l.rest;
  inside : l.end ≤ length l.text;
  fewer : length l.rest < length l.vals;
}

abbrev pub decreases-loop-rest : goal.decreases-loop-rest
decreases-loop-rest l = length l.rest
