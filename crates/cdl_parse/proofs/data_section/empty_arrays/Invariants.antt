use Rattle.cdl_parse.proofs.Prelude.{◌≡◌, [], replicate}
use Rattle.cdl_parse.proofs.data_section.empty_arrays.Given as goal

abbrev pub invariant-loop : goal.invariant-loop
invariant-loop l = l.arrays.items ≡ replicate l.counter []
