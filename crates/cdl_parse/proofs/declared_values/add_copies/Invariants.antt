use Rattle.cdl_parse.proofs.Prelude.{◌≡◌, ◌++◌, replicate, concat}
use Rattle.cdl_parse.proofs.declared_values.add_copies.Given as goal

abbrev pub invariant-loop : goal.invariant-loop
invariant-loop l = l.bytes.items ≡ l.fn.bytes.items ++ concat (replicate l.counter l.copy)
