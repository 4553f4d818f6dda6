use Rattle.cdl_parse.proofs.Prelude.{◌≡◌, ◌++◌, drop, into_iter_items, whole_arrays}
use Rattle.cdl_parse.proofs.declared_values.whole_arrays.Given as goal

abbrev pub invariant-loop-var : goal.invariant-loop-var
invariant-loop-var l = l.arrays ++ whole_arrays l.dims l.records (drop l.var-index l.vars) (into_iter_items l.left) ≡ whole_arrays l.dims l.records l.vars l.fn.listed.items
