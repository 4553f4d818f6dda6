use Rattle.cdl_parse.proofs.Prelude.{◌≡◌, ◌++◌, map, into_iter_items, var_of}
use Rattle.cdl_parse.proofs.variables.vars_of.Given as goal

-- those so far, and those that are left
abbrev pub invariant-loop-variable : goal.invariant-loop-variable
invariant-loop-variable l = l.vars.items ++ map var_of (into_iter_items l.variable-iterator) ≡ map var_of l.fn.list.items
