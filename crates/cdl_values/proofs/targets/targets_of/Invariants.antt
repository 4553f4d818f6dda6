use Rattle.cdl_values.proofs.Prelude.{AreShaped, unlisted_drafts, AllSuit, take}
use Rattle.cdl_values.proofs.targets.targets_of.Given as goal

-- the targets so far suit the variables so far
abbrev pub invariant-loop-var : goal.invariant-loop-var
invariant-loop-var l = AreShaped l.dims (unlisted_drafts l.vars) → AllSuit l.dims l.targets.items (unlisted_drafts (take l.var-index l.vars))
