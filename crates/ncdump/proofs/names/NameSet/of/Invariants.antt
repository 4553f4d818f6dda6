use Rattle.ncdump.proofs.Prelude.{◌≡◌, ℕ, List, take, list_any, bytes_eq, holds}
use Rattle.ncdump.proofs.names.NameSet.of.Given as goal

-- the set has the names so far
abbrev pub invariant-loop-item : goal.invariant-loop-item
invariant-loop-item g l = (name : List ℕ) → holds l.set name ≡ list_any (λ item. bytes_eq (g.T.Named.name_of item) name) (take l.item-index l.items)
