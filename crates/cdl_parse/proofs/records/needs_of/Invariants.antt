use Rattle.cdl_parse.proofs.Prelude.{◌≡◌, ◌<◌, All, Some, drop, Var, slab_count, with_all}
use Rattle.cdl_parse.proofs.records.needs_of.Given as goal

abbrev pub invariant-loop-at : goal.invariant-loop-at
invariant-loop-at l =
    All (λ (var : Var). 0 < slab_count l.dims var) l.vars → with_all l.dims (Some l.extent) (drop l.at l.vars) (drop l.at l.listed) ≡ with_all l.dims (Some (record { records = 0; widest = 0 })) l.vars l.listed
