use Rattle.std.proofs.Common.{rules, ◌≡◌, ℕ, ◌+◌, ◌<◌, ◌∙◌, suc, List, length, take, arith, subst, IfSome, slice_get}
use Rattle.nc_base.specs.GeneratedFile.{known_records}
use Rattle.nc_base.specs.code.OwedValues.{IsListed, AreListed}
use Rattle.test_layers.proofs.ListedPush.{listed-next}
use Rattle.test_layers.proofs.data_parts.are_listed.Goals as goal

pub loop-v-preserved : goal.loop-v-preserved
loop-v-preserved c =
    let h = c.args.header.now in
    let n : ℕ = known_records h.numrecs in
    let arrays : List (List ℕ) = c.args.arrays.now in
    let here : c.loop-v.v < length h.vars = search rules in
    let held : c.loop-v.v < length arrays = search rules in
    let e : suc c.loop-v.v ≡ c.loop-v.v + 1 = omega arith in
    subst (λ (k : ℕ). AreListed h.dims n (take k h.vars) (take k arrays)) e
    (listed-next h.dims n h.vars arrays c.loop-v.v c.index-arrays-v.result here held c.loop-v.invariant
    (subst (λ (x : List ℕ). IfSome (slice_get h.vars c.loop-v.v) (λ var. IsListed h.dims n var x)) c.index-arrays-v.is
    (c.is_listed.ensures c.if-not-is_listed.false)))
