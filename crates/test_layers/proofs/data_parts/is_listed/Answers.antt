use Rattle.std.proofs.Common.{rules, ◌≡◌, ℕ, ◌/◌, ◌%◌, ◌≤◌, length, arith, subst}
use Rattle.nc_base.specs.GeneratedFile.{known_records}
use Rattle.test_layers.proofs.ListedPush.{one-listed}
use Rattle.test_layers.proofs.data_parts.is_listed.Goals as goal

pub returns : goal.returns
returns c =
    let h = c.args.header.now in
    let size : ℕ = c.size-size.result in
    let long : c.len-len.result ≡ length c.args.listed.now = c.len-len.ensures in
    let whole : c.len-len.result % size ≡ 0 = omega arith in
    let within : c.len-len.result / size ≤ c.value_count.result = omega arith in
    λ _.
    one-listed h.dims (known_records h.numrecs) h.vars c.args.v c.index-as_slice-v.result c.args.listed.now c.size-size.result c.value_count.result (search rules) (search rules)
    (rw c.known.ensures at c.value_count.ensures) (subst (λ (k : ℕ). k % size ≡ 0) long whole) (subst (λ (k : ℕ). k / size ≤ c.value_count.result) long within)
