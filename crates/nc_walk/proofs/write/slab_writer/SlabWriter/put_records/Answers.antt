use Rattle.nc_walk.proofs.Prelude.{ℕ, List, ◌≡◌, ◌++◌, ◌-◌, ◌*◌, take, length, sym, ap, ◌∙◌, arith, take_all, err_from_is_err_and, filled_slabs, repeated, up-start, up-partway, up-then}
use Rattle.nc_walk.proofs.write.slab_writer.SlabWriter.put_records.Goals as goal

pub returns-in_err-put_listed_bytes : goal.returns-in_err-put_listed_bytes
returns-in_err-put_listed_bytes g c =
    let array = c.self.inside in
    let n : ℕ = c.args.records in
    let held : List ℕ = array.listed.now in
    let p = err_from_is_err_and c.from_residual.result c.from_residual.ensures.1 in
    let all : held ≡ take c.len-listed.result held = sym (take_all c.len-listed.result held (omega (arith, c.len-listed.ensures))) in
    let whole = ap (filled_slabs n) (sym c.self.view_is) ∙ ap (λ (b : List ℕ). b ++ repeated array.slab.fill_unit (n * array.slab.len - length held)) all in
    rw p.1 (up-partway _ _ _ _ _ _ _ whole (up-start _ _) c.in_err-put_listed_bytes.ensures)

pub returns : goal.returns
returns g c = grind (arith, take_all, up-then)
