use Rattle.nc_file.proofs.Prelude.{◌≡◌, sym, ◌∙◌, arith, true, length, take_at, with_begins, fits, offset_too_large}
use Rattle.nc_file.proofs.BeginLaws.{placed-as-seen, header-placed, is_ok, is_err}
use Rattle.nc_file.proofs.write.begins.with_begins.Goals as goal

pub returns-then-not-assign_begins : goal.returns-then-not-assign_begins
returns-then-not-assign_begins c =
    let h = c.args.header in
    let seen = placed-as-seen h c.as_slice.result.now c.as_slice-3.result.now c.as_slice-2.result.now c.as_mut_slice.result.now c.header_len-start.result c.fixed_slabs_len.result
    c.offset_limit.result c.as_slice.ensures c.as_slice-3.ensures (c.as_slice-2.ensures.value ∙ c.into_vec-vars.ensures) (c.as_mut_slice.ensures.value ∙ c.into_vec-vars.ensures)
    c.header_len-start.ensures c.fixed_slabs_len.ensures.size c.offset_limit.ensures in
    is_err (fits h) (with_begins h) offset_too_large (sym seen.0 ∙ sym c.assign_begins.ensures.fits ∙ c.if-not-assign_begins.true)

pub returns : goal.returns
returns c =
    let h = c.args.header in
    let seen = placed-as-seen h c.as_slice.result.now c.as_slice-3.result.now c.as_slice-2.result.now c.as_mut_slice.result.now c.header_len-start.result c.fixed_slabs_len.result
    c.offset_limit.result c.as_slice.ensures c.as_slice-3.ensures (c.as_slice-2.ensures.value ∙ c.into_vec-vars.ensures) (c.as_mut_slice.ensures.value ∙ c.into_vec-vars.ensures)
    c.header_len-start.ensures c.fixed_slabs_len.ensures.size c.offset_limit.ensures in
    let fit : fits h ≡ true = sym seen.0 ∙ sym c.assign_begins.ensures.fits ∙ c.if-not-assign_begins.false in
    let len : length c.assign_begins.new.vars ≡ c.into_vec-vars.result.len = omega (arith, c.as_mut_slice.ensures.len, c.assign_begins.auto.vars) in
    let vars : c.from_vec.result ≡ (with_begins h).vars =
    c.from_vec.ensures ∙ take_at c.assign_begins.new.vars _ c.into_vec-vars.result.len len ∙ c.assign_begins.ensures.placed c.if-not-assign_begins.false ∙ seen.1 fit in
    is_ok (fits h) _ (with_begins h) offset_too_large fit (header-placed h c.from_vec.result vars)
