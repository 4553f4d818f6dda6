use Rattle.nc_base.proofs.Prelude.{◌≡◌, ◌∙◌, ap, sym, subst, List, Some, ◌/◌, IfSome, record_vars, records_begin, Dim, Var}
use Rattle.nc_base.proofs.SoundLaws.{streamed}
use Rattle.nc_base.proofs.sizes.records.Goals as goal

pub returns-in-Some : goal.returns-in-Some
returns-in-Some c =
    let h = c.args.header.now in
    let found : records_begin (record_vars h.dims h.vars) ≡ Some c.in-Some.begin =
    ap (λ (ds : List Dim). records_begin (record_vars ds h.vars)) (sym c.as_slice.ensures)
    ∙ ap (λ (vs : List Var). records_begin (record_vars c.as_slice.result.now vs)) (sym c.as_slice-in-Streaming.ensures)
    ∙ sym c.records_begin.ensures ∙ c.in-Some.is in
    streamed h _ _ _ _ c.in-Streaming.is found c.rec_size.ensures
    (subst (λ n. IfSome c.rec_size.result (λ s. c.whole_records.result ≡ n / s)) c.saturating_sub.ensures c.whole_records.ensures)
