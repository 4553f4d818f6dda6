use Rattle.ncdump.proofs.Prelude.{◌≡◌, Bool, ◌&&◌, ◌||◌, nat_lt, not, ap, sym, ◌∙◌, slice_get, has_values, IsSoundVar, is_record_var}
use Rattle.nc_base.proofs.SoundLaws.{has_values-unless_empty}
use Rattle.nc_base.proofs.Found.{if-some, all-at}
use Rattle.ncdump.proofs.showing.is_shown.Goals as goal

pub returns-then-is_selected : goal.returns-then-is_selected
returns-then-is_selected c =
    let h = c.args.header.now in
    if-some (λ var. c.has_slabs.result ≡ (nat_lt 0 c.args.records || not (is_record_var h.dims var))) (λ var. c.has_slabs.result ≡ (c.args.is_selected && has_values h.dims c.args.records var)) (slice_get h.vars c.args.v)
    (λ var at slabs. slabs ∙ sym (has_values-unless_empty h.dims var c.args.records (all-at (IsSoundVar h.version h.dims) h.vars c.args.v var c.requires.sound.vars at).shape)
    ∙ ap (λ (b : Bool). b && has_values h.dims c.args.records var) (sym c.if-is_selected.true))
    c.has_slabs.ensures
