use Rattle.ncgen.proofs.Prelude.{Header, generated, Prepares, Cdl, OffsetTooLarge, fits, with_begins, IsSound, record_slabs, rules, ◌≡◌, Ok, Err, refl, sym, subst}
use Rattle.ncgen.proofs.Preparing.{not-placed, placed, ready, sound, text-fault, too-large, whole}
use Rattle.ncgen.proofs.generating.prepare.Goals as goal

pub returns-in_err-header : goal.returns-in_err-header
returns-in_err-header c =
    let text = c.args.text.now in
    let v = c.args.version in
    let fault = c.in_err-header.field-0.0 in
    let is : c.from_residual.result ≡ Err (Cdl fault) = search rules in
    subst (Prepares (generated text v)) (sym is) (text-fault text v fault c.in_err-header.ensures.declares)

pub with_begins-requires : goal.with_begins-requires
with_begins-requires c =
    (whole c.args.text.now c.args.version c.in_ok-header.field-0 c.in_ok-header.ensures.declares).sound

pub returns-in_err-header-2 : goal.returns-in_err-header-2
returns-in_err-header-2 c =
    let text = c.args.text.now in
    let v = c.args.version in
    let d = c.in_ok-header.field-0 in
    let is : c.from_residual-in_err-header-2.result ≡ Err OffsetTooLarge = search rules in
    let none = not-placed d.header (fits d.header) c.in_err-header-2.field-0.0 refl c.in_err-header-2.ensures in
    subst (Prepares (generated text v)) (sym is) (too-large text v d c.in_ok-header.ensures.declares none)

pub record_slabs-requires : goal.record_slabs-requires
record_slabs-requires c =
    let d = c.in_ok-header.field-0 in
    let p = placed d.header (fits d.header) c.in_ok-header-2.header refl c.in_ok-header-2.ensures in
    record { sound = subst IsSound (sym p.same) (sound c.args.text.now c.args.version d c.in_ok-header.ensures.declares) }

pub returns : goal.returns
returns c =
    let text = c.args.text.now in
    let v = c.args.version in
    let d = c.in_ok-header.field-0 in
    let p = placed d.header (fits d.header) c.in_ok-header-2.header refl c.in_ok-header-2.ensures in
    let slabs = c.in_ok-slabs.slabs in
    let of_record = λ (h : Header). slabs ≡ record_slabs 0 h.dims h.vars in
    let is : of_record (with_begins d.header) = subst of_record p.same c.in_ok-slabs.ensures in
    subst (λ (h : Header). Prepares (generated text v) (Ok (record { header = h; listed = d.listed; slabs = slabs }))) (sym p.same)
    (ready text v d c.in_ok-header.ensures.declares c.in_ok-header.ensures.one_each p.fit slabs is)
