use Rattle.nc_base.proofs.Prelude.{◌∙◌, sym, lit<, Some, None, rfind_char}
use Rattle.nc_base.proofs.PathLemmas.{after_last-IsLastPlace, after_last-HasNoPlace}
use Rattle.nc_base.proofs.path.file_name.Goals as goal

pub returns-in-Some : goal.returns-in-Some
returns-in-Some c =
    let last = rfind_char 47 c.args.path.now (Some c.in-Some.slash) c.in-Some.ensures.cases (lit< tt) in
    c.range_from.ensures.value
    ∙ sym (after_last-IsLastPlace 47 c.args.path.now c.in-Some.slash (record { within = last.0; at = last.1; following = last.2 }))

pub returns-in-None : goal.returns-in-None
returns-in-None c =
    sym (after_last-HasNoPlace 47 c.args.path.now (rfind_char 47 c.args.path.now None c.in-None.ensures.cases (lit< tt)))
