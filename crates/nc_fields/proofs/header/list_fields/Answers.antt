use Rattle.nc_fields.proofs.Prelude.{rules, ◌∙◌}
use Rattle.nc_fields.proofs.Listed.{blamed-of, ends-of, is-listed-of, reads-forward, with-start}
use Rattle.nc_fields.proofs.header.list_fields.Goals as goal

pub returns-in_err-listing-clause-cause : goal.returns-in_err-listing-clause-cause
returns-in_err-listing-clause-cause g c =
    let h = blamed-of _ _ _ _ _ _ c.new-window.ensures.starts c.header-answer.ensures c.in_err-listing.ensures in search rules

pub returns-clause-listing : goal.returns-clause-listing
returns-clause-listing g c =
    with-start _ _ _ _
    (is-listed-of _ _ _ _ _ _ c.new-window.ensures.starts (c.from_vec.ensures ∙ c.in_ok-with_capacity.ensures.items) c.offset_of_next.ensures c.len-len.ensures.length c.header-answer.ensures c.in_ok-listing.ensures)
    (ends-of _ _ _ _ _ c.in_ok-listing.ensures ∙ c.offset_of_next.ensures) (rw c.as_slice.ensures at c.in_ok-start.ensures.start)

pub returns-clause-forward : goal.returns-clause-forward
returns-clause-forward g c =
    let h = reads-forward _ c.new-window.ensures.starts c.header-answer.ensures.kept c.in_ok-start.ensures.kept (ends-of _ _ _ _ _ c.in_ok-listing.ensures ∙ c.offset_of_next.ensures) c.in_ok-start.ensures.used in
    search rules
