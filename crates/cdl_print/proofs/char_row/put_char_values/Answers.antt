use Rattle.cdl_print.proofs.Prelude.{◌≡◌, [], rules, arith, err_from_is_err_and, numbers}
use Rattle.cdl_print.proofs.CharRows.{chars_parts, chars_count}
use Rattle.cdl_print.proofs.Joined.{no_numbers}
use Rattle.cdl_print.proofs.PrintingLaws.{underway_at_first, underway_next, underway_failed, underway_after, underway_appended, underway_within}
use Rattle.cdl_print.proofs.char_row.put_char_values.Goals as goal

pub loop-rest-init : goal.loop-rest-init
loop-rest-init g c = underway_at_first _ _ _ _

pub put_next_part-requires-clause-within : goal.put_next_part-requires-clause-within
put_next_part-requires-clause-within g c =
    let ty = c.args.layout.now.ty in
    omega (arith, underway_within _ _ _ _ _ _ _ c.loop-rest.invariant, chars_count ty c.loop-rest.rest.now c.requires.character, chars_count ty c.args.bytes.now c.requires.character, c.split_at.ensures.front_len, c.len_in_row.ensures.within, c.requires.within)

pub loop-rest-preserved : goal.loop-rest-preserved
loop-rest-preserved g c =
    underway_next _ _ _ _ _ _ _ _ _ _ _ c.loop-rest.invariant (chars_parts c.args.layout.now.ty _ c.loop-rest.rest.now _ _ c.requires.character c.split_at.ensures.front c.split_at.ensures.back) c.in_ok-put_next_part.ensures.after c.in_ok-put_next_part.ensures.wrote

pub returns-in_err-put_next_part-clause-wrote : goal.returns-in_err-put_next_part-clause-wrote
returns-in_err-put_next_part-clause-wrote g c =
    let p = err_from_is_err_and c.from_residual.result c.from_residual.ensures.1 in
    rw p.1 (underway_failed _ _ _ _ _ _ _ _ _ _ c.loop-rest.invariant (chars_parts c.args.layout.now.ty _ c.loop-rest.rest.now _ _ c.requires.character c.split_at.ensures.front c.split_at.ensures.back) c.in_err-put_next_part.ensures.wrote)

pub returns-clause-after : goal.returns-clause-after
returns-clause-after g c =
    let none : numbers c.args.layout.now.ty c.loop-rest.rest.now ≡ [] = no_numbers _ _ (search rules) in
    underway_after _ _ _ _ _ _ (rw none at c.loop-rest.invariant)

pub returns-clause-wrote : goal.returns-clause-wrote
returns-clause-wrote g c =
    let none : numbers c.args.layout.now.ty c.loop-rest.rest.now ≡ [] = no_numbers _ _ (search rules) in
    underway_appended _ _ _ _ _ _ (rw none at c.loop-rest.invariant)
