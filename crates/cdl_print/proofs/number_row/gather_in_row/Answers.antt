use Rattle.cdl_print.proofs.Prelude.{◌≡◌, ◌∙◌, ◌+◌, ◌/◌, ◌==◌, ◌<◌, [], cond, arith, rules, ap, sym, refl, length, numbers}
use Rattle.cdl_print.proofs.Joined.{no_numbers}
use Rattle.cdl_print.proofs.Batches.{some_numbers}
use Rattle.cdl_print.proofs.Takes.{length-numbers}
use Rattle.cdl_print.proofs.PrintingLaws.{after_none, none_appended}
use Rattle.cdl_print.proofs.number_row.gather_in_row.Goals as goal

pub returns-then-is_empty-clause-after : goal.returns-then-is_empty-clause-after
returns-then-is_empty-clause-after c =
    let none : numbers c.args.layout.now.ty c.args.bytes.now ≡ [] = no_numbers _ _ (search rules) in
    rw none (after_none _ _)

pub returns-then-is_empty-clause-text : goal.returns-then-is_empty-clause-text
returns-then-is_empty-clause-text c =
    let none : numbers c.args.layout.now.ty c.args.bytes.now ≡ [] = no_numbers _ _ (search rules) in
    rw none (none_appended _ _ _)

pub returns-clause-after : goal.returns-clause-after
returns-clause-after c =
    let ty = c.args.layout.now.ty in
    let count : length c.args.bytes.now / c.size.result ≡ length (numbers ty c.args.bytes.now) = ap (λ s. length c.args.bytes.now / s) c.size.ensures ∙ sym (length-numbers ty c.args.bytes.now) in
    let some : 0 < length (numbers ty c.args.bytes.now) = some_numbers ty c.args.bytes.now c.requires.whole (search rules) in
    let goes_on = c.requires.in_row some in
    (c.gather_at_end-line.ensures.more c.args.progress.now c.requires.number refl goes_on.0 (omega (arith, some, goes_on.1)) goes_on.1).1 _ refl
    (ap (λ n. c.args.progress.now.position + n) count)
    (c.row_index_after.ensures.row_index ∙ ap (λ n. cond (c.args.progress.now.row_index + n == c.args.layout.now.row) 0 (c.args.progress.now.row_index + n)) count)

pub returns-clause-text : goal.returns-clause-text
returns-clause-text c =
    let some : 0 < length (numbers c.args.layout.now.ty c.args.bytes.now) = some_numbers c.args.layout.now.ty c.args.bytes.now c.requires.whole (search rules) in
    let goes_on = c.requires.in_row some in
    (c.gather_at_end-line.ensures.more c.args.progress.now c.requires.number refl goes_on.0 (omega (arith, some, goes_on.1)) goes_on.1).0
