use Rattle.cdl_print.proofs.Prelude.{◌≡◌, ◌∙◌, ℕ, true, List, ap, subst, sym, to_z-of_z, unsigned_abs, decimal, w128, shows_below_100, look_at, PutInRow}
use Rattle.cdl_print.proofs.NumberRows.{shown_digits}
use Rattle.cdl_print.proofs.number_line.put_next_number.Goals as goal

pub returns-then-line-ge6-clause-put : goal.returns-then-line-ge6-clause-put
returns-then-line-ge6-clause-put c =
    let back = to_z-of_z {w = w128} c.ranges.number in
    let shown : shows_below_100 c.args.fill.below_100 c.args.number ≡ true = ap (shows_below_100 c.args.fill.below_100) (sym back) ∙ sym c.shows_below_100.ensures ∙ c.if-shows_below_100.true in
    subst (λ (text : List ℕ). PutInRow c.args.layout.now.width text c.args.line c.args.text.now c.put_below_100.result c.put_below_100.new.text)
    (ap (λ z. decimal (unsigned_abs z)) back ∙ sym (shown_digits (look_at c.args.layout.now) c.args.fill c.args.number c.requires.fill shown))
    (c.put_below_100.ensures.put c.args.layout.now.width)
