use Rattle.cdl_print.proofs.Prelude.{◌≡◌, ◌-◌, ◌∙◌, List, ℕ, ap, arith, length, cond, sym, column}
use Rattle.cdl_print.proofs.Openings.{name_prefix, prefix_none, prefix_more, prefix_whole}
use Rattle.cdl_print.proofs.opening.columns_left_after_name.Goals.{then-needs_leading_backslash, else-needs_leading_backslash}
use Rattle.cdl_print.proofs.opening.columns_left_after_name.Goals as goal

pub loop-b-init : goal.loop-b-init
loop-b-init c =
    let len : c.if-needs_leading_backslash.len ≡ cond c.needs_leading_backslash.result 2 1
    = elim c.if-needs_leading_backslash.branch [ then-needs_leading_backslash w ↦ w.len-is ∙ sym (ap (λ b. cond b 2 1) w.if-needs_leading_backslash.true) | else-needs_leading_backslash w ↦ w.len-is ∙ sym (ap (λ b. cond b 2 1) w.if-needs_leading_backslash.false) ] in
    c.saturating_sub-columns_left.ensures ∙ ap (λ n. c.args.width - n) len ∙ prefix_none c.args.name.now c.args.width _ c.needs_leading_backslash.ensures

pub loop-b-preserved : goal.loop-b-preserved
loop-b-preserved c =
    c.columns_left_after_byte-columns_left.ensures (name_prefix c.args.name.now c.loop-b.b-index) c.loop-b.invariant ∙ ap (λ (t : List ℕ). c.args.width - column t) (prefix_more c.args.name.now c.loop-b.b-index (omega arith))

pub returns : goal.returns
returns c =
    let all : c.loop-b.b-index ≡ length c.args.name.now = omega arith in
    c.loop-b.invariant ∙ ap (λ (t : List ℕ). c.args.width - column t) (ap (name_prefix c.args.name.now) all ∙ prefix_whole c.args.name.now)
