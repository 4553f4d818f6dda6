use Rattle.nc_base.proofs.Prelude.{ℕ, ◌≡◌, ◌+◌, ◌-◌, ◌∷◌, ◌++◌, List, [], length, ap, sym, ◌∙◌, arith, replicate, common_steps, nil_from_length, filled_rows}
use Rattle.nc_base.proofs.FilledRows.{AreSameEnds, no-rows, like-rows, filled_end, ends_end}
use Rattle.nc_base.proofs.listed_array.ListedArray.end_row.Goals as goal
use Rattle.nc_base.proofs.listed_array.ListedArray.end_row.Goals.{then-is_empty, else-is_empty+then-row_len-self, else-is_empty+else-row_len-self}

ends_are : (c : goal.After-self-3-1) → AreSameEnds c.self.inside.row_len c.self.inside.fill (c.len-end.result - c.self.inside.last_row_end + c.args.lacking) c.args.fill c.self.inside.last_row_end c.self.inside.row_ends.items
ends_are c =
    let l = c.self.inside in
    let len : ℕ = c.len-end.result - l.last_row_end + c.args.lacking in
    elim c.if-is_empty.branch [
      | then-is_empty w ↦ no-rows l.row_len l.fill len c.args.fill l.last_row_end l.row_ends.items (nil_from_length l.row_ends.items (grind (arith, common_steps, l.row_ends.ok.0))) c.self.invariant.0
      | else-is_empty+then-row_len-self w ↦ like-rows l.row_len l.fill len c.args.fill l.last_row_end l.row_ends.items (sym w.if-row_len-self.true) (grind (arith, common_steps)) c.self.invariant.0
      | else-is_empty+else-row_len-self w ↦ absurd (grind (arith, common_steps))
    ]

pub invariant_of-self-2 : goal.invariant_of-self-2
invariant_of-self-2 c = grind (arith, ends_are c, ends_end)

pub returns-clause-ok : goal.returns-clause-ok
returns-clause-ok c =
    let l = c.self.inside in
    let len : ℕ = c.len-end.result - l.last_row_end + c.args.lacking in
    let end : ℕ = c.len-end.result in
    let whole : end ≡ length l.bytes.items = omega (arith, c.len-end.ensures, l.bytes.ok.0) in
    let added : c.push.new.self.items ≡ l.row_ends.items ++ end ∷ [] = c.in_ok-push.ensures.items in
    ap (λ (ends : List ℕ). filled_rows len c.args.fill 0 ends l.bytes.items) added
    ∙ filled_end len l.last_row_end c.args.fill 0 l.row_ends.items l.bytes.items end c.args.lacking (ends_are c).ends_are (omega (arith, whole)) (omega (arith, whole, c.self.invariant.1)) (omega (arith, whole, c.self.invariant.1))
    ∙ ap (λ (b : List ℕ). b ++ replicate c.args.lacking c.args.fill) (sym ((ends_are c).same l.bytes.items))
    ∙ ap (λ (b : List ℕ). b ++ replicate c.args.lacking c.args.fill) c.self.view_is
