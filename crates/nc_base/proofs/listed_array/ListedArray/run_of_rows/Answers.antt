use Rattle.nc_base.proofs.Prelude.{ℕ, ◌≡◌, ◌+◌, ◌-◌, ◌*◌, ◌/◌, ◌%◌, List, length, get_or, take, drop, min, max, refl, ap, sym, ◌∙◌, arith, mod-add-div, take_all, length-drop, length-take, length-take-le, drop-drop, drop_min, row_start}
use Rattle.nc_base.proofs.FilledRows.{row-of, in_row, after_rows, stands-from}
use Rattle.nc_base.proofs.listed_array.ListedArray.run_of_rows.Goals as goal

pub listed_row-row-requires-clause-after : goal.listed_row-row-requires-clause-after
listed_row-row-requires-clause-after c = grind (arith, row-of)

pub listed_row-row-requires-clause-inside : goal.listed_row-row-requires-clause-inside
listed_row-row-requires-clause-inside c = grind (arith, row-of)

pub rest_of_row-requires-clause-listed : goal.rest_of_row-requires-clause-listed
rest_of_row-requires-clause-listed c = grind (arith, row-of, length-take)

pub returns-then-at-in_rows : goal.returns-then-at-in_rows
returns-then-at-in_rows c =
    let l = c.self.inside in
    let at : ℕ = c.args.at in
    let len : ℕ = l.row_len in
    let r : ℕ = at / len in
    let column : ℕ = at % len in
    let all : c.len.result ≡ length l.row_ends.items = omega (arith, c.len.ensures, l.row_ends.ok.0) in
    let row = row-of len l.last_row_end at c.len.result l.row_ends.items c.self.invariant.0 all c.if-at-in_rows.true in
    let start : ℕ = row_start 0 l.row_ends.items r in
    let n : ℕ = get_or l.row_ends.items r 0 - start in
    let listed : c.listed_row-row.result.now ≡ take n (drop start l.bytes.items) =
    grind arith in
    let long : length c.listed_row-row.result.now ≡ n =
    ap length listed ∙ length-take-le n (drop start l.bytes.items) (omega (arith, length-drop start l.bytes.items, row.is.inside, c.self.invariant.1)) in
    let here : r * len + column ≡ at = omega (arith, mod-add-div at len) in
    let bytes : drop (min column n) (take n (drop start l.bytes.items)) ≡ c.rest_of_row.result.bytes.now =
    ap (λ (b : List ℕ). drop (min column n) b) (sym listed) ∙ ap (λ (k : ℕ). drop (min column k) c.listed_row-row.result.now) (sym long) ∙ sym c.rest_of_row.ensures.listed in
    let count : len - max column n ≡ c.rest_of_row.result.filling = ap (λ (k : ℕ). len - max column k) (sym long) ∙ sym c.rest_of_row.ensures.filling in
    stands-from _ _ _ _ _ _ _ _ _ _ c.self.view_is here bytes count (sym c.rest_of_row.ensures.fill)
    (in_row len l.last_row_end l.fill l.row_ends.items l.bytes.items r column 0 c.self.invariant.0 c.self.invariant.1 row.of row.column n refl)

pub returns : goal.returns
returns c =
    let l = c.self.inside in
    let at : ℕ = c.args.at in
    let len : ℕ = l.row_len in
    let last : ℕ = l.last_row_end in
    let all : c.len.result ≡ length l.row_ends.items = omega (arith, c.len.ensures, l.row_ends.ok.0) in
    let in_rows : c.len.result * len ≡ length l.row_ends.items * len = ap (λ (k : ℕ). k * len) all in
    let skipped : ℕ = at - c.len.result * len in
    let here : length l.row_ends.items * len + skipped ≡ at = omega (arith, in_rows, c.if-at-in_rows.false) in
    let held : List ℕ = c.deref.result.now in
    let after : List ℕ = take (length held - last) (drop last held) in
    let is_after : after ≡ drop last l.bytes.items =
    take_all (length held - last) (drop last held) (omega (arith, length-drop last held)) ∙ ap (drop last) c.deref.ensures.value in
    let bytes : drop (last + skipped) l.bytes.items ≡ take (length after - c.min-skipped.result) (drop c.min-skipped.result after) =
    grind (arith, drop-drop, drop_min, take_all, length-drop) in
    stands-from _ _ _ _ _ _ _ _ _ _ c.self.view_is here bytes refl refl
    (after_rows len last l.fill l.row_ends.items l.bytes.items skipped c.self.invariant.0 c.self.invariant.1)
