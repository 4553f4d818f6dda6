use Rattle.cdl_values.proofs.Prelude.{unescape_past, ◌≤◌, arith, length, append-nil}
use Rattle.cdl_values.proofs.string.put_string.Goals as goal

pub returns-then-is_empty : goal.returns-then-is_empty
returns-then-is_empty c =
    let escape = c.in_ok-escape.escape.now in
    let none : length escape ≤ 0 = grind (arith, c.if-is_empty.true, c.is_empty.ensures) in
    grind (arith, unescape_past escape 0 none, append-nil c.put_unescaped.new.array)
