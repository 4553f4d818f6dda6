use Rattle.nc_base.proofs.Prelude.{ℕ, ◌≡◌, ◌-◌, ◌*◌, ◌≤◌, length, ap, arith}
use Rattle.nc_base.proofs.FilledRows.{length_filled}
use Rattle.nc_base.proofs.listed_array.ListedArray.len.Goals as goal

pub returns : goal.returns
returns c =
    let l = c.self.inside in
    let held : l.last_row_end - 0 ≤ length l.bytes.items = omega (arith, c.self.invariant.1) in
    let rows : c.len.result * l.row_len ≡ length l.row_ends.items * l.row_len = ap (λ (k : ℕ). k * l.row_len) (omega (arith, c.len.ensures, l.row_ends.ok.0)) in
    omega (arith, c.len-2.ensures, rows, l.bytes.ok.0, ap length c.self.view_is, length_filled l.row_len l.last_row_end l.fill 0 l.row_ends.items l.bytes.items c.self.invariant.0 held)
