use Rattle.nc_window.proofs.Prelude.{◌≡◌, ℕ, ◌+◌, ◌-◌, take, drop, ap, ◌∙◌, arith}
use Rattle.nc_window.proofs.window.Window.peek_array.Goals as goal

pub returns : goal.returns
returns g c =
    let count : c.args.self.now.pos + g.row.N - c.args.self.now.pos ≡ g.row.N = omega arith in
    c.copy_from_slice.ensures.after ∙ ap (λ (n : ℕ). take n (drop c.args.self.now.pos c.args.self.now.buf.now)) count
