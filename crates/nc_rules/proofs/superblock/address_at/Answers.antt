use Rattle.std.specs.Int.{w64, from_le_bytes}
use Rattle.nc_rules.proofs.Prelude.{◌≡◌, ℕ, ◌+◌, ◌-◌, take, drop, ap, ◌∙◌, arith}
use Rattle.nc_rules.proofs.superblock.address_at.Goals as goal

pub returns : goal.returns
returns c =
    let count : c.args.place + 8 - c.args.place ≡ 8 = omega arith in
    c.from_le_bytes.ensures ∙ ap (from_le_bytes w64) (c.copy_from_slice.ensures.after ∙ ap (λ (n : ℕ). take n (drop c.args.place c.args.start.now)) count)
