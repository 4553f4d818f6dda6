use Rattle.std.proofs.Common.{◌≡◌, ℕ, ◌+◌, ◌-◌, ◌∙◌, take, drop, ap, arith, length-take}
use Rattle.devices.proofs.Stretches.{copied}
use Rattle.devices.proofs.ahead.ReadAhead.copy_from_stretch.Goals as goal

pub returns-clause-bytes : goal.returns-clause-bytes
returns-clause-bytes g c = λ known.
    let k = c.args.at - c.args.self.now.at in
    let place : c.args.self.now.at + k ≡ c.args.at = omega arith in
    let long : k + c.min-n.result - k ≡ c.min-n.result = omega arith in
    copied (g.S.Source.view c.args.self.now.source).bytes c.args.self.now.stretch c.copy_bytes.new.into (drop c.min-n.result c.args.into.now)
    c.args.self.now.at c.args.self.now.len c.args.at k c.min-n.result (c.args.self.now.stands known) place
    (omega arith)
    (omega (arith, c.copy_bytes.auto.into, c.min-n.ensures, length-take c.min-n.result c.args.into.now))
    (c.copy_bytes.ensures ∙ ap (λ (m : ℕ). take m (drop k c.args.self.now.stretch)) long)
