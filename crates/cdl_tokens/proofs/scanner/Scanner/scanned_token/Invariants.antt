use Rattle.std.proofs.Common.{length, ◌-◌, ◌≡◌, ◌≤◌}
use Rattle.cdl_tokens.specs.code.Scanners.{left}
use Rattle.cdl_tokens.proofs.scanner.Scanner.scanned_token.Given as goal

abbrev pub invariant-loop-self : goal.invariant-loop-self
invariant-loop-self l = record {
  rest : left l.self ≡ left l.fn.self;
  text : l.self.text.now ≡ l.fn.self.text.now;
  on : l.fn.self.at ≤ l.self.at;
}

abbrev pub decreases-loop-self : goal.decreases-loop-self
decreases-loop-self l = length l.self.text.now - l.self.at
