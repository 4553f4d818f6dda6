use Rattle.cdl_tokens.proofs.Prelude.{arith}
use Rattle.cdl_tokens.proofs.Scans.{line_more}
use Rattle.cdl_tokens.proofs.scanner.Scanner.after_token.Goals as goal

pub invariant_of-result-clause-on_line : goal.invariant_of-result-clause-on_line
invariant_of-result-clause-on_line c = grind (arith, line_more c.args.self.text.now c.args.self.at c.args.len)
