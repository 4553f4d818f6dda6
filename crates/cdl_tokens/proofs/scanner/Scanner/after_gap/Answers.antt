use Rattle.cdl_tokens.proofs.Prelude.{get_or-drop, arith, drop}
use Rattle.cdl_tokens.proofs.Gaps.{gap_feeds}
use Rattle.cdl_tokens.proofs.Scans.{line_more}
use Rattle.cdl_tokens.proofs.scanner.Scanner.after_gap.Goals as goal

pub invariant_of-result-clause-on_line : goal.invariant_of-result-clause-on_line
invariant_of-result-clause-on_line c = grind (arith, line_more c.args.self.text.now c.args.self.at c.args.len, gap_feeds c.args.self.at_start (drop c.args.self.at c.args.self.text.now), get_or-drop)
