use Rattle.std.proofs.Common.{arith}
use Rattle.cdl_tokens.specs.code.Scanners.{is_stop}
use Rattle.cdl_tokens.proofs.Masks.{run_stops}
use Rattle.cdl_tokens.proofs.search.far_len.Goals as goal

pub returns-then-found-ne0 : goal.returns-then-found-ne0
returns-then-found-ne0 c = grind (arith, run_stops (is_stop c.args.stops) c.args.bytes.now 0 16)
