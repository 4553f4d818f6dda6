use Rattle.std.proofs.Common.{◌+◌, arith}
use Rattle.std.proofs.lemmas.Bool.Decides.{nat_tests}
use Rattle.cdl_tokens.specs.code.Scanners.{is_stop}
use Rattle.cdl_tokens.proofs.Masks.{run_through}
use Rattle.cdl_tokens.proofs.search.is_passed.Goals as goal

pub returns : goal.returns
returns c = λ free.
    let through = run_through (is_stop c.args.stops) c.args.bytes.now in
    let at = c.args.at in
    grind (arith, nat_tests, free, through at 16 (omega arith), through (at + 16) 16 (omega arith), through (at + 32) 16 (omega arith), through (at + 48) 16 (omega arith))
