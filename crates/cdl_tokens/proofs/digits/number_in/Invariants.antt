use Rattle.std.proofs.Common.{◌≡◌, drop, ◌≤◌}
use Rattle.cdl_tokens.specs.Bytes.{number_in}
use Rattle.cdl_tokens.proofs.digits.number_in.Given as goal

abbrev pub invariant-loop-b : goal.invariant-loop-b
invariant-loop-b l = record {
  rest : number_in l.base l.value (drop l.b-index l.digits) ≡ number_in l.base 0 l.digits;
  fits : l.value ≤ 18446744073709551615;
}
