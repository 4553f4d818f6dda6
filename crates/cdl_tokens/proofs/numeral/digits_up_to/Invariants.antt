use Rattle.std.proofs.Common.{◌-◌, ◌≤◌, ◌<◌, ◌^◌, length}
use Rattle.cdl_tokens.specs.code.Magnitudes.{ReadsDigits}
use Rattle.cdl_tokens.proofs.numeral.digits_up_to.Given as goal

abbrev pub invariant-digits : goal.invariant-digits
invariant-digits l = record {
  short : l.at ≤ 19;
  small : l.value < 10 ^ l.at;
  read : ReadsDigits l.bytes l.at l.value;
}

abbrev pub decreases-digits : goal.decreases-digits
decreases-digits l = length l.bytes - l.at
