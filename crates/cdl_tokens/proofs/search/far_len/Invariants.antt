use Rattle.std.proofs.Common.{◌≡◌, ◌≤◌, ◌+◌, ◌-◌, length, drop}
use Rattle.std.specs.List.{prefix_len}
use Rattle.cdl_tokens.specs.code.Scanners.{goes_on}
use Rattle.cdl_tokens.proofs.search.far_len.Given as goal

abbrev pub invariant-loop-at : goal.invariant-loop-at
invariant-loop-at l = record {
  within : l.at ≤ length l.bytes;
  rest : l.at + prefix_len (goes_on l.stops) (drop l.at l.bytes) ≡ prefix_len (goes_on l.stops) l.bytes;
}

abbrev pub decreases-loop-at : goal.decreases-loop-at
decreases-loop-at l = length l.bytes - l.at
