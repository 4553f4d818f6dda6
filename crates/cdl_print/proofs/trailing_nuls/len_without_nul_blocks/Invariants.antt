use Rattle.cdl_print.proofs.Prelude.{◌≡◌, ◌+◌, ◌≤◌, ◌==◌, length, take, suffix_len}
use Rattle.cdl_print.proofs.trailing_nuls.len_without_nul_blocks.Given as goal

abbrev pub invariant-loop-rest : goal.invariant-loop-rest
invariant-loop-rest l = record {
  prefix : l.rest ≡ take (length l.rest) l.bytes;
  within : length l.rest ≤ length l.bytes;
  only_nuls : length l.rest + suffix_len (λ b. b == 0) l.bytes ≡ length l.bytes + suffix_len (λ b. b == 0) l.rest;
}

abbrev pub decreases-loop-rest : goal.decreases-loop-rest
decreases-loop-rest l = length l.rest
