use Rattle.cdl_print.proofs.Prelude.{◌≡◌, ◌+◌, ◌≤◌, ◌==◌, length, take, suffix_len}
use Rattle.cdl_print.proofs.trailing_nuls.without_trailing_nuls.Given as goal

abbrev pub invariant-loop-len : goal.invariant-loop-len
invariant-loop-len l = (l.len ≤ length l.bytes) × (l.len + suffix_len (λ b. b == 0) l.bytes ≡ length l.bytes + suffix_len (λ b. b == 0) (take l.len l.bytes))

abbrev pub decreases-loop-len : goal.decreases-loop-len
decreases-loop-len l = l.len
