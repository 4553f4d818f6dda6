use Rattle.cdl_print.proofs.Prelude.{◌≡◌, ◌≤◌, ◌-◌, true, length, take, list_all, stands_for_itself}
use Rattle.cdl_print.proofs.escaped.plain_len.Given as goal

abbrev pub invariant-loop-len : goal.invariant-loop-len
invariant-loop-len l = record { within : l.len ≤ length l.bytes; plain : list_all (stands_for_itself l.quoting) (take l.len l.bytes) ≡ true }

abbrev pub decreases-loop-len : goal.decreases-loop-len
decreases-loop-len l = length l.bytes - l.len
