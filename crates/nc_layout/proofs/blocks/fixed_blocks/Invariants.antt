use Rattle.nc_layout.proofs.Prelude.{each_slot, fixed_block, ◌≡◌, ◌++◌, drop}
use Rattle.nc_layout.proofs.blocks.fixed_blocks.Given as goal

abbrev pub invariant-loop-i : goal.invariant-loop-i
invariant-loop-i l = l.found.items ++ each_slot fixed_block l.i (drop l.i l.slots) ≡ each_slot fixed_block 0 l.slots
