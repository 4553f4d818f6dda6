use Rattle.nc_layout.proofs.Prelude.{take}
use Rattle.nc_layout.proofs.HeaderSlots.{AreSlots}
use Rattle.nc_layout.proofs.header_layout.slots_of.Given as goal

abbrev pub invariant-loop-var : goal.invariant-loop-var
invariant-loop-var l = AreSlots l.dims (take l.var-index l.header.vars) l.slots
