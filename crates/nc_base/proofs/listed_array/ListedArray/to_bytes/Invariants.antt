use Rattle.nc_base.proofs.Prelude.{◌≡◌, ◌++◌, ◌-◌, drop, length}
use Rattle.nc_base.proofs.listed_array.ListedArray.to_bytes.Given as goal

abbrev pub invariant-loop-filled : goal.invariant-loop-filled
invariant-loop-filled l = l.filled.items ++ drop (length l.filled.items) l.self ≡ l.self

abbrev pub decreases-loop-filled : goal.decreases-loop-filled
decreases-loop-filled l = length l.self - length l.filled.items
