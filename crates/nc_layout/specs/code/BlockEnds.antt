-- For contracts. Where the blocks of a file end, computed once and for all.
use Rattle.std.specs.Prelude.{◌≡◌}
use Rattle.nc_layout.specs.declared.{slot.FileLayout.FileLayout, file_end.BlockEnds.BlockEnds}
use Rattle.nc_layout.specs.FileEnd.{values_end, padding_end, used_end}

-- these are the offsets at which the data of a file with this layout ends
pub record AreEnds (layout : FileLayout) (ends : BlockEnds) : Type 0 where
  pub values : ends.values ≡ values_end layout
  pub padding : ends.padding ≡ padding_end layout
  pub used : ends.used ≡ used_end layout
