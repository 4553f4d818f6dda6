-- For contracts. What `Display` writes of a fault.
use Rattle.std.specs.Prelude.{[], ◌∷◌, codes, decimal}
use Rattle.nc_types.specs.Bytes.{Bytes, concat_parts}
use Rattle.nc_walk.specs.declared.fault.WalkFault.{WalkFault}
use Rattle.nc_walk.specs.declared.fault.WalkFault.TheVariants.{ReadFailed, DataTruncated}

unfoldable pub walk_fault_text : WalkFault → Bytes
walk_fault_text ReadFailed = codes "read failed"
walk_fault_text (DataTruncated value) = concat_parts (codes "data truncated at value " ∷ decimal value ∷ [])
