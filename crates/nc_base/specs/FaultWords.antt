-- Definition. The words for the fault of a header.
use Rattle.std.specs.Prelude.{[], ◌∷◌, codes, decimal}
use Rattle.nc_types.specs.Bytes.{Bytes, concat_parts}
use Rattle.nc_base.specs.declared.fault.FormatFault.{FormatFault}
use Rattle.nc_base.specs.declared.fault.FormatFault.TheVariants.{NotNetcdf, UnknownVersion, HeaderTruncated, BadTag, BadCount, BadName, FloatingType, BadType, BadShape, TwoRecordDims, BadOffset, TooLarge}

unfoldable pub fault_words : FormatFault → Bytes
fault_words NotNetcdf = codes "not a netCDF classic file"
fault_words (UnknownVersion n) = codes "unknown version "
fault_words HeaderTruncated = codes "header truncated"
fault_words BadTag = codes "bad tag"
fault_words BadCount = codes "bad count"
fault_words BadName = codes "bad name"
fault_words FloatingType = codes "floating type"
fault_words BadType = codes "bad type"
fault_words BadShape = codes "bad shape"
fault_words TwoRecordDims = codes "two record dimensions"
fault_words BadOffset = codes "bad offset"
fault_words TooLarge = codes "too large"

-- the whole message: after the words for an unknown version stands the version byte
unfoldable pub format_text : FormatFault → Bytes
format_text (UnknownVersion n) = concat_parts (fault_words (UnknownVersion n) ∷ decimal n ∷ [])
format_text fault = fault_words fault
