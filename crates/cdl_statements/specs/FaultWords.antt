-- Definition. The words for the fault of a CDL text.
use Rattle.std.specs.Prelude.{ℕ, [], ◌∷◌, codes, decimal}
use Rattle.nc_types.specs.Bytes.{Bytes, concat_parts}
use Rattle.cdl_statements.specs.declared.{fault.CdlFault.CdlFault, fault.CdlKind.CdlKind}
use Rattle.cdl_statements.specs.declared.fault.CdlKind.TheVariants.{OutOfMemory, BadToken, BadNumber, Syntax, BadName, DuplicateName, UnknownDimension, UnknownVariable, FloatingType, UnknownType, ZeroDimension, TwoRecordDims, BadShape, MixedConstants, NumberRange, WrongKind, TooManyValues, StringTooLong, DuplicateData, TooLarge}

unfoldable pub kind_words : CdlKind → Bytes
kind_words OutOfMemory = codes "out of memory"
kind_words BadToken = codes "bad token"
kind_words BadNumber = codes "bad number"
kind_words Syntax = codes "syntax"
kind_words BadName = codes "bad name"
kind_words DuplicateName = codes "duplicate name"
kind_words UnknownDimension = codes "unknown dimension"
kind_words UnknownVariable = codes "unknown variable"
kind_words FloatingType = codes "floating type"
kind_words UnknownType = codes "unknown type"
kind_words ZeroDimension = codes "zero dimension"
kind_words TwoRecordDims = codes "two record dimensions"
kind_words BadShape = codes "bad shape"
kind_words MixedConstants = codes "mixed constants"
kind_words NumberRange = codes "number out of range"
kind_words WrongKind = codes "wrong kind of value"
kind_words TooManyValues = codes "too many values"
kind_words StringTooLong = codes "string too long"
kind_words DuplicateData = codes "duplicate data"
kind_words TooLarge = codes "too large"

-- Out of memory belongs to no line.
unfoldable pub line_prefix : CdlKind → ℕ → Bytes
line_prefix OutOfMemory line = []
line_prefix kind line = concat_parts (codes "line " ∷ decimal line ∷ codes ": " ∷ [])

unfoldable pub cdl_fault_text : CdlFault → Bytes
cdl_fault_text fault = concat_parts (line_prefix fault.kind fault.line ∷ kind_words fault.kind ∷ [])
