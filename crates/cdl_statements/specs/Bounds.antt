-- Definition. How long a text may be, and the fault if memory runs out.
use Rattle.std.specs.Prelude.{ℕ}
use Rattle.cdl_statements.specs.declared.{fault.CdlFault.CdlFault, fault.CdlKind.TheVariants.OutOfMemory}

-- `ncgen` reads no longer text
abbrev pub text_limit : ℕ
text_limit = 268435456

-- the answer if an allocation failed: it has no line, and says nothing of the text
abbrev pub out_of_memory : CdlFault
out_of_memory = record { line = 0; kind = OutOfMemory }
