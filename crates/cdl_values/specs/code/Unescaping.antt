-- For contracts. A string whose first characters are appended as the bytes that they stand for.
use Rattle.std.specs.Prelude.{ℕ, List, ◌++◌}
use Rattle.cdl_tokens.specs.Escapes.{string_value}
use Rattle.cdl_values.specs.code.PackedValues.{char_bytes}

-- the bytes so far, and those that the rest of the string stands for
abbrev pub with_rest : List ℕ → List ℕ → List ℕ
with_rest bytes rest = bytes ++ char_bytes (string_value rest)
