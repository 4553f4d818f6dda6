-- For contracts. A string whose first characters are put into a buffer as the bytes that they stand for.
use Rattle.std.specs.Prelude.{ℕ, List, ◌++◌, take}
use Rattle.cdl_tokens.specs.Escapes.{string_value}

-- the first bytes of the buffer, and those that the rest of the string stands for
abbrev pub then_rest : List ℕ → ℕ → List ℕ → List ℕ
then_rest buffer end rest = take end buffer ++ string_value rest
