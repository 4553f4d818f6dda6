-- Definition. Lists of bytes.
use Rattle.std.specs.Prelude.{ℕ, ◌<◌, ◌-◌, ◌%◌, List, [], ◌∷◌, ◌++◌, slice_index}

-- the bytes of a file or of a text, as numbers
abbrev pub Bytes : Type 0
Bytes = List ℕ

-- each number is below 256 (after the list's end `slice_index` is 0)
abbrev pub AreBytes : Bytes → Type 0
AreBytes bytes = (i : ℕ) → slice_index bytes i < 256

-- how many bytes fill n bytes up to the next multiple of four
abbrev pub padding_len : ℕ → ℕ
padding_len n = (4 - n % 4) % 4

-- the parts of a text, one after the other
unfoldable pub concat_parts : List Bytes → Bytes
concat_parts [] = []
concat_parts (part ∷ parts) = part ++ concat_parts parts
