-- For contracts. The text of a variable's values, value by value. A NUL of a trimmed row is held back. The next other character of the row
-- has the text of the held NULs and its own: of a, NUL, NUL, b, NUL the pieces are `a`, nothing, nothing, `\000\000b` and nothing.
use Rattle.std.specs.Prelude.{ℕ, ℤ, ◌-◌, ◌%◌, ◌==◌, ◌&&◌, unsigned_abs, Bool, if◌then◌else◌, List, [], ◌∷◌, ◌++◌, length, drop, replicate}
use Rattle.std.specs.List.{suffix_len}
use Rattle.nc_types.specs.Bytes.{Bytes}
use Rattle.nc_types.specs.Escapes.{escaped_text}
use Rattle.nc_base.specs.ValueText.{Look, is_char, begins_row, number_piece, char_lead, variable_prefix}

abbrev pub is_nul : ℤ → Bool
is_nul value = unsigned_abs value == 0

-- of the values so far, those in the row of the next one
abbrev pub row_so_far : Look → List ℤ → List ℤ
row_so_far look values = drop (length values - length values % look.row) values

-- how many NULs are held back before the next value
abbrev pub held : Look → List ℤ → ℕ
held look values = if look.trimmed then suffix_len is_nul (row_so_far look values) else 0

-- a character, with the NULs held before it; nothing for a NUL that is held itself
abbrev pub char_text : Look → ℕ → ℤ → Bytes
char_text look nuls value =
    if look.trimmed && is_nul value then [] else escaped_text (replicate nuls 0 ++ unsigned_abs value ∷ [])

-- a character after these values: what opens its row if it is the first there, the held NULs, and the character unless it is held itself
unfoldable pub char_piece : Look → List ℤ → ℤ → Bytes
char_piece look values value =
    (if begins_row look (length values) then char_lead look (length values) else [])
    ++ char_text look (held look values) value

-- a value, with what comes before it: a number after the text so far (`before`), a character after the values so far
unfoldable pub piece : Look → Bytes → List ℤ → ℤ → Bytes
piece look before values value =
    if is_char look.ty then char_piece look values value else number_piece look before (length values) value

-- values, after this text and the values before
unfoldable pub pieces : Look → Bytes → List ℤ → List ℤ → Bytes
pieces look before values [] = []
pieces look before values (value ∷ others) =
    let next = piece look before values value in
    next ++ pieces look (before ++ next) (values ++ value ∷ []) others

-- the pieces of the values ys after those of a variable's first values xs
abbrev pub later_pieces : Look → List ℤ → List ℤ → Bytes
later_pieces look xs ys = pieces look (variable_prefix look xs) xs ys
