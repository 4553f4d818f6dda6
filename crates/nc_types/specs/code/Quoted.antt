-- For contracts. How one byte is written where it stands, in words for the code that prints and the code that reads.
use Rattle.std.specs.Prelude.{ℕ, Bool, List, [], ◌∷◌, ◌==◌, ◌||◌, not}
use Rattle.std.specs.Str.{byte}
use Rattle.nc_types.specs.Escapes.{escaped_in_name, escaped_in_string, is_plain, octal_escape}
use Rattle.nc_types.specs.declared.{escape.Escape.Escape, escape.Quoting.Quoting}
use Rattle.nc_types.specs.declared.escape.Escape.TheVariants.{Plain, Backslash, Octal}
use Rattle.nc_types.specs.declared.escape.Quoting.TheVariants.{InName, InString}
use Rattle.std.specs.Char.{is_ascii_control}

-- a byte that stands for itself in a string
abbrev pub is_literal : ℕ → Bool
is_literal b = not (is_ascii_control b || (b == byte "\"") || (b == byte "'") || (b == byte "\\"))

-- the bytes that stand for a byte with this escape
abbrev pub written : Escape → ℕ → List ℕ
written Plain b = b ∷ []
written (Backslash c) b = byte "\\" ∷ c ∷ []
written Octal b = octal_escape b

-- one byte of a name or of a string, with its escape
abbrev pub escaped_in : Quoting → (ℕ → List ℕ)
escaped_in InName = escaped_in_name
escaped_in InString = escaped_in_string

-- whether a byte needs no escape there, unless it is the first one of a name
abbrev pub stands_for_itself : Quoting → (ℕ → Bool)
stands_for_itself InName = is_plain
stands_for_itself InString = is_literal
