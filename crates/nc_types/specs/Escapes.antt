-- Definition. How names and strings are written in CDL.
use Rattle.std.specs.Prelude.{ℕ, ◌+◌, ◌/◌, ◌%◌, Bool, false, ◌==◌, ◌||◌, if◌then◌else◌, List, [], ◌∷◌, ◌++◌, codes}
use Rattle.std.specs.Char.{is_ascii_alphanumeric, is_ascii_control, is_ascii_digit}
use Rattle.std.specs.List.{flat_map, list_any}
use Rattle.std.specs.Str.{byte, bytes_eq}
use Rattle.nc_types.specs.Bytes.{Bytes}
use Rattle.nc_types.specs.Names.{is_beyond_ascii}

-- a name may have this byte unescaped, but not as its first
abbrev pub is_name_mark : ℕ → Bool
is_name_mark b = (b == byte ".") || (b == byte "@") || (b == byte "+") || (b == byte "-")

-- a byte that needs no escape in a name, unless it is the first one
abbrev pub is_plain : ℕ → Bool
is_plain b = is_ascii_alphanumeric b || (b == byte "_") || is_name_mark b || is_beyond_ascii b

abbrev pub reserved_words : List Bytes
reserved_words =
    codes "netcdf" ∷ codes "dimensions" ∷ codes "variables" ∷ codes "data" ∷ codes "byte" ∷ codes "char" ∷ codes "short"
    ∷ codes "int" ∷ codes "long" ∷ codes "float" ∷ codes "real" ∷ codes "double" ∷ codes "ubyte" ∷ codes "ushort"
    ∷ codes "uint" ∷ codes "int64" ∷ codes "uint64" ∷ codes "string" ∷ codes "unlimited" ∷ codes "UNLIMITED" ∷ []

unfoldable pub is_reserved : Bytes → Bool
is_reserved name = list_any (bytes_eq name) reserved_words

-- in CDL no unescaped name begins so
abbrev pub begins_with_digit_or_mark : Bytes → Bool
begins_with_digit_or_mark [] = false
begins_with_digit_or_mark (b ∷ bs) = is_ascii_digit b || is_name_mark b

abbrev pub escaped_in_name : ℕ → Bytes
escaped_in_name b = if is_plain b then b ∷ [] else byte "\\" ∷ b ∷ []

-- a backslash before each byte that isn't plain, and one before a name that could be read as something else (its first byte is plain, so it
-- never gets two)
unfoldable pub escaped_name : Bytes → Bytes
escaped_name name = (if begins_with_digit_or_mark name || is_reserved name then byte "\\" ∷ [] else []) ++ flat_map escaped_in_name name

abbrev pub octal_escape : ℕ → Bytes
octal_escape b = byte "\\" ∷ (byte "0" + b / 64) ∷ (byte "0" + b / 8 % 8) ∷ (byte "0" + b % 8) ∷ []

-- one byte of a string: \b \t \n \v \f \r \" \' \\, and octal for all other control characters
abbrev pub escaped_in_string : ℕ → Bytes
escaped_in_string b =
    if b == 8 then codes "\\b"
    else if b == 9 then codes "\\t"
    else if b == byte "\n" then codes "\\n"
    else if b == 11 then codes "\\v"
    else if b == 12 then codes "\\f"
    else if b == 13 then codes "\\r"
    else if (b == byte "\"") || (b == byte "'") || (b == byte "\\") then byte "\\" ∷ b ∷ []
    else if is_ascii_control b then octal_escape b else b ∷ []

unfoldable pub escaped_text : Bytes → Bytes
escaped_text bytes = flat_map escaped_in_string bytes
