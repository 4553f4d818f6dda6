-- Definition. How a line shows the bytes of names and paths.
use Rattle.std.specs.Prelude.{ℕ, ◌==◌, ◌||◌, Bool, true, false, not, nat_le, if◌then◌else◌, List, [], ◌∷◌, codes, length, map, take}
use Rattle.std.specs.Char.{is_ascii_control}
use Rattle.std.specs.Str.{byte, is_utf8}
use Rattle.nc_types.specs.Bytes.{Bytes, concat_parts}
use Rattle.nc_types.specs.Escapes.{escaped_in_string, octal_escape}
use Rattle.nc_types.specs.Names.{is_beyond_ascii}
use Rattle.check_lines.specs.declared.shown.Form.{Form}
use Rattle.check_lines.specs.declared.shown.Form.TheVariants.{Quoted, Bare}

-- the texts of these elements, one after the other
abbrev pub each_of : {X : Type 0} → (X → Bytes) → List X → Bytes
each_of text xs = concat_parts (map text xs)

-- quotes need no escape in it
abbrev pub is_bare : Form → Bool
is_bare Quoted = false
is_bare Bare = true

-- a byte that stands for itself: from 0x80 on, if those aren't shown in octal, and what needs no escape
abbrev pub stays : Form → Bool → ℕ → Bool
stays form in_octal b =
    if is_beyond_ascii b then not in_octal
    else if (b == byte "\"") || (b == byte "'") then is_bare form
    else not (is_ascii_control b || (b == byte "\\"))

-- any other has the escape of a string in a dump
abbrev pub shown_byte : Form → Bool → ℕ → Bytes
shown_byte form in_octal b =
    if stays form in_octal b then b ∷ []
    else if is_beyond_ascii b then octal_escape b
    else escaped_in_string b

-- Bytes that are UTF-8 stay from 0x80 on. Of those that are longer than this the first 64 are shown, which may end within a character.
unfoldable pub shown : Form → ℕ → Bytes → Bytes
shown form longest bytes =
    if nat_le (length bytes) longest then each_of (shown_byte form (not (is_utf8 bytes))) bytes
    else each_of (shown_byte form true) (take 64 bytes)

-- what follows the first 64
abbrev pub dots : ℕ → Bytes → Bytes
dots longest bytes = if nat_le (length bytes) longest then [] else codes "..."

-- the length of the longest name that is shown whole
abbrev pub longest_shown_name : ℕ
longest_shown_name = 256

-- the greatest length of a path that is opened, and of one that is shown whole
abbrev pub longest_path : ℕ
longest_path = 65535

-- a name between quotes
unfoldable pub shown_name : Bytes → Bytes
shown_name name = concat_parts (codes "\"" ∷ shown Quoted longest_shown_name name ∷ codes "\"" ∷ dots longest_shown_name name ∷ [])

unfoldable pub shown_path : Bytes → Bytes
shown_path file = concat_parts (shown Bare longest_path file ∷ dots longest_path file ∷ [])
