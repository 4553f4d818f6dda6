-- Definition. The stem of a path: the name of its file without the extension.
use Rattle.std.specs.Prelude.{ℕ, Bool, ◌==◌, drop, if◌then◌else◌}
use Rattle.std.specs.Str.{byte}
use Rattle.std.specs.List.{list_any, before_last, after_last}
use Rattle.nc_types.specs.Bytes.{Bytes}

abbrev pub is_slash : ℕ → Bool
is_slash b = b == byte "/"

abbrev pub is_dot : ℕ → Bool
is_dot b = b == byte "."

-- what comes after the last slash; all of it, if there is none
abbrev pub file_name_of : Bytes → Bytes
file_name_of path = after_last is_slash path

-- there is a dot after the first byte
abbrev pub has_extension : Bytes → Bool
has_extension name = list_any is_dot (drop 1 name)

abbrev pub without_extension : Bytes → Bytes
without_extension name = if has_extension name then before_last is_dot name else name

abbrev pub stem_of : Bytes → Bytes
stem_of path = without_extension (file_name_of path)
