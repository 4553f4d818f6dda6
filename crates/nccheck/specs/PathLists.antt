-- Definition. Lists of paths, each ended by a NUL, the last one with or without.
use Rattle.std.specs.Prelude.{ℕ, ◌==◌, nat_lt, nat_le, if◌then◌else◌, List, [], ◌∷◌, ◌++◌, length, Option, Some, None}
use Rattle.std.specs.Str.{is_utf8}
use Rattle.nc_types.specs.Bytes.{Bytes}
use Rattle.check_lines.specs.Shown.{longest_path}
use Rattle.nccheck.specs.declared.fault.PathFault.{PathFault}
use Rattle.nccheck.specs.declared.fault.PathFault.TheVariants.{Empty, TooLong, NotUtf8}

-- why the path can't be opened, whatever files there are
unfoldable pub path_fault : Bytes → Option PathFault
path_fault file =
    if length file == 0 then Some Empty
    else if nat_lt longest_path (length file) then Some TooLong
    else if is_utf8 file then None
    else Some NotUtf8

-- the path with one more byte; a path that is too long gets no more
unfoldable pub with_byte : Bytes → ℕ → Bytes
with_byte path b = if nat_le (length path) longest_path then path ++ b ∷ [] else path

-- what a run comes to: a path, or a list that can't be read on
pub data Item : Type 0 where
  Path : Bytes → Item
  Unread : Item

-- how a list ends: with its last byte, or where it can't be read on
pub data ListEnd : Type 0 where
  Whole : ListEnd
  Broken : ListEnd

-- after all bytes, of which these belong to a path that no NUL has ended
abbrev pub last_items : ListEnd → Bytes → List Item
last_items Whole [] = []
last_items Whole (b ∷ bs) = Path (b ∷ bs) ∷ []
last_items Broken begun = Unread ∷ []

-- the items that the bytes give, if `begun` is the path that is begun before them
abbrev pub items_after : ListEnd → Bytes → Bytes → List Item
items_after end begun [] = last_items end begun
items_after end begun (b ∷ bs) = if b == 0 then Path begun ∷ items_after end [] bs else items_after end (with_byte begun b) bs

abbrev pub items_in : ListEnd → Bytes → List Item
items_in end bytes = items_after end [] bytes
