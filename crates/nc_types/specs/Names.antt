-- Definition. Valid names.
use Rattle.std.specs.Prelude.{ℕ, Bool, false, IsTrue, nat_le, ◌==◌, ◌&&◌, ◌||◌, not, [], ◌∷◌, slice_index, length, ◌-◌}
use Rattle.std.specs.Char.{is_ascii_alphabetic, is_ascii_digit}
use Rattle.std.specs.List.{list_all}
use Rattle.std.specs.Str.{byte, is_utf8}
use Rattle.nc_types.specs.Bytes.{Bytes}

abbrev pub is_beyond_ascii : ℕ → Bool
is_beyond_ascii b = nat_le 128 b

-- ID1 of the specification
abbrev pub may_begin_name : ℕ → Bool
may_begin_name b = is_ascii_alphabetic b || is_ascii_digit b || (b == byte "_") || is_beyond_ascii b

-- IDN of the specification: any printing ASCII character but `/`, or a byte of a character beyond ASCII
abbrev pub may_follow_in_name : ℕ → Bool
may_follow_in_name b = (nat_le 32 b && nat_le b 126 && not (b == byte "/")) || is_beyond_ascii b

abbrev pub has_name_bytes : Bytes → Bool
has_name_bytes [] = false
has_name_bytes (first ∷ others) = may_begin_name first && list_all may_follow_in_name others

abbrev pub ends_with_space : Bytes → Bool
ends_with_space name = slice_index name (length name - 1) == byte " "

-- a name of a dimension, a variable or an attribute
abbrev pub is_name : Bytes → Bool
is_name name = has_name_bytes name && not (ends_with_space name) && is_utf8 name

abbrev pub IsName : Bytes → Type 0
IsName name = IsTrue (is_name name)
