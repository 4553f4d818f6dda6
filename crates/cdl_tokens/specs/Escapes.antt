-- Definition. The escapes of words and of strings. A `Character` has the byte that it stands for, if any, and its length.
use Rattle.std.specs.Prelude.{ℕ, zero, suc, List, [], ◌∷◌, ◌+◌, ◌-◌, ◌==◌, nat_lt, if◌then◌else◌, slice_index, take, drop, length, map, Option, None, Some, unwrap_or}
use Rattle.std.specs.Str.{byte}
use Rattle.std.specs.List.{take_while}
use Rattle.nc_types.specs.Bytes.{Bytes}
use Rattle.cdl_tokens.specs.declared.scan.Character.{Character}
use Rattle.cdl_tokens.specs.Bytes.{is_escape, is_octal, is_hex, number_in}

-- the bytes that a word stands for
unfoldable pub word_value : Bytes → Bytes
word_value [] = []
word_value (b ∷ []) = b ∷ []
word_value (b ∷ c ∷ rest) = if is_escape b c then c ∷ word_value rest else b ∷ word_value (c ∷ rest)

abbrev pub up_to_255 : ℕ → Option ℕ
up_to_255 n = if nat_lt 255 n then None else Some n

-- an escape of `intro` bytes (a backslash, or a backslash and an x) and these digits; without digits, or above 255, it is no byte
abbrev pub number_escape : ℕ → ℕ → Bytes → Character
number_escape intro base digits =
    record { value = if length digits == 0 then None else up_to_255 (number_in base 0 digits); len = intro + length digits }

-- the byte that a backslash and b stand for
abbrev pub plain_escape : ℕ → ℕ
plain_escape b =
    if b == byte "a" then 0x07
    else if b == byte "b" then 0x08
    else if b == byte "f" then 0x0c
    else if b == byte "n" then 0x0a
    else if b == byte "r" then 0x0d
    else if b == byte "t" then 0x09
    else if b == byte "v" then 0x0b
    else b

-- the escape of a backslash and what comes after it; its length counts the backslash
abbrev pub escaped_character : Bytes → Character
escaped_character after =
    if is_octal (slice_index after 0) then number_escape 1 8 (take_while is_octal (take 3 after))
    else if slice_index after 0 == byte "x" then number_escape 2 16 (take_while is_hex (take 2 (drop 1 after)))
    else record { value = Some (plain_escape (slice_index after 0)); len = 2 }

unfoldable pub character : Bytes → Character
character bs = if slice_index bs 0 == byte "\\" then escaped_character (drop 1 bs) else record { value = Some (slice_index bs 0); len = 1 }

-- the byte that each character stands for, if any; the first `more` bytes still belong to the character before
unfoldable pub unescape_at : ℕ → Bytes → List (Option ℕ)
unescape_at more [] = []
unescape_at (suc more) (b ∷ bs) = unescape_at more bs
unescape_at zero (b ∷ bs) =
    let found = character (b ∷ bs) in
    found.value ∷ unescape_at (found.len - 1) bs

-- the bytes between the quotes of a string
abbrev pub inner : Bytes → Bytes
inner bytes = take (length bytes - 2) (drop 1 bytes)

abbrev pub unescape : Bytes → List (Option ℕ)
unescape bs = unescape_at 0 bs

-- the bytes that a string stands for; a character without a byte, which no good string has, counts as 0
abbrev pub string_value : Bytes → Bytes
string_value bs = map (λ b. unwrap_or b 0) (unescape bs)
