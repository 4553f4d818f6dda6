-- Definition. Messages: what is found, and what is expected in its place, each as a text with blanks and the parts that stand in their
-- place.
use Rattle.std.specs.Prelude.{ℕ, ◌-◌, ◌+◌, ◌/◌, ◌%◌, ◌==◌, Bool, true, false, nat_lt, if◌then◌else◌, [], ◌∷◌, codes, decimal, Option, Some, None, Result}
use Rattle.std.specs.List.{after_first, before_first}
use Rattle.std.specs.Str.{byte}
use Rattle.nc_types.specs.Bytes.{Bytes, concat_parts}
use Rattle.nc_base.specs.declared.{fault.FormatFault.FormatFault, header.Header.Header}
use Rattle.nc_findings.specs.declared.entry.Content.{Content}
use Rattle.nc_findings.specs.declared.entry.Content.TheVariants as content
use Rattle.nc_findings.specs.Contents.{number_of}
use Rattle.check_lines.specs.declared.message.Part.{Part}
use Rattle.check_lines.specs.declared.message.Part.TheVariants.{Number, Long, TypeCode, FieldContent, FieldType, FieldZeros, OfBlock}
use Rattle.check_lines.specs.Paths.{block_path}
use Rattle.check_lines.specs.Shown.{each_of}

-- ---- contents

abbrev pub hex_digit : ℕ → ℕ
hex_digit n = if nat_lt n 10 then byte "0" + n else byte "a" + (n - 10)

abbrev pub hex_byte : ℕ → Bytes
hex_byte b = hex_digit (b / 16) ∷ hex_digit (b % 16) ∷ []

-- the two hexadecimal digits of a byte, or of 0 in its place
abbrev pub digits : Bool → ℕ → Bytes
digits is_zero b = hex_byte (if is_zero then 0 else b)

unfoldable pub hex_text : Bool → Bytes → Bytes
hex_text is_zero bytes = concat_parts (codes "0x" ∷ each_of (digits is_zero) bytes ∷ [])

-- a number in decimal, or bytes in hexadecimal
unfoldable pub content_text : Content → Bytes
content_text (content.Number n) = decimal n
content_text (content.Bytes bytes) = hex_text false bytes
content_text c = []

-- in hexadecimal, a byte 0 for each byte
unfoldable pub zeros_text : Content → Bytes
zeros_text (content.Bytes bytes) = hex_text true bytes
zeros_text c = []

-- the word for a type code, in brackets; nothing for another number
unfoldable pub type_word : ℕ → Bytes
type_word code =
    if code == 1 then codes " (byte)"
    else if code == 2 then codes " (char)"
    else if code == 3 then codes " (short)"
    else if code == 4 then codes " (int)"
    else if code == 5 then codes " (float)"
    else if code == 6 then codes " (double)"
    else if code == 7 then codes " (ubyte)"
    else if code == 8 then codes " (ushort)"
    else if code == 9 then codes " (uint)"
    else if code == 10 then codes " (int64)"
    else if code == 11 then codes " (uint64)"
    else []

-- a type code, with the word for it
unfoldable pub type_text : Content → Bytes
type_text c = concat_parts (content_text c ∷ type_word (number_of c) ∷ [])

-- ---- messages

-- what is said of a finding: words, or a text with one blank `_` or two, and the parts that stand in their place
pub data Said : Type 0 where
  words : (text : Bytes) → Said
  with : (text : Bytes) (part : Part) → Said
  with_both : (text : Bytes) (first second : Part) → Said

-- nothing more, or what is found, or what is found and what is expected in its place
pub data Message : Type 0 where
  nothing : Message
  found : (f : Said) → Message
  instead : (f e : Said) → Message

-- a part of what is said of a field with this content, or of the data
abbrev pub part_text : Result Header FormatFault → Content → Part → Bytes
part_text header c (Number n) = decimal n
part_text header c (Long n) = decimal n
part_text header c (TypeCode code) = type_text (content.Number code)
part_text header c FieldContent = content_text c
part_text header c FieldType = type_text c
part_text header c FieldZeros = zeros_text c
part_text header c (OfBlock block) = block_path header block

abbrev pub is_blank : ℕ → Bool
is_blank b = b == byte "_"

-- a text with a part in place of its blank
unfoldable pub with_part : Result Header FormatFault → Content → Bytes → Part → Bytes
with_part header c text part = concat_parts (before_first is_blank text ∷ part_text header c part ∷ after_first is_blank text ∷ [])

-- the text of what is said
unfoldable pub said_text : Result Header FormatFault → Content → Said → Bytes
said_text header c (words text) = text
said_text header c (with text part) = with_part header c text part
said_text header c (with_both text first second) =
    concat_parts (before_first is_blank text ∷ part_text header c first ∷ with_part header c (after_first is_blank text) second ∷ [])

-- what is found, and what is expected, if it is said
unfoldable pub found_text : Result Header FormatFault → Content → Message → Option Bytes
found_text header c nothing = None
found_text header c (found f) = Some (said_text header c f)
found_text header c (instead f e) = Some (said_text header c f)

unfoldable pub expected_text : Result Header FormatFault → Content → Message → Option Bytes
expected_text header c nothing = None
expected_text header c (found f) = None
expected_text header c (instead f e) = Some (said_text header c e)
