-- Definition. The JSON objects of findings, one a line (RFC 8259): `{"file":F,"offset":N,"severity":S,"kind":K,"path":P}`, with members
-- `found` and `expected` after these where the kind has them. No blank stands between tokens, and all values but the offset are strings.
use Rattle.std.specs.Prelude.{ℕ, ◌==◌, ◌||◌, Bool, not, nat_lt, if◌then◌else◌, List, [], ◌∷◌, ◌++◌, codes, decimal, Option, Some, None}
use Rattle.std.specs.Str.{byte}
use Rattle.nc_types.specs.Bytes.{Bytes, concat_parts}
use Rattle.nc_findings.specs.declared.{filter.Filter.Filter, finding.Finding.Finding, kind.Kind.Kind, listing.Listing.Listing}
use Rattle.nc_findings.specs.Kinds.{kind_word, severity_of, severity_word}
use Rattle.check_lines.specs.Lines.{Told, if_reported, told}
use Rattle.check_lines.specs.Messages.{hex_byte}
use Rattle.check_lines.specs.Shown.{each_of}

-- ---- strings

-- a byte that stands for itself: neither a quote, nor a backslash, nor a control character
abbrev pub is_plain : ℕ → Bool
is_plain b = not ((b == byte "\"") || (b == byte "\\") || nat_lt b 32)

-- the escape of any other
abbrev pub json_escape : ℕ → Bytes
json_escape b =
    if b == 8 then codes "\\b"
    else if b == 9 then codes "\\t"
    else if b == byte "\n" then codes "\\n"
    else if b == 12 then codes "\\f"
    else if b == 13 then codes "\\r"
    else if nat_lt b 32 then codes "\\u00" ++ hex_byte b
    else byte "\\" ∷ b ∷ []

-- a byte, with its escape if it needs one
abbrev pub json_byte : ℕ → Bytes
json_byte b = if is_plain b then b ∷ [] else json_escape b

-- A text between the quotes of a string. JSON is UTF-8: so is a path that was opened, and so are the texts of a line, which have escapes
-- for all other bytes.
unfoldable pub json_text : Bytes → Bytes
json_text text = each_of json_byte text

-- ---- objects

-- a member whose value is a number: its name with what stands around it, and the value
unfoldable pub number_member : Bytes → ℕ → Bytes
number_member name n = concat_parts (name ∷ decimal n ∷ [])

-- a member whose value is a string, the same up to the quote
unfoldable pub member : Bytes → Bytes → Bytes
member name text = concat_parts (name ∷ json_text text ∷ codes "\"" ∷ [])

-- if there is a value
abbrev pub member_if : Bytes → Option Bytes → Bytes
member_if name None = []
member_if name (Some text) = member name text

-- the file and the offset
unfoldable pub position_members : Bytes → ℕ → Bytes
position_members file offset = concat_parts (member (codes "{\"file\":\"") file ∷ number_member (codes ",\"offset\":") offset ∷ [])

-- the severity and the kind
unfoldable pub kind_members : Kind → Bytes
kind_members kind =
    concat_parts (member (codes ",\"severity\":\"") (severity_word (severity_of kind)) ∷ member (codes ",\"kind\":\"") (kind_word kind) ∷ [])

-- the object of what is told, and a line feed
unfoldable pub object_text : Told → Bytes
object_text t = concat_parts (
    position_members t.file t.offset ∷ kind_members t.kind ∷ member (codes ",\"path\":\"") t.path
    ∷ member_if (codes ",\"found\":\"") t.found ∷ member_if (codes ",\"expected\":\"") t.expected ∷ codes "}\n" ∷ [])

abbrev pub object : Bytes → Listing → Finding → Bytes
object file l f = object_text (told file l f)

-- the objects of these findings
abbrev pub json_lines : Filter → Bytes → Listing → List Finding → Bytes
json_lines filter file l findings = each_of (if_reported (object file l) filter) findings
