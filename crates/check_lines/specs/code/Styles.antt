-- For contracts. What stands in lines, and what in JSON.
use Rattle.std.specs.Prelude.{ℕ, [], ◌∷◌, codes, Option}
use Rattle.nc_types.specs.Bytes.{Bytes, concat_parts}
use Rattle.nc_findings.specs.declared.{listing.Listing.Listing, finding.Finding.Finding}
use Rattle.check_lines.specs.Json.{json_text, member_if, object_text}
use Rattle.check_lines.specs.Lines.{Told, after, line_text, told}
use Rattle.check_lines.specs.Shown.{each_of}
use Rattle.check_lines.specs.declared.style.Style.{Style}
use Rattle.check_lines.specs.declared.style.Style.TheVariants.{Line, Json}

-- a text in a line, or in a string
unfoldable pub in_style : Style → Bytes → Bytes
in_style Line text = text
in_style Json text = json_text text

-- the text of a byte, and those of bytes, one after the other
unfoldable pub byte_in : Style → (ℕ → Bytes) → ℕ → Bytes
byte_in style text b = in_style style (text b)

abbrev pub each_in : Style → (ℕ → Bytes) → Bytes → Bytes
each_in style text bytes = each_of (byte_in style text) bytes

-- a text, if there is one, after a word of a line, or as a member of this name
unfoldable pub said_in : Style → Bytes → Bytes → Option Bytes → Bytes
said_in Line word name text = after word text
said_in Json word name text = member_if name text

-- what is found, and what is expected, at the end of a line or of an object
unfoldable pub end_in : Style → Option Bytes → Option Bytes → Bytes
end_in style found expected = concat_parts (
    said_in style (codes ": found ") (codes ",\"found\":\"") found ∷ said_in style (codes ", expected ") (codes ",\"expected\":\"") expected ∷ [])

-- the line of a finding, or its object
unfoldable pub told_in : Style → Told → Bytes
told_in Line t = line_text t
told_in Json t = object_text t

abbrev pub finding_in : Style → Bytes → Listing → Finding → Bytes
finding_in style file l f = told_in style (told file l f)
