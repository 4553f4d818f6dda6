-- Definition. The fields of a header, as the rules look at them: each with its place, its offset, and what matters of its content.
use Rattle.std.specs.Prelude.{ℕ, ◌==◌, ◌&&◌, ◌-◌, Bool, nat_lt, if◌then◌else◌, List, [], ◌∷◌, ◌++◌, length, take, slice_index, Option}
use Rattle.std.specs.Int.{w32, w64, from_be_bytes}
use Rattle.nc_base.specs.declared.fault.FormatFault.{FormatFault}
use Rattle.nc_types.specs.Bytes.{Bytes}
use Rattle.nc_base.specs.Parts.{Step, Magic, VersionByte, Records, Dims, Gatts, Vars, Tag, Count, Item, Name, Length, Text, Padding, TypeCode, Values, Shape, Atts, Vsize, Begin}
use Rattle.nc_findings.specs.declared.{place.Owner.Owner, place.FieldKind.FieldKind, place.Place.Place, entry.Content.Content, entry.Entry.Entry}
use Rattle.nc_findings.specs.declared.place.Owner.TheVariants as owner
use Rattle.nc_findings.specs.declared.place.FieldKind.TheVariants as field
use Rattle.nc_findings.specs.declared.entry.Content.TheVariants as content
use Rattle.nc_fields.specs.Fields.{Field}

-- ---- places

-- the steps to a dimension, an attribute or a variable, the last one first
abbrev pub owner_steps : Owner → List Step
owner_steps owner.Header = []
owner_steps (owner.Dim i) = Item i ∷ Dims ∷ []
owner_steps (owner.GlobalAtt i) = Item i ∷ Gatts ∷ []
owner_steps (owner.Var i) = Item i ∷ Vars ∷ []
owner_steps (owner.VarAtt i k) = Item k ∷ Atts ∷ Item i ∷ Vars ∷ []

-- the steps from its owner to a field
abbrev pub field_steps : FieldKind → List Step
field_steps field.Magic = Magic ∷ []
field_steps field.Version = VersionByte ∷ []
field_steps field.NumRecs = Records ∷ []
field_steps field.DimsTag = Tag ∷ Dims ∷ []
field_steps field.DimsCount = Count ∷ Dims ∷ []
field_steps field.GlobalAttsTag = Tag ∷ Gatts ∷ []
field_steps field.GlobalAttsCount = Count ∷ Gatts ∷ []
field_steps field.VarsTag = Tag ∷ Vars ∷ []
field_steps field.VarsCount = Count ∷ Vars ∷ []
field_steps field.NameLength = Length ∷ Name ∷ []
field_steps field.Name = Text ∷ Name ∷ []
field_steps field.NamePadding = Padding ∷ Name ∷ []
field_steps field.Length = Length ∷ []
field_steps field.Type = TypeCode ∷ []
field_steps field.Count = Count ∷ []
field_steps field.Values = Values ∷ []
field_steps field.Padding = Padding ∷ []
field_steps field.Rank = Count ∷ Shape ∷ []
field_steps (field.DimId k) = Item k ∷ Shape ∷ []
field_steps field.AttsTag = Tag ∷ Atts ∷ []
field_steps field.AttsCount = Count ∷ Atts ∷ []
field_steps field.Vsize = Vsize ∷ []
field_steps field.Begin = Begin ∷ []

-- the steps to the field in this place, the last one first
abbrev pub steps_of : Place → List Step
steps_of place = field_steps place.field ++ owner_steps place.owner

-- ---- contents

-- the number of a field of 1, 4 or 8 bytes
abbrev pub number_in : ℕ → Bytes → ℕ
number_in size bytes = if size == 8 then from_be_bytes w64 bytes else (if size == 4 then from_be_bytes w32 bytes else slice_index bytes 0)

-- the last byte is a NUL
abbrev pub ends_with_nul : Bytes → Bool
ends_with_nul bytes = nat_lt 0 (length bytes) && (slice_index bytes (length bytes - 1) == 0)

-- what matters of a field with these steps, that has this many bytes; these are the bytes from its first one to the end of the file
abbrev pub whole_content : List Step → ℕ → Bytes → Content
whole_content (Magic ∷ steps) size start = content.Bytes (take size start)
whole_content (Text ∷ steps) size start = content.Bytes (take size start)
whole_content (Padding ∷ steps) size start = content.Bytes (take size start)
whole_content (Values ∷ steps) size start = content.Values (ends_with_nul (take size start))
whole_content steps size start = content.Number (number_in size (take size start))

-- what is kept of a field with these steps inside of which the file ends: the bytes that are there, of those that should be `CDF`
abbrev pub cut_content : List Step → Bytes → Content
cut_content (Magic ∷ steps) bytes = content.Bytes bytes
cut_content steps bytes = content.Cut

-- ---- entries

-- what the rules look at in a field
pub record Seen : Type 0 where
  pub steps : List Step
  pub offset : ℕ
  pub size : ℕ
  pub content : Content
  pub fault : Option FormatFault

-- of a field in a file of this length
unfoldable pub seen : ℕ → Field → Seen
seen file_len f = record {
  steps = f.steps;
  offset = file_len - length f.start;
  size = f.size;
  content = if nat_lt (length f.start) f.size then cut_content f.steps f.start else whole_content f.steps f.size f.start;
  fault = f.fault;
}

-- of an entry
abbrev pub seen_by : Entry → Seen
seen_by e = record { steps = steps_of e.place; offset = e.offset; size = e.size; content = e.content; fault = e.fault }
