-- Definition. Paths: the words that say where a finding lies. A path names what a field belongs to by its number, and by its name too, once
-- the bytes of the name were read.
use Rattle.std.specs.Prelude.{ℕ, List, [], ◌∷◌, codes, decimal, fold, Option, Some, None, option_map, slice_get, Result, Ok, Err}
use Rattle.nc_types.specs.Bytes.{Bytes, concat_parts}
use Rattle.nc_base.specs.declared.{fault.FormatFault.FormatFault, header.Header.Header, header.Var.Var}
use Rattle.nc_findings.specs.declared.{place.Owner.Owner, place.FieldKind.FieldKind, place.Place.Place, entry.Content.Content, entry.Entry.Entry, layout_fact.Block.Block, layout_fact.Slab.Slab}
use Rattle.nc_findings.specs.declared.place.Owner.TheVariants as owner
use Rattle.nc_findings.specs.declared.place.FieldKind.TheVariants as field
use Rattle.nc_findings.specs.declared.entry.Content.TheVariants as content
use Rattle.nc_findings.specs.declared.layout_fact.Block.TheVariants as block
use Rattle.nc_findings.specs.declared.layout_fact.Slab.TheVariants as slab
use Rattle.check_lines.specs.Shown.{shown_name}

-- ---- names

-- the names that are known: of a dimension, a global attribute or a variable, and of an attribute of a variable
pub record KnownNames : Type 0 where
  pub element : Option Bytes
  pub att : Option Bytes

abbrev pub no_names : KnownNames
no_names = record { element = None; att = None }

abbrev pub bytes_in : Content → Option Bytes
bytes_in (content.Bytes bytes) = Some bytes
bytes_in c = None

-- the names, with this one as the owner's; the header itself has none
abbrev pub renamed : Owner → Option Bytes → KnownNames → KnownNames
renamed owner.Header bytes names = names
renamed (owner.Dim i) bytes names = record names { element = bytes }
renamed (owner.GlobalAtt i) bytes names = record names { element = bytes }
renamed (owner.Var i) bytes names = record names { element = bytes }
renamed (owner.VarAtt i k) bytes names = record names { att = bytes }

-- once a field of this kind was read: a name begins at its length, and is known after its bytes
abbrev pub names_with : FieldKind → Owner → Content → KnownNames → KnownNames
names_with field.NameLength owner c names = renamed owner None names
names_with field.Name owner c names = renamed owner (bytes_in c) names
names_with field owner c names = names

-- the names that are known after one more field
unfoldable pub with_field : KnownNames → Entry → KnownNames
with_field names entry = names_with entry.place.field entry.place.owner entry.content names

-- the names that are known after these fields, the first ones of a header
abbrev pub names_after : List Entry → KnownNames
names_after entries = fold with_field no_names entries

-- ---- paths

-- a name after a space
unfoldable pub quoted : Option Bytes → Bytes
quoted None = []
quoted (Some name) = concat_parts (codes " " ∷ shown_name name ∷ [])

-- an element of a list: `dim[`, for one, and the number and the name of a dimension
unfoldable pub element : Bytes → ℕ → Option Bytes → Bytes
element word i name = concat_parts (word ∷ decimal i ∷ codes "]" ∷ quoted name ∷ [])

-- a field, without what it belongs to
unfoldable pub field_words : FieldKind → Bytes
field_words field.Magic = codes "magic"
field_words field.Version = codes "version"
field_words field.NumRecs = codes "numrecs"
field_words field.DimsTag = codes "dims tag"
field_words field.DimsCount = codes "dims count"
field_words field.GlobalAttsTag = codes "gatts tag"
field_words field.GlobalAttsCount = codes "gatts count"
field_words field.VarsTag = codes "vars tag"
field_words field.VarsCount = codes "vars count"
field_words field.NameLength = codes "name length"
field_words field.Name = codes "name"
field_words field.NamePadding = codes "name padding"
field_words field.Length = codes "length"
field_words field.Type = codes "type"
field_words field.Count = codes "count"
field_words field.Values = codes "values"
field_words field.Padding = codes "padding"
field_words field.Rank = codes "rank"
field_words (field.DimId k) = element (codes "dimid[") k None
field_words field.AttsTag = codes "atts tag"
field_words field.AttsCount = codes "atts count"
field_words field.Vsize = codes "vsize"
field_words field.Begin = codes "begin"

-- with a space after it
unfoldable pub element_part : Bytes → ℕ → Option Bytes → Bytes
element_part word i name = concat_parts (element word i name ∷ codes " " ∷ [])

-- what a field belongs to
unfoldable pub owner_path : KnownNames → Owner → Bytes
owner_path names owner.Header = []
owner_path names (owner.Dim i) = element_part (codes "dim[") i names.element
owner_path names (owner.GlobalAtt i) = element_part (codes "gatt[") i names.element
owner_path names (owner.Var i) = element_part (codes "var[") i names.element
owner_path names (owner.VarAtt i k) =
    concat_parts (element_part (codes "var[") i names.element ∷ element_part (codes "att[") k names.att ∷ [])

unfoldable pub field_path : KnownNames → Place → Bytes
field_path names place = concat_parts (owner_path names place.owner ∷ field_words place.field ∷ [])

-- the name of a variable, if the header is whole
abbrev pub var_name : Result Header FormatFault → ℕ → Option Bytes
var_name (Ok header) i = option_map (λ (var : Var). var.name) (slice_get header.vars i)
var_name (Err fault) i = None

unfoldable pub var_path : Result Header FormatFault → ℕ → Bytes
var_path header i = element (codes "var[") i (var_name header i)

unfoldable pub block_path : Result Header FormatFault → Block → Bytes
block_path header (block.Var i) = var_path header i
block_path header block.Records = codes "the records"

unfoldable pub slab_path : Result Header FormatFault → Slab → Bytes
slab_path header (slab.Var i) = var_path header i
slab_path header (slab.Record i n) = concat_parts (var_path header i ∷ codes " record " ∷ decimal n ∷ [])
