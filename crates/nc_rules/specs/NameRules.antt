-- Definition. Names that two elements of a list have: two dimensions, two variables, two global attributes, or two attributes of one
-- variable. (By the NetCDF Classic Format Specification the names of a list differ.)
use Rattle.std.specs.Prelude.{ℕ, ◌==◌, ◌&&◌, Bool, true, false, List, [], find, Option, Some, None}
use Rattle.std.specs.Option.{option_and_then, option_map, option_map_or}
use Rattle.std.specs.Str.{bytes_eq}
use Rattle.nc_types.specs.Bytes.{Bytes}
use Rattle.nc_base.specs.declared.fault.FormatFault.{FormatFault}
use Rattle.nc_findings.specs.declared.{entry.Content.Content, entry.Entry.Entry, place.FieldKind.FieldKind, place.Owner.Owner, finding.Finding.Finding}
use Rattle.nc_findings.specs.declared.entry.Content.TheVariants as content
use Rattle.nc_findings.specs.declared.place.FieldKind.TheVariants as field
use Rattle.nc_findings.specs.declared.place.Owner.TheVariants as owner
use Rattle.nc_rules.specs.declared.{names.NameScope.NameScope}
use Rattle.nc_rules.specs.declared.names.NameScope.TheVariants.{Dims, GlobalAtts, Vars, VarAtts}
use Rattle.nc_findings.specs.declared.finding.Fact.TheVariants.{DuplicateName}
use Rattle.nc_rules.specs.Indexed.{Indexed, finding, each_after}

abbrev pub is_same_list : NameScope → NameScope → Bool
is_same_list Dims Dims = true
is_same_list GlobalAtts GlobalAtts = true
is_same_list Vars Vars = true
is_same_list (VarAtts i) (VarAtts k) = i == k
is_same_list list other = false

-- the list that this is an element of
abbrev pub list_of : Owner → Option NameScope
list_of owner.Header = None
list_of (owner.Dim i) = Some Dims
list_of (owner.GlobalAtt i) = Some GlobalAtts
list_of (owner.Var i) = Some Vars
list_of (owner.VarAtt var att) = Some (VarAtts var)

-- a name, and the list that it is in
abbrev pub NameKey : Type 0
NameKey = NameScope × Bytes

abbrev pub is_same_key : NameKey → NameKey → Bool
is_same_key a b = is_same_list a.0 b.0 && bytes_eq a.1 b.1

abbrev pub key_in : FieldKind → Option FormatFault → Content → Owner → Option NameKey
key_in field.Name None (content.Bytes bytes) o = option_map (λ list. (list, bytes)) (list_of o)
key_in field fault c o = None

-- the name that a field without a fault is, if it is one
abbrev pub key_of : Entry → Option NameKey
key_of entry = key_in entry.place.field entry.fault entry.content entry.place.owner

-- the field is this name
abbrev pub has_key : NameKey → Indexed → Bool
has_key key f = option_map_or (λ (k : NameKey). is_same_key k key) (key_of f.entry) false

-- the first of these fields that is this name
abbrev pub first_index : NameKey → List Indexed → Option ℕ
first_index key fields = option_map (λ (f : Indexed). f.index) (find (has_key key) fields)

-- this index
abbrev pub is_index : ℕ → Option ℕ → Bool
is_index i o = option_map_or (λ (k : ℕ). k == i) o false

-- the field is a name, and of these fields the first that is this name of its list
abbrev pub is_first : List Indexed → Indexed → Bool
is_first fields f = option_map_or (λ key. is_index f.index (first_index key fields)) (key_of f.entry) false

-- the finding that the name of a field is that of an earlier one
abbrev pub duplicate_name : List Indexed → Indexed → Option Finding
duplicate_name earlier f =
    option_and_then (λ key. option_map (λ first. finding f (DuplicateName first)) (first_index key earlier)) (key_of f.entry)

unfoldable pub name_findings : List Indexed → List Finding
name_findings fields = each_after duplicate_name [] fields
