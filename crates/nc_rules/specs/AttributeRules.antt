-- Definition. Findings about an empty list and about an attribute: at one of its fields, by what lies ahead.
use Rattle.std.specs.Prelude.{not, ◌==◌, ◌&&◌, Bool, true, false, if◌then◌else◌, List, Option, Some, None, codes}
use Rattle.std.specs.Bool.{then_some}
use Rattle.std.specs.Option.{option_and_then}
use Rattle.std.specs.Str.{bytes_eq}
use Rattle.nc_findings.specs.declared.{entry.Content.Content, place.FieldKind.FieldKind, place.Owner.Owner, finding.Finding.Finding}
use Rattle.nc_findings.specs.declared.entry.Content.TheVariants as content
use Rattle.nc_findings.specs.declared.place.FieldKind.TheVariants as field
use Rattle.nc_findings.specs.declared.place.Owner.TheVariants as owner
use Rattle.nc_rules.specs.declared.{ahead.NumberField.NumberField, ahead.ValuesAt.ValuesAt, ahead.Ahead.Ahead}
use Rattle.nc_findings.specs.declared.finding.Fact.TheVariants.{EmptyList, EmptyAttribute, TrailingNul, FillType, FillCount}
use Rattle.nc_rules.specs.Indexed.{Indexed, finding_at, finding, each_before}
use Rattle.nc_rules.specs.Ahead.{ahead_of}
use Rattle.nc_rules.specs.NameRules.{is_first}

-- ---- lists

-- A list has a tag other than 0, and no elements. (The NetCDF Classic Format Specification writes such a list as `ABSENT`, with the tag 0.)
abbrev pub empty_list : Indexed → Content → Option NumberField → Option Finding
empty_list f (content.Number tag) (Some next) = then_some (not (tag == 0) && (next.number == 0)) (finding f EmptyList)
empty_list f c next = None

-- ---- values of attributes

-- no values, which no CDL text gives an attribute of another type than char
abbrev pub empty_attribute : NumberField → Option Finding
empty_attribute count = then_some (count.number == 0) (finding_at count.index count.offset EmptyAttribute)

-- a NUL at the end, which CDL texts leave out
abbrev pub trailing_nul : ValuesAt → Option Finding
trailing_nul values = then_some values.ends_with_nul (finding_at values.index values.offset TrailingNul)

-- at a type code of an attribute; 2 is that of char
abbrev pub type_finding : Content → Ahead → Option Finding
type_finding (content.Number code) ahead =
    if code == 2 then option_and_then trailing_nul ahead.values else option_and_then empty_attribute ahead.count
type_finding c ahead = None

-- ---- fill values

-- not one value
abbrev pub fill_count : NumberField → Option Finding
fill_count count = then_some (not (count.number == 1)) (finding_at count.index count.offset FillCount)

-- Not the type of the variable, or not one value. (By the NetCDF Classic Format Specification a `_FillValue` should be one value of the
-- type of its variable.)
abbrev pub fill_finding : Option NumberField → Option NumberField → Option NumberField → Option Finding
fill_finding (Some type_code) (Some var_type) count =
    if type_code.number == var_type.number
    then option_and_then fill_count count
    else Some (finding_at type_code.index type_code.offset (FillType var_type.number))
fill_finding type_code var_type count = None

abbrev pub is_fill_name : Content → Bool
is_fill_name (content.Bytes bytes) = bytes_eq bytes (codes "_FillValue")
is_fill_name c = false

-- at a name of an attribute of a variable (`is_first`: no field before it is the same name, so that of two fill values the first counts)
abbrev pub name_finding : Bool → Content → Ahead → Option Finding
name_finding is_first c ahead =
    if is_fill_name c && is_first then fill_finding ahead.type_code ahead.var_type ahead.count else None

-- ---- all fields

abbrev pub is_attribute : Owner → Bool
is_attribute (owner.GlobalAtt i) = true
is_attribute (owner.VarAtt i k) = true
is_attribute o = false

abbrev pub is_var_attribute : Owner → Bool
is_var_attribute (owner.VarAtt i k) = true
is_var_attribute o = false

-- the finding at a field of this kind, if there is one
abbrev pub finding_by_kind : Bool → FieldKind → Indexed → Ahead → Option Finding
finding_by_kind is_first field.DimsTag f ahead = empty_list f f.entry.content ahead.next
finding_by_kind is_first field.GlobalAttsTag f ahead = empty_list f f.entry.content ahead.next
finding_by_kind is_first field.VarsTag f ahead = empty_list f f.entry.content ahead.next
finding_by_kind is_first field.AttsTag f ahead = empty_list f f.entry.content ahead.next
finding_by_kind is_first field.Type f ahead = if is_attribute f.entry.place.owner then type_finding f.entry.content ahead else None
finding_by_kind is_first field.Name f ahead =
    if is_var_attribute f.entry.place.owner then name_finding is_first f.entry.content ahead else None
finding_by_kind is_first place f ahead = None

-- the finding at one of these fields, which others of them follow
abbrev pub attribute_finding : List Indexed → Indexed → List Indexed → Option Finding
attribute_finding fields f after = finding_by_kind (is_first fields f) f.entry.place.field f (ahead_of after)

-- all findings about lists and attributes
unfoldable pub attribute_findings : List Indexed → List Finding
attribute_findings fields = each_before (attribute_finding fields) fields
