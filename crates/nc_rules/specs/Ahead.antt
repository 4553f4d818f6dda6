-- Definition. What lies ahead of a field: the next fields that the rules on lists and attributes look at. (In a header the field after the
-- tag of a list is the number of its elements. After the name of an attribute come its type, the number of its values and the values, and
-- after the attributes of a variable comes the type of the variable. So the next field of a kind is the one that belongs there.)
use Rattle.std.specs.Prelude.{Bool, true, false, ◌&&◌, List, find, Option, Some, None}
use Rattle.std.specs.Option.{option_and_then}
use Rattle.nc_base.specs.declared.fault.FormatFault.TheVariants.{BadType}
use Rattle.nc_findings.specs.declared.entry.Content.TheVariants as content
use Rattle.nc_findings.specs.declared.place.FieldKind.TheVariants as field
use Rattle.nc_findings.specs.declared.place.Owner.TheVariants as owner
use Rattle.nc_rules.specs.declared.{ahead.NumberField.NumberField, ahead.ValuesAt.ValuesAt, ahead.Ahead.Ahead}
use Rattle.nc_rules.specs.Indexed.{Indexed}

-- ---- kinds of fields

-- any field
abbrev pub is_field : Indexed → Bool
is_field f = true

-- the type of an attribute or a variable
abbrev pub is_type : Indexed → Bool
is_type f = elim f.entry.place.field [ field.Type ↦ true | _ ↦ false ]

-- the type of a variable
abbrev pub is_var_type : Indexed → Bool
is_var_type f = is_type f && elim f.entry.place.owner [ owner.Var i ↦ true | _ ↦ false ]

-- the number of an attribute's values
abbrev pub is_count : Indexed → Bool
is_count f = elim f.entry.place.field [ field.Count ↦ true | _ ↦ false ]

-- the values of an attribute
abbrev pub is_values : Indexed → Bool
is_values f = elim f.entry.place.field [ field.Values ↦ true | _ ↦ false ]

-- ---- what lies ahead

-- the field, if it is a number
abbrev pub number_at : Indexed → Option NumberField
number_at f = elim f.entry.content [
  | content.Number n ↦ Some (record { index = f.index; offset = f.entry.offset; number = n })
  | _ ↦ None
]

-- the field, the type of a variable, if the version has it
abbrev pub var_type_at : Indexed → Option NumberField
var_type_at f = elim f.entry.fault [ Some BadType ↦ None | _ ↦ number_at f ]

-- the field, if it is values
abbrev pub values_at : Indexed → Option ValuesAt
values_at f = elim f.entry.content [
  | content.Values ends_with_nul ↦ Some (record { index = f.index; offset = f.entry.offset; ends_with_nul = ends_with_nul })
  | _ ↦ None
]

-- the next field of a kind, if it is a number
abbrev pub next_number : (Indexed → Bool) → List Indexed → Option NumberField
next_number is_kind after = option_and_then number_at (find is_kind after)

-- what lies ahead of a field that these follow
abbrev pub ahead_of : List Indexed → Ahead
ahead_of after = record {
  next = next_number is_field after;
  type_code = next_number is_type after;
  count = next_number is_count after;
  values = option_and_then values_at (find is_values after);
  var_type = option_and_then var_type_at (find is_var_type after);
}
