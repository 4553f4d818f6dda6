-- For contracts. One step of a pass from the last field to the first, and what the pass finds.
use Rattle.std.specs.Prelude.{◌≡◌, List, [], ◌∷◌, ◌++◌, if◌then◌else◌, IsPermutation, Option}
use Rattle.std.specs.Option.{option_to_list}
use Rattle.nc_rules.specs.declared.{ahead.Ahead.Ahead}
use Rattle.nc_findings.specs.declared.{finding.Finding.Finding}
use Rattle.nc_rules.specs.Indexed.{Indexed}
use Rattle.nc_rules.specs.Ahead.{is_count, is_type, is_values, is_var_type, var_type_at, number_at, values_at}

-- what lies ahead of the field before this one
abbrev pub ahead_with : Indexed → Ahead → Ahead
ahead_with f ahead = record {
  next = number_at f;
  type_code = if is_type f then number_at f else ahead.type_code;
  count = if is_count f then number_at f else ahead.count;
  values = if is_values f then values_at f else ahead.values;
  var_type = if is_var_type f then var_type_at f else ahead.var_type;
}

-- what a rule finds at each field, by the fields after it, from the last field to the first
abbrev pub each_backward : (Indexed → List Indexed → Option Finding) → List Indexed → List Finding
each_backward rule [] = []
each_backward rule (f ∷ after) = each_backward rule after ++ option_to_list (rule f after)

-- these findings have been appended, in some order
abbrev pub Appended : List Finding → List Finding → List Finding → Type 0
Appended findings old new = (found : List Finding) × (new ≡ old ++ found) × IsPermutation findings found
