-- Definition. The dump of a file: its text, and how it ends.
use Rattle.std.specs.Prelude.{ℕ, ◌≡◌, ◌+◌, ℤ, Bool, true, ◌==◌, ◌&&◌, ◌||◌, not, nat_lt, if◌then◌else◌, List, [], ◌∷◌, ◌++◌, length, map, take, codes, Option, Some, None}
use Rattle.std.specs.List.{list_any, position}
use Rattle.std.specs.Str.{bytes_eq}
use Rattle.nc_base.specs.declared.{fault.FormatFault.FormatFault, header.Dim.Dim, header.Header.Header, header.Var.Var}
use Rattle.nc_types.specs.Bytes.{Bytes, concat_parts}
use Rattle.nc_base.specs.Sizes.{value_count, record_count}
use Rattle.nc_base.specs.Grammar.{SpellsHeader, StopsAt}
use Rattle.nc_base.specs.HeadText.{head_text}
use Rattle.nc_base.specs.Places.{stored_values, first_missing}
use Rattle.nc_base.specs.ValueText.{Look, look_of, variable_prefix, variable_text}

-- what to show of a dataset, and under which name
pub record Options : Type 0 where
  -- the name of the dataset
  pub name : Bytes
  -- `-h`: the header alone
  pub head_only : Bool
  -- `-c`: the values of coordinate variables alone: those named as a dimension, of any rank
  pub coords : Bool
  -- `-v`: the names of the variables whose values are shown, if any are chosen
  pub chosen : Option (List Bytes)
  -- `-l`: the width of the lines of values
  pub width : ℕ

-- how a dump ends: with the whole text, or with a fault
pub data Ending : Type 0 where
  whole : Ending
  wrong_field : (fault : FormatFault) → Ending
  -- the place of the name in `-v`
  no_such_variable : (index : ℕ) → Ending
  -- the place of the variable in the header, and that of its first missing value
  data_truncated : (variable value : ℕ) → Ending

abbrev pub has_name : List Bytes → Bytes → Bool
has_name names name = list_any (λ (other : Bytes). bytes_eq other name) names

abbrev pub has_dimension : List Dim → Bytes → Bool
has_dimension dims name = list_any (λ (dim : Dim). bytes_eq dim.name name) dims

abbrev pub has_variable : List Var → Bytes → Bool
has_variable vars name = list_any (λ (var : Var). bytes_eq var.name name) vars

-- the place, from 0, of the first chosen name that no variable has
abbrev pub first_unknown : List Var → Option (List Bytes) → Option ℕ
first_unknown vars None = None
first_unknown vars (Some names) = position (λ (name : Bytes). not (has_variable vars name)) names

abbrev pub is_chosen : Option (List Bytes) → Bytes → Bool
is_chosen None name = true
is_chosen (Some names) name = has_name names name

abbrev pub is_selected : Header → Options → Var → Bool
is_selected h o var = is_chosen o.chosen var.name && (not o.coords || has_dimension h.dims var.name)

abbrev pub selection_of : Header → Options → List Bool
selection_of h o = map (is_selected h o) h.vars

abbrev pub has_values : List Dim → ℕ → Var → Bool
has_values dims n var = nat_lt 0 (value_count dims var n)

-- ---- the data section (here v is a variable's place in the header, from 0, and n is the number of records)

-- a text, and how it ends
pub record DataText : Type 0 where
  pub text : Bytes
  pub ending : Ending

abbrev pub no_data_text : DataText
no_data_text = record { text = []; ending = whole }

-- the values of a variable, and the place of the first missing one, if any; from there on the values mean nothing
pub record VariableValues : Type 0 where
  pub values : List ℤ
  pub missing : Option ℕ

-- what a file with these bytes has of a variable over n records (its place doesn't matter; in a dataset it is that of its array)
abbrev pub values_in_file : Header → Bytes → ℕ → ℕ → Var → VariableValues
values_in_file h bytes n _ var = record { values = stored_values h bytes var n; missing = first_missing h bytes var n }

-- the text of the variable in place v, and then the others; if value k is missing, the text ends before it, and nothing comes after
abbrev pub with_variable : Look → List ℤ → Option ℕ → ℕ → DataText → DataText
with_variable look values None v others = record { text = variable_text look values ++ others.text; ending = others.ending }
with_variable look values (Some k) v others = record { text = variable_prefix look (take k values); ending = data_truncated v k }

-- what is shown: `values_of v var` gives the values of the variable var, whose place is v
pub record ShownData : Type 0 where
  pub header : Header
  pub values_of : ℕ → Var → VariableValues
  pub records : ℕ
  pub width : ℕ

abbrev pub shown_data : Header → (ℕ → Var → VariableValues) → ℕ → ℕ → ShownData
shown_data h values_of n width = record { header = h; values_of = values_of; records = n; width = width }

-- the marked ones of these variables, the first in place v; one without values has no text
abbrev pub variables_text : ShownData → ℕ → List Var → List Bool → DataText
variables_text d v (var ∷ vars) (mark ∷ marks) =
    let found = d.values_of v var in
    let others = variables_text d (v + 1) vars marks in
    if mark && has_values d.header.dims d.records var
    then with_variable (look_of d.header var d.records d.width) found.values found.missing v others
    else others
variables_text d v _ _ = no_data_text

-- those that the selection marks of all variables, or none if the header alone is shown
abbrev pub shown_data_text : Header → Options → (ℕ → Var → VariableValues) → ℕ → List Bool → DataText
shown_data_text h o values_of n selection =
    variables_text (shown_data h values_of n o.width) 0 h.vars (if o.head_only then [] else selection)

-- before the values: nothing if the header alone is shown, or has no variables
unfoldable pub data_word : Header → Options → Bytes
data_word h o = if o.head_only || (length h.vars == 0) then [] else codes "data:\n"

-- after them: nothing if a value is missing
unfoldable pub closing_word : Ending → Bytes
closing_word whole = codes "}\n"
closing_word other = []

-- ---- the dump

abbrev pub dump_text : Header → Options → ℕ → DataText → Bytes
dump_text h o n section = concat_parts (head_text o.name h n ∷ data_word h o ∷ section.text ∷ closing_word section.ending ∷ [])

-- The dump of a file with these bytes. If the header is wrong, or a chosen name is unknown, the text is empty.
pub data IsDump (bytes : Bytes) (o : Options) : Bytes → Ending → Type 0 where
  stopped : (fault : FormatFault) (end : ℕ) → StopsAt bytes fault end → IsDump bytes o [] (wrong_field fault)
  unknown : (h : Header) (rest : Bytes) (index : ℕ)
      → SpellsHeader bytes h rest → first_unknown h.vars o.chosen ≡ Some index → IsDump bytes o [] (no_such_variable index)
  shown : (h : Header) (rest : Bytes) (n : ℕ) (section : DataText)
      → SpellsHeader bytes h rest → first_unknown h.vars o.chosen ≡ None
      → n ≡ record_count h (length bytes) → section ≡ shown_data_text h o (values_in_file h bytes n) n (selection_of h o)
      → IsDump bytes o (dump_text h o n section) section.ending
