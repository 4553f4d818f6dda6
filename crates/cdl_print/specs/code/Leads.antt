-- For contracts. What stands before the next value, by how far the values before it are printed.
use Rattle.std.specs.Prelude.{ℕ, ◌≡◌, ◌+◌, ◌-◌, ◌*◌, ◌==◌, ℤ, nat_lt, if◌then◌else◌, IfSome, List, [], ◌++◌, length, codes, slice_get}
use Rattle.nc_base.specs.Sizes.{value_count}
use Rattle.nc_base.specs.Numbers.{numbers}
use Rattle.nc_types.specs.Types.{size_of}
use Rattle.nc_base.specs.ValueText.{Look, char_lead, column, look_of}
use Rattle.nc_base.specs.declared.{header.Header.Header, header.Var.Var}
use Rattle.cdl_print.specs.declared.{lead.Lead.Lead, layout.TextLayout.TextLayout, progress.Progress.Progress}
use Rattle.cdl_print.specs.declared.lead.Lead.TheVariants.{Space, FirstRow, NextRow, Comma, NewLine}

-- ---- the layout

-- the layout as the definitions of the text see it
abbrev pub look_at : TextLayout → Look
look_at layout = record {
  name = layout.name.now;
  ty = layout.ty;
  in_rows = layout.in_rows;
  row = layout.row;
  total = layout.total;
  fill = layout.fill;
  prints_fill = layout.prints_fill;
  trimmed = layout.trimmed;
  width = layout.width;
}

-- the values by a layout, read from these bytes
abbrev pub values : TextLayout → List ℕ → List ℤ
values layout bytes = numbers layout.ty bytes

-- the bytes are whole values of a layout
abbrev pub AreWhole : TextLayout → List ℕ → Type 0
AreWhole layout bytes = length bytes ≡ length (values layout bytes) * size_of layout.ty

-- the layout is that of the variable, over any number of records that gives as many values
abbrev pub IsLayoutOf : Header → Var → ℕ → TextLayout → Type 0
IsLayoutOf header var width layout = (records : ℕ) → layout.total ≡ value_count header.dims var records → look_at layout ≡ look_of header var records width

-- this holds of the look that the variable at index v has over these records, in lines of this width, if there is such a variable
abbrev pub IfVariable : Header → ℕ → ℕ → ℕ → (Look → Type 0) → Type 0
IfVariable header v records width Holds = IfSome (slice_get header.vars v) (λ (var : Var). Holds (look_of header var records width))

-- ---- leads

abbrev pub lead_bytes : Lead → List ℕ
lead_bytes Space = codes " "
lead_bytes FirstRow = codes "\n  "
lead_bytes NextRow = codes ",\n  "
lead_bytes Comma = codes ", "
lead_bytes NewLine = codes ", \n    "

-- how many bytes more a line of the width may have after the lead, if it had these columns left before
abbrev pub columns_left_after : Lead → ℕ → ℕ → ℕ
columns_left_after Space columns_left width = columns_left - 1
columns_left_after FirstRow columns_left width = width - 2
columns_left_after NextRow columns_left width = width - 2
columns_left_after Comma columns_left width = columns_left - 2
columns_left_after NewLine columns_left width = width - 4

-- a line of the width that had these columns left has those left after the text, whatever stands before it
abbrev pub LeavesColumns : ℕ → ℕ → List ℕ → ℕ → Type 0
LeavesColumns width columns_left text left_after =
    (before : List ℕ) → columns_left ≡ width - column before → left_after ≡ width - column (before ++ text)

-- before a number that is its row's first; `position` is how many values the variable has before it
abbrev pub row_lead : Look → ℕ → Lead
row_lead look position = if look.in_rows then (if position == 0 then FirstRow else NextRow) else Space

-- before a number of this length that isn't its row's first, if the line has these columns left: a new line begins if `, `,
-- the number and two bytes after it would pass the width
abbrev pub lead_in_row : ℕ → ℕ → Lead
lead_in_row columns_left len = if nat_lt columns_left (len + 4) then NewLine else Comma

-- before the next number, which has this length
abbrev pub next_number_lead : Look → Progress → ℕ → Lead
next_number_lead look p len = if p.row_index == 0 then row_lead look p.position else lead_in_row p.columns_left len

-- before the next character
abbrev pub next_char_lead : Look → Progress → List ℕ
next_char_lead look p = if p.row_index == 0 then char_lead look p.position else []
