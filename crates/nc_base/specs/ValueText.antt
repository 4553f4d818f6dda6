-- Definition. The text of a variable's values, as the data section of a dump shows them.
use Rattle.std.specs.Prelude.{ℕ, ◌+◌, ◌-◌, ◌%◌, ◌==◌, ◌&&◌, ℤ, pos, unsigned_abs, Bool, true, false, not, nat_lt, if◌then◌else◌, List, [], ◌∷◌, ◌++◌, length, map, filter, take, drop, slice_index, is_some, codes}
use Rattle.std.specs.Str.{byte}
use Rattle.std.specs.Fmt.{signed_decimal}
use Rattle.std.specs.List.{flat_map, range_with_len, suffix_len}
use Rattle.std.specs.Ordering.{int_eq}
use Rattle.nc_base.specs.declared.{header.Dim.Dim, header.Header.Header, header.Var.Var}
use Rattle.nc_types.specs.declared.{nc_type.NcType.NcType, nc_type.NcType.TheVariants.Char}
use Rattle.nc_types.specs.Bytes.{Bytes, concat_parts}
use Rattle.nc_types.specs.Escapes.{escaped_name, escaped_text}
use Rattle.nc_base.specs.Fill.{fill_value, own_fill, prints_fill}
use Rattle.nc_base.specs.HeadText.{without_trailing_nuls}
use Rattle.nc_base.specs.Sizes.{value_count, dim_len, is_record_var}

-- ---- what the text depends on

-- what the text of a variable depends on, but for its values
pub record Look : Type 0 where
  pub name : Bytes
  pub ty : NcType
  -- the rank is 2 or more
  pub in_rows : Bool
  -- how many values a row has
  pub row : ℕ
  -- how many values the variable has (for contracts)
  pub total : ℕ
  pub fill : ℤ
  -- the fill value prints as `_`
  pub prints_fill : Bool
  -- NULs at the end of a row of characters aren't printed
  pub trimmed : Bool
  -- lines of numbers are broken at this width
  pub width : ℕ

abbrev pub is_char : NcType → Bool
is_char Char = true
is_char ty = false

-- how many values a row has: all (`total`) at rank 0 and 1, otherwise as many as the last dimension is long
abbrev pub row_len : List Dim → List ℕ → ℕ → ℕ
row_len dims dimids total =
    if nat_lt (length dimids) 2 then total else dim_len dims (slice_index dimids (length dimids - 1))

-- the fill value is NUL, and the variable isn't a record variable of rank 1 (whose NULs say how many records there are)
abbrev pub is_trimmed : List Dim → Var → Bool
is_trimmed dims var = int_eq (fill_value var) (pos 0) && not (is_record_var dims var && (length var.dimids == 1))

unfoldable pub look_of : Header → Var → ℕ → ℕ → Look
look_of h var records width = record {
  name = var.name;
  ty = var.ty;
  in_rows = not (nat_lt (length var.dimids) 2);
  row = row_len h.dims var.dimids (value_count h.dims var records);
  total = value_count h.dims var records;
  fill = fill_value var;
  prints_fill = prints_fill var.ty (is_some (own_fill var));
  trimmed = is_trimmed h.dims var;
  width = width;
}

-- value i, from 0, is its row's first (a row has no values only if the variable has none)
abbrev pub begins_row : Look → ℕ → Bool
begins_row look i = i % look.row == 0

-- ---- numbers

-- how long the last line of this text is
abbrev pub column : Bytes → ℕ
column before = suffix_len (λ b. not (b == byte "\n")) before

abbrev pub number_text : Look → ℤ → Bytes
number_text look value = if look.prints_fill && int_eq value look.fill then codes "_" else signed_decimal value

-- what comes before value i, apart from a line break
abbrev pub number_lead : Look → ℕ → Bytes
number_lead look i =
    if begins_row look i then (if look.in_rows then (if i == 0 then codes "\n  " else codes ",\n  ") else codes " ")
    else codes ", "

-- the break before value i, which without it would end in this column: there is one if two bytes more, for what comes after the value,
-- would pass the width, but never before a row's first number
abbrev pub line_break : Look → ℕ → ℕ → Bytes
line_break look i end = if not (begins_row look i) && nat_lt look.width (end + 2) then codes "\n    " else []

-- value i, after the text so far, with what comes before it
unfoldable pub number_piece : Look → Bytes → ℕ → ℤ → Bytes
number_piece look before i value =
    let lead = number_lead look i in
    let text = number_text look value in
    (lead ++ line_break look i (column (before ++ lead) + length text)) ++ text

-- these numbers, beginning with value i, after this text
unfoldable pub number_pieces : Look → Bytes → ℕ → List ℤ → Bytes
number_pieces look before i [] = []
number_pieces look before i (value ∷ others) =
    let next = number_piece look before i value in
    next ++ number_pieces look (before ++ next) (i + 1) others

-- ---- characters

-- what comes before a row that begins with value i
abbrev pub char_lead : Look → ℕ → Bytes
char_lead look i = if look.in_rows then (if i == 0 then codes "\n  \"" else codes "\",\n  \"") else codes " \""

-- the bytes of a row that are printed (no character's value is negative)
abbrev pub printed_bytes : Look → List ℤ → Bytes
printed_bytes look row =
    let bytes = map unsigned_abs row in
    if look.trimmed then without_trailing_nuls bytes else bytes

-- the row that begins with value i, as far as these values go, with what comes before it
abbrev pub row_text : Look → List ℤ → ℕ → Bytes
row_text look values i = char_lead look i ++ escaped_text (printed_bytes look (take look.row (drop i values)))

-- the rows, one after the other: one for each value that begins a row
unfoldable pub characters_text : Look → List ℤ → Bytes
characters_text look values = flat_map (row_text look values) (filter (begins_row look) (range_with_len 0 (length values)))

-- ---- values

unfoldable pub variable_opening : Look → Bytes
variable_opening look = concat_parts (codes "\n " ∷ escaped_name look.name ∷ codes " =" ∷ [])

unfoldable pub variable_closing : Look → Bytes
variable_closing look = if is_char look.ty then codes "\" ;\n" else codes " ;\n"

-- the opening and these values: all of the variable, or those before a missing one
unfoldable pub variable_prefix : Look → List ℤ → Bytes
variable_prefix look values =
    let opening = variable_opening look in
    opening ++ (if is_char look.ty then characters_text look values else number_pieces look opening 0 values)

unfoldable pub variable_text : Look → List ℤ → Bytes
variable_text look values = variable_prefix look values ++ variable_closing look
