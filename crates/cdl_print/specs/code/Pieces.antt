-- For contracts. What the parts of a dump are put together from.
use Rattle.std.specs.Prelude.{ℕ, suc, ◌==◌, ◌||◌, Bool, if◌then◌else◌, List, [], ◌∷◌, map, codes}
use Rattle.std.specs.Char.{is_ascii_control}
use Rattle.std.specs.Fmt.{signed_decimal}
use Rattle.std.specs.Str.{byte}
use Rattle.nc_types.specs.Bytes.{concat_parts}
use Rattle.nc_types.specs.Escapes.{begins_with_digit_or_mark, is_reserved, escaped_name, escaped_text}
use Rattle.nc_base.specs.HeadText.{att_lines, dim_lines, dim_name, dimensions_word, global_word, joined, string_break, var_lines, variables_word}
use Rattle.nc_types.specs.Types.{number_suffix, type_word}
use Rattle.nc_base.specs.declared.{header.Att.Att, header.Dim.Dim, header.Var.Var}
use Rattle.nc_types.specs.declared.{nc_type.NcType.NcType}
use Rattle.nc_base.specs.Numbers.{number_of}

-- the backslash before a name that begins with a digit or one of `. @ + -`, or is a reserved word
unfoldable pub prefix_escape : List ℕ → List ℕ
prefix_escape name = if begins_with_digit_or_mark name || is_reserved name then 92 ∷ [] else []

-- a byte that a string has with an escape
abbrev pub needs_escape : ℕ → Bool
needs_escape b = is_ascii_control b || (b == byte "\"") || (b == byte "'") || (b == byte "\\")

-- how many bytes there are up to the first line feed and with it; all, if there is none
abbrev pub line_len : List ℕ → ℕ
line_len [] = 0
line_len (b ∷ bytes) = if b == 10 then 1 else suc (line_len bytes)

-- a line of a string, with the break after each but the last
unfoldable pub line_text : List ℕ → Bool → List ℕ
line_text line is_last = concat_parts (escaped_text line ∷ (if is_last then [] else string_break) ∷ [])

-- a number of an attribute, with what stands between it and the next
unfoldable pub number_text : NcType → List ℕ → Bool → List ℕ
number_text ty value is_last =
    concat_parts (signed_decimal (number_of ty value) ∷ number_suffix ty ∷ (if is_last then [] else codes ", ") ∷ [])

-- a dimension of a shape, with what stands between it and the next
unfoldable pub dim_text : List Dim → ℕ → Bool → List ℕ
dim_text dims id is_last = concat_parts (dim_name dims id ∷ (if is_last then [] else codes ", ") ∷ [])

-- the lines of the variables
unfoldable pub var_rows : List Dim → List Var → List ℕ
var_rows dims vars = concat_parts (map (var_lines dims) vars)

-- the dimensions under their title
abbrev pub dims_part : ℕ → List Dim → List ℕ
dims_part records dims = concat_parts (dimensions_word ∷ dim_lines records dims ∷ [])

-- the variables under their title
abbrev pub vars_part : List Dim → List Var → List ℕ
vars_part dims vars = concat_parts (variables_word ∷ var_rows dims vars ∷ [])

-- the global attributes under their title
abbrev pub gatts_part : List Att → List ℕ
gatts_part gatts = concat_parts (global_word ∷ att_lines [] gatts ∷ [])

-- the names of an attribute and of the variable that has it
abbrev pub att_prefix : List ℕ → List ℕ → List ℕ
att_prefix owner name = concat_parts (codes "\t\t" ∷ escaped_name owner ∷ codes ":" ∷ escaped_name name ∷ [])

-- the type and the name of a variable
abbrev pub type_and_name : NcType → List ℕ → List ℕ
type_and_name ty name = concat_parts (codes "\t" ∷ type_word ty ∷ codes " " ∷ escaped_name name ∷ [])

-- the names of the dimensions of a shape, in parentheses
abbrev pub dim_list : List Dim → List ℕ → List ℕ
dim_list dims ids = concat_parts (codes "(" ∷ joined (map (dim_name dims) ids) ∷ codes ")" ∷ [])

-- what stands before the values of the variable with this name
abbrev pub opening_of : List ℕ → List ℕ
opening_of name = concat_parts (codes "\n " ∷ escaped_name name ∷ codes " =" ∷ [])
