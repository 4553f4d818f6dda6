-- Definition. The text of a header in CDL, up to `data:`. Each line ends with a line feed. The line of a dimension or a
-- declaration begins with a tab, and that of an attribute with two.
use Rattle.std.specs.Prelude.{ℕ, ◌-◌, ◌==◌, ℤ, if◌then◌else◌, List, [], ◌∷◌, ◌++◌, length, map, take, codes, decimal, slice_get}
use Rattle.std.specs.Str.{byte}
use Rattle.std.specs.Fmt.{signed_decimal}
use Rattle.std.specs.List.{suffix_len}
use Rattle.std.specs.Option.{option_map_or}
use Rattle.nc_base.specs.declared.{header.Att.Att, header.Dim.Dim, header.Var.Var, header.Header.Header}
use Rattle.nc_types.specs.declared.{nc_type.NcType.NcType, nc_type.NcType.TheVariants.Char}
use Rattle.nc_types.specs.Bytes.{Bytes, concat_parts}
use Rattle.nc_base.specs.Numbers.{numbers}
use Rattle.nc_types.specs.Types.{type_word, number_suffix}
use Rattle.nc_types.specs.Escapes.{escaped_name, escaped_in_string}

-- ---- fixed words

unfoldable pub dimensions_word : Bytes
dimensions_word = codes "dimensions:\n"

unfoldable pub unlimited_word : Bytes
unlimited_word = codes "UNLIMITED ; // ("

unfoldable pub currently_word : Bytes
currently_word = codes " currently)\n"

unfoldable pub variables_word : Bytes
variables_word = codes "variables:\n"

unfoldable pub global_word : Bytes
global_word = codes "\n// global attributes:\n"

unfoldable pub netcdf_word : Bytes
netcdf_word = codes "netcdf "

-- closes a string, and begins another on the next line
unfoldable pub string_break : Bytes
string_break = codes "\",\n\t\t\t\""

-- ---- values of attributes

-- with `, ` between each two
abbrev pub joined : List Bytes → Bytes
joined [] = []
joined (x ∷ []) = x
joined (x ∷ y ∷ xs) = x ++ (codes ", " ++ joined (y ∷ xs))

unfoldable pub numbers_text : NcType → Bytes → Bytes
numbers_text ty vals = joined (map (λ (n : ℤ). signed_decimal n ++ number_suffix ty) (numbers ty vals))

abbrev pub without_trailing_nuls : Bytes → Bytes
without_trailing_nuls bytes = take (length bytes - suffix_len (λ b. b == 0) bytes) bytes

-- broken after the `\n` of each line feed that isn't the last byte
abbrev pub broken_text : Bytes → Bytes
broken_text [] = []
broken_text (b ∷ []) = escaped_in_string b
broken_text (b ∷ c ∷ bytes) = escaped_in_string b ++ ((if b == byte "\n" then string_break else []) ++ broken_text (c ∷ bytes))

unfoldable pub chars_text : Bytes → Bytes
chars_text vals = concat_parts (codes "\"" ∷ broken_text (without_trailing_nuls vals) ∷ codes "\"" ∷ [])

abbrev pub att_text : NcType → Bytes → Bytes
att_text Char vals = chars_text vals
att_text ty vals = numbers_text ty vals

-- ---- lines

-- escaped_owner: the escaped name of the variable, or nothing for the whole dataset
unfoldable pub att_line : Bytes → Att → Bytes
att_line escaped_owner att =
    concat_parts (codes "\t\t" ∷ escaped_owner ∷ codes ":" ∷ escaped_name att.name
    ∷ codes " = " ∷ att_text att.ty att.vals ∷ codes " ;\n" ∷ [])

unfoldable pub att_lines : Bytes → List Att → Bytes
att_lines escaped_owner atts = concat_parts (map (att_line escaped_owner) atts)

-- what comes after `NAME = `: `3 ;`, or for the record dimension `UNLIMITED ; // (2 currently)`, with a line feed
unfoldable pub dim_len_text : ℕ → ℕ → Bytes
dim_len_text records len =
    if len == 0 then concat_parts (unlimited_word ∷ decimal records ∷ currently_word ∷ [])
    else concat_parts (decimal len ∷ codes " ;\n" ∷ [])

unfoldable pub dim_line : ℕ → Dim → Bytes
dim_line records dim = concat_parts (codes "\t" ∷ escaped_name dim.name ∷ codes " = " ∷ dim_len_text records dim.len ∷ [])

unfoldable pub dim_lines : ℕ → List Dim → Bytes
dim_lines records dims = concat_parts (map (dim_line records) dims)

unfoldable pub dims_text : ℕ → List Dim → Bytes
dims_text records dims = if length dims == 0 then [] else concat_parts (dimensions_word ∷ dim_lines records dims ∷ [])

abbrev pub dim_name : List Dim → ℕ → Bytes
dim_name dims id = option_map_or (λ (dim : Dim). escaped_name dim.name) (slice_get dims id) []

-- nothing at rank 0
unfoldable pub shape_text : List Dim → List ℕ → Bytes
shape_text dims ids = if length ids == 0 then [] else concat_parts (codes "(" ∷ joined (map (dim_name dims) ids) ∷ codes ")" ∷ [])

unfoldable pub var_lines : List Dim → Var → Bytes
var_lines dims var =
    concat_parts (codes "\t" ∷ type_word var.ty ∷ codes " " ∷ escaped_name var.name ∷ shape_text dims var.dimids ∷ codes " ;\n"
    ∷ att_lines (escaped_name var.name) var.atts ∷ [])

unfoldable pub vars_text : List Dim → List Var → Bytes
vars_text dims vars = if length vars == 0 then [] else concat_parts (variables_word ∷ concat_parts (map (var_lines dims) vars) ∷ [])

unfoldable pub gatts_text : List Att → Bytes
gatts_text gatts = if length gatts == 0 then [] else concat_parts (global_word ∷ att_lines [] gatts ∷ [])

unfoldable pub head_text : Bytes → Header → ℕ → Bytes
head_text name h records =
    concat_parts (netcdf_word ∷ escaped_name name ∷ codes " {\n"
    ∷ dims_text records h.dims ∷ vars_text h.dims h.vars ∷ gatts_text h.gatts ∷ [])
