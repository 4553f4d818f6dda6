-- Words in which examples are written down, and what a proof unfolds to compute them.
use Prim.Native.String.{String}
use Rattle.nc_base.proofs.Prelude.{ℕ, ◌+◌, ◌*◌, ◌-◌, List, [], ◌∷◌, codes, filter, not, nat_lt, if◌then◌else◌, ◌==◌, digits, flat_map, Dataset, Att, Dim, Known, Var, NcType, Version, concat_parts, is_reserved, escaped_name, escaped_text, fill_value, fill_bytes, padded_slab, data_of, with_begins, file_of, number_piece, number_pieces, characters_text, variable_opening, variable_closing, variable_prefix, variable_text, print, number, limited_part, offset_part, ignored, name_part, type_part, each, counted, list_head, list_part, dim_part, dim_list, att_part, att_list, dimid_part, shape_part, var_part, var_list, version_part, magic_part, numrecs_part, header_by, ⊤}

-- ---- bytes

abbrev value : ℕ → ℕ
value c = if nat_lt c 97 then c - 48 else c - 87

abbrev pairs : List ℕ → List ℕ
pairs (high ∷ low ∷ rest) = (16 * value high + value low) ∷ pairs rest
pairs _ = []

-- the bytes that hexadecimal digits in lower case spell, whatever white space stands between
abbrev pub hex : List String → List ℕ
hex texts = pairs (filter (λ c. not (c == 32)) (flat_map codes texts))

-- ---- datasets

abbrev pub dim : List ℕ → ℕ → Dim
dim name len = record { name = name; len = len }

abbrev pub att : List ℕ → NcType → List ℕ → Att
att name ty vals = record { name = name; ty = ty; vals = vals }

abbrev pub var : List ℕ → List ℕ → List Att → NcType → Var
var name ids atts ty = record { name = name; dimids = ids; atts = atts; ty = ty; begin_at = 0 }

abbrev pub dataset : Version → ℕ → List Dim → List Att → List Var → List (List ℕ) → Dataset
dataset v records dims gatts vars arrays =
    record { header = record { version = v; numrecs = Known records; dims = dims; gatts = gatts; vars = vars }; arrays = arrays }

-- ---- what is computed

-- the file of a dataset
unfoldable pub files_computed : ⊤
unfolding print number limited_part offset_part ignored name_part type_part each counted list_head list_part dim_part dim_list att_part att_list dimid_part shape_part var_part var_list version_part magic_part numrecs_part header_by fill_bytes fill_value padded_slab data_of with_begins file_of
files_computed = tt

-- the text of names and values
unfoldable pub values_computed : ⊤
unfolding concat_parts escaped_name escaped_text is_reserved digits number_piece number_pieces characters_text variable_opening variable_closing variable_prefix variable_text
values_computed = tt
