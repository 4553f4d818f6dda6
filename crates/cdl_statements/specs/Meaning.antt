-- Definition. What a text means: a dataset, or its first fault with its line.
use Rattle.std.specs.Prelude.{ℕ, ◌+◌, ◌-◌, ◌*◌, ◌/◌, nat_le, max, Bool, ◌&&◌, if◌then◌else◌, ℤ, List, [], ◌∷◌, length, map, None, Some, Result, Ok, Err}
use Rattle.std.specs.List.{flat_map, list_all}
use Rattle.nc_types.specs.Bytes.{Bytes}
use Rattle.nc_base.specs.declared.{dataset.Dataset.Dataset, header.Dim.Dim, header.Header.Header, header.NumRecs.TheVariants.Known}
use Rattle.nc_types.specs.declared.{version.Version.Version}
use Rattle.nc_base.specs.Fill.{fill_value}
use Rattle.nc_base.specs.Sizes.{value_count, is_record_var, slab_count, array_limit}
use Rattle.nc_base.specs.Numbers.{bytes_of_number}
use Rattle.nc_types.specs.Types.{size_of}
use Rattle.cdl_statements.specs.Lexemes.{Lexeme, lexeme}
use Rattle.cdl_statements.specs.Shapes.{shape, first_bad}
use Rattle.cdl_statements.specs.SoundHeaders.{is_sound}
use Rattle.cdl_statements.specs.Pieces.{statements}
use Rattle.cdl_statements.specs.declared.{fault.CdlFault.CdlFault, fault.CdlKind.CdlKind, section.Section.TheVariants.Unopened}
use Rattle.cdl_statements.specs.declared.fault.CdlKind.TheVariants.{Syntax, TooLarge}
use Rattle.cdl_tokens.specs.declared.token.Token.{Token}
use Rattle.cdl_statements.specs.State.{State, Draft, act, filled}

-- ---- statements

-- A bad token or number comes before a fault of syntax, and that before a fault of meaning.
unfoldable pub piece_read : Version → State → List Lexeme → Result State CdlKind
piece_read v s piece =
    elim (first_bad v piece) [
      | None ↦ elim (shape v s.section piece) [ None ↦ Err Syntax | Some statement ↦ act v s statement ]
      | Some bad ↦ Err bad
    ]

abbrev pub starting_line : List Token → ℕ
starting_line [] = 0
starting_line (t ∷ ts) = t.line

-- the state after these pieces, or the fault of the first that has one, on the line on which that piece begins
unfoldable pub run : Bytes → Version → State → List (List Token) → Result State CdlFault
run text v s [] = Ok s
run text v s (p ∷ ps) =
    elim (piece_read v s (map (lexeme text) p)) [
      | Ok t ↦ run text v t ps
      | Err kind ↦ Err (record { line = starting_line p; kind = kind })
    ]

abbrev pub empty : State
empty = record { section = Unopened; dims = []; gatts = []; drafts = [] }

-- ---- arrays

abbrev pub listed_values : Draft → List ℤ
listed_values d = elim d.listed [ None ↦ [] | Some values ↦ values ]

-- how many records hold the values of one variable
abbrev pub records_of : List Dim → Draft → ℕ
records_of dims d =
    if is_record_var dims d.var then (length (listed_values d) + slab_count dims d.var - 1) / slab_count dims d.var else 0

abbrev pub records_in : List Dim → List Draft → ℕ
records_in dims [] = 0
records_in dims (d ∷ ds) = max (records_of dims d) (records_in dims ds)

-- the array of a variable over n records: what is listed, and then fill values
abbrev pub array_of : List Dim → ℕ → Draft → Bytes
array_of dims n d = flat_map (bytes_of_number d.var.ty) (filled (value_count dims d.var n) (fill_value d.var) (listed_values d))

abbrev pub header_of : Version → State → Header
header_of v s = record {
  version = v;
  numrecs = Known (records_in s.dims s.drafts);
  dims = s.dims;
  gatts = s.gatts;
  vars = map (λ (d : Draft). d.var) s.drafts;
}

abbrev pub dataset_of : Version → State → Dataset
dataset_of v s = record { header = header_of v s; arrays = map (array_of s.dims (records_in s.dims s.drafts)) s.drafts }

abbrev pub has_small_array : List Dim → ℕ → Draft → Bool
has_small_array dims n d = nat_le (value_count dims d.var n * size_of d.var.ty) array_limit

-- the header is sound, which limits counts, slabs and the record, and each array keeps its limit
unfoldable pub are_within_limits : Version → State → Bool
are_within_limits v s = is_sound (header_of v s) && list_all (has_small_array s.dims (records_in s.dims s.drafts)) s.drafts

-- the line of the last piece but one: in a text without a fault, the closing brace
abbrev pub closing_line : List (List Token) → ℕ
closing_line [] = 0
closing_line (p ∷ q ∷ []) = starting_line p
closing_line (p ∷ ps) = closing_line ps

unfoldable pub finished : Version → ℕ → Result State CdlFault → Result Dataset CdlFault
finished v line (Err fault) = Err fault
finished v line (Ok s) = if are_within_limits v s then Ok (dataset_of v s) else Err (record { line = line; kind = TooLarge })

-- (the last piece is End, which has a shape only after `}`: so a text without `}` has a fault)
abbrev pub meaning : Bytes → Version → Result Dataset CdlFault
meaning text v = finished v (closing_line (statements text)) (run text v empty (statements text))
