-- Definition. The text of a dataset, and the files that hold it.
use Rattle.std.specs.Prelude.{ℕ, ◌≡◌, ◌<◌, [], length, map, slice_index_or, All, Some, None}
use Rattle.std.specs.List.{concat}
use Rattle.nc_types.specs.Bytes.{Bytes}
use Rattle.nc_base.specs.declared.{dataset.Dataset.Dataset, header.Header.Header, header.NumRecs.TheVariants.Known, header.Var.Var}
use Rattle.nc_base.specs.Numbers.{numbers}
use Rattle.nc_types.specs.Versions.{offset_limit}
use Rattle.nc_base.specs.Sizes.{record_count}
use Rattle.nc_base.specs.Headers.{bare}
use Rattle.nc_base.specs.Grammar.{SpellsHeader}
use Rattle.nc_base.specs.Places.{stored_bytes, first_missing}
use Rattle.nc_base.specs.Dump.{Options, Ending, no_such_variable, DataText, VariableValues, first_unknown, dump_text, shown_data_text, selection_of}
use Rattle.nc_base.specs.GeneratedFile.{with_begins}

-- what a dataset has of the variable in place v
abbrev pub values_in_dataset : Dataset → ℕ → Var → VariableValues
values_in_dataset d v var = record { values = numbers var.ty (slice_index_or d.arrays v []); missing = None }

-- The text of a dataset. If a chosen name is unknown, it is empty, and the ending is the place of the first such name. Otherwise it is the
-- head and the values.
pub data IsText (d : Dataset) (o : Options) : Bytes → Ending → Type 0 where
  is_unknown : (index : ℕ) → first_unknown d.header.vars o.chosen ≡ Some index → IsText d o [] (no_such_variable index)
  is_shown : (n : ℕ) (section : DataText)
      → first_unknown d.header.vars o.chosen ≡ None → d.header.numrecs ≡ Known n
      → section ≡ shown_data_text d.header o (values_in_dataset d) n (selection_of d.header o)
      → IsText d o (dump_text d.header o n section) section.ending

-- The bytes of a file hold the dataset: its header is the one that they spell, with the file's number of records and
-- without offsets, no value is missing, and the array of each variable is its stored bytes, one value after the other.
pub record HoldsDataset (bytes : Bytes) (d : Dataset) : Type 0 where
  pub header : Header
  pub rest : Bytes
  pub records : ℕ
  pub spelled : SpellsHeader bytes header rest
  pub counted : records ≡ record_count header (length bytes)
  pub is_bare : d.header ≡ bare header records
  pub whole : All (λ (var : Var). first_missing header bytes var records ≡ None) header.vars
  pub arrays : d.arrays ≡ map (λ (var : Var). concat (stored_bytes header bytes var records)) header.vars

-- each begin fits its field
abbrev pub Fits : Header → Type 0
Fits h = All (λ (var : Var). var.begin_at < offset_limit h.version) (with_begins h).vars
