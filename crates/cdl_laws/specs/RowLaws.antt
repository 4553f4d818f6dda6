-- Law. The values that the text of a variable lists give its array.
use Rattle.std.specs.Prelude.{◌≡◌, ℕ, ℤ, true, false, List, [], length, slice_get, slice_index_or, Some, Ok}
use Rattle.nc_base.specs.declared.{dataset.Dataset.Dataset, header.NumRecs.TheVariants.Known, header.Var.Var}
use Rattle.nc_base.specs.Dump.{has_values}
use Rattle.nc_base.specs.Datasets.{values_in_dataset}
use Rattle.nc_base.specs.Sizes.{value_count, is_record_var}
use Rattle.nc_base.specs.Sayable.{IsSayable}
use Rattle.nc_base.specs.ValueText.{look_of, variable_text}
use Rattle.cdl_statements.specs.declared.section.Section.TheVariants.{Values}
use Rattle.cdl_statements.specs.Shapes.{Value, Listed}
use Rattle.cdl_statements.specs.Meaning.{array_of}
use Rattle.cdl_statements.specs.State.{values_listed}
use Rattle.cdl_laws.specs.PieceLaws.{IsStatement}

-- The text of the values of the variable in this place is one statement, which lists values for it. They are taken; and filled up
-- with the fill value, they are the numbers of its array. A record variable lists all numbers of its records, so that their number
-- gives the number of records.
pub record RowReadsBack (d : Dataset) (records width place : ℕ) (var : Var) : Type 0 where
  pub values : List Value
  pub statement : IsStatement d.header.version Values (variable_text (look_of d.header var records width) (values_in_dataset d place var).values) (Listed var.name values)
  pub listed : List ℤ
  pub added : values_listed d.header.dims var values ≡ Ok listed
  pub array : array_of d.header.dims records (record { var = var; listed = Some listed }) ≡ slice_index_or d.arrays place []
  pub whole : is_record_var d.header.dims var ≡ true → length listed ≡ value_count d.header.dims var records

abbrev pub RowsReadBack : Type 0
RowsReadBack = (d : Dataset) (records width place : ℕ) (var : Var) → IsSayable d
    → d.header.numrecs ≡ Known records → slice_get d.header.vars place ≡ Some var → has_values d.header.dims records var ≡ true
    → RowReadsBack d records width place var

-- a variable that has no value, and so no text, has no byte
abbrev pub EmptyRowsReadBack : Type 0
EmptyRowsReadBack = (d : Dataset) (records place : ℕ) (var : Var) → IsSayable d
    → d.header.numrecs ≡ Known records → slice_get d.header.vars place ≡ Some var → has_values d.header.dims records var ≡ false
    → slice_index_or d.arrays place [] ≡ []
