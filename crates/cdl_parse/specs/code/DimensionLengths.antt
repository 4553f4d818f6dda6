-- For contracts. The length of a dimension, by a number as it is held.
use Rattle.std.specs.Prelude.{ℕ, ℤ, ◌≡◌, Bool, ◌||◌, ◌==◌, nat_le, if◌then◌else◌, List, Option, None, Some, Result, Ok, Err}
use Rattle.nc_base.specs.Sizes.{has_record_dim}
use Rattle.nc_types.specs.Versions.{count_limit}
use Rattle.nc_base.specs.declared.{header.Dim.Dim}
use Rattle.nc_types.specs.declared.{version.Version.Version}
use Rattle.cdl_statements.specs.declared.fault.CdlKind.{CdlKind}
use Rattle.cdl_statements.specs.declared.fault.CdlKind.TheVariants.{ZeroDimension, NumberRange}
use Rattle.cdl_tokens.specs.Numerals.{Parts, number}
use Rattle.cdl_statements.specs.State.{dim_len_of}
use Rattle.cdl_tokens.specs.declared.numeral.Numeral.{Numeral}

-- the length that a number stands for, or its fault
abbrev pub number_len : Version → Numeral → Result ℕ CdlKind
number_len v n = elim n.magnitude [ None ↦ Err NumberRange | Some m ↦ if m == 0 then Err ZeroDimension else (if n.minus || nat_le (count_limit v) m then Err NumberRange else Ok m) ]

-- what a number says of a length
abbrev pub len_by : Parts → Option ℤ
len_by p = Some (number p).value

-- the length of a new dimension by what the text says of it; `has_record`: one of the dimensions before it is the record dimension
abbrev pub IsLength : Version → Bool → Option ℤ → Result ℕ CdlKind → Type 0
IsLength v has_record said result = (dims : List Dim) → has_record ≡ has_record_dim dims → result ≡ dim_len_of v dims said
