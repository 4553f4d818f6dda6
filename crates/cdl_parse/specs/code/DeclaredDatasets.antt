-- For contracts. What a text declares, as a dataset: each variable's listed values, and the fill value where it has none.
use Rattle.std.specs.Prelude.{ℕ, ◌≡◌, if◌then◌else◌, List, Option, None, Some, Result, Ok, Err}
use Rattle.nc_base.specs.declared.{dataset.Dataset.Dataset, header.Att.Att, header.Dim.Dim, header.Header.Header, header.Var.Var}
use Rattle.nc_types.specs.declared.{version.Version.Version}
use Rattle.nc_base.specs.GeneratedFile.{known_records}
use Rattle.nc_base.specs.code.OwedValues.{whole_arrays}
use Rattle.cdl_statements.specs.declared.{fault.CdlFault.CdlFault, fault.CdlKind.TheVariants.TooLarge}
use Rattle.cdl_statements.specs.Meaning.{finished}
use Rattle.cdl_statements.specs.SoundHeaders.{is_sound}
use Rattle.cdl_statements.specs.State.{State}
use Rattle.cdl_values.specs.code.Listed.{AllList, AreShaped}
use Rattle.cdl_parse.specs.declared.declared_values.Declared.{Declared}

-- the header, and each variable's listed values with fill values up to their number
abbrev pub dataset_of_declared : Declared → Dataset
dataset_of_declared d = record { header = d.header; arrays = whole_arrays d.header.dims (known_records d.header.numrecs) d.header.vars d.listed }

-- what is declared, if the header is sound
abbrev pub if_sound : Header → List (List ℕ) → Option Declared
if_sound header listed = if is_sound header then Some (record { header = header; listed = listed }) else None

-- the dataset, or where none is declared the fault that it is too large
abbrev pub or_too_large : ℕ → Option Declared → Result Dataset CdlFault
or_too_large line (Some d) = Ok (dataset_of_declared d)
or_too_large line None = Err (record { line = line; kind = TooLarge })

-- such a state is finished as what is declared, or it is too large
abbrev pub Finishes : Version → List Dim → List Att → List Var → List (List ℕ) → Option Declared → Type 0
Finishes version dims gatts vars listed result =
    (s : State) → s.dims ≡ dims → s.gatts ≡ gatts → AllList vars listed s.drafts → AreShaped dims s.drafts → (line : ℕ) → finished version line (Ok s) ≡ or_too_large line result
