-- Law. What a text means is a good dataset, and a text can declare it but for the fill values of characters.
use Rattle.std.specs.Prelude.{◌≡◌, true, [], map, All, Ok}
use Rattle.nc_types.specs.Bytes.{Bytes, AreBytes}
use Rattle.nc_base.specs.declared.{dataset.Dataset.Dataset, header.Dim.Dim, header.Var.Var, header.NumRecs.TheVariants.Known}
use Rattle.nc_types.specs.declared.{version.Version.Version}
use Rattle.nc_base.specs.Fill.{fill_value}
use Rattle.nc_base.specs.Headers.{IsGood}
use Rattle.nc_base.specs.Sayable.{AreDistinct, AreSayableAtts, IsSayable, trimmed_var}
use Rattle.nc_base.specs.Sizes.{record_vars}
use Rattle.nc_base.specs.ValueText.{is_char}
use Rattle.cdl_statements.specs.Meaning.{meaning}

-- ---- what a text means is good

-- what a text of bytes means is a good dataset, of the version asked for
abbrev pub MeaningsAreGood : Type 0
MeaningsAreGood = (text : Bytes) (v : Version) (d : Dataset) → AreBytes text → meaning text v ≡ Ok d → IsGood d × (d.header.version ≡ v)

-- ---- a text can nearly declare it

-- all that a sayable dataset is, but for the fill values of characters
pub record IsNearlySayable (d : Dataset) : Type 0 where
  pub good : IsGood d
  pub dims : AreDistinct (map (λ (dim : Dim). dim.name) d.header.dims)
  pub gatts : AreSayableAtts d.header.gatts
  pub names : AreDistinct (map (λ (var : Var). var.name) d.header.vars)
  pub atts : All (λ (var : Var). AreSayableAtts var.atts) d.header.vars
  pub records : record_vars d.header.dims d.header.vars ≡ [] → d.header.numrecs ≡ Known 0

abbrev pub MeaningsAreNearlySayable : Type 0
MeaningsAreNearlySayable = (text : Bytes) (v : Version) (d : Dataset) → AreBytes text → meaning text v ≡ Ok d → IsNearlySayable d

-- a variable of characters has the same fill value without the NULs at the end of its attributes
abbrev pub KeepsFill : Var → Type 0
KeepsFill var = is_char var.ty ≡ true → fill_value (trimmed_var var) ≡ fill_value var

-- if each variable keeps its fill value, such a dataset is sayable
abbrev pub NearlyIsSayable : Type 0
NearlyIsSayable = (d : Dataset) → IsNearlySayable d → All KeepsFill d.header.vars → IsSayable d
