-- Definition. The dataset whose text is read back, and the one that it is read back as.
use Rattle.std.specs.Prelude.{◌≡◌, ◌<◌, true, false, List, [], ◌∷◌, length, map, All, if◌then◌else◌}
use Rattle.nc_types.specs.Bytes.{Bytes}
use Rattle.nc_base.specs.declared.{dataset.Dataset.Dataset, header.Att.Att, header.Dim.Dim, header.Header.Header, header.NumRecs.TheVariants.Known, header.Var.Var}
use Rattle.nc_base.specs.Dump.{has_name}
use Rattle.nc_base.specs.Fill.{fill_value}
use Rattle.nc_base.specs.Headers.{IsGood}
use Rattle.nc_base.specs.HeadText.{without_trailing_nuls}
use Rattle.nc_base.specs.Sizes.{record_vars}
use Rattle.nc_base.specs.ValueText.{is_char}

-- without the NULs at the end of its characters
abbrev pub trimmed_att : Att → Att
trimmed_att att = record att { vals = if is_char att.ty then without_trailing_nuls att.vals else att.vals }

abbrev pub trimmed_var : Var → Var
trimmed_var var = record var { atts = map trimmed_att var.atts }

abbrev pub trimmed_header : Header → Header
trimmed_header h = record h { gatts = map trimmed_att h.gatts; vars = map trimmed_var h.vars }

abbrev pub trimmed : Dataset → Dataset
trimmed d = record d { header = trimmed_header d.header }

-- no two of the names are equal
abbrev pub AreDistinct : List Bytes → Type 0
AreDistinct [] = Unit {0}
AreDistinct (name ∷ names) = (has_name names name ≡ false) × AreDistinct names

-- an attribute of numbers has one at least
abbrev pub HasSomeNumber : Att → Type 0
HasSomeNumber att = is_char att.ty ≡ false → 0 < length att.vals

-- attributes that a text can declare: no two have the same name, and none of numbers is empty
pub record AreSayableAtts (atts : List Att) : Type 0 where
  pub names : AreDistinct (map (λ (a : Att). a.name) atts)
  pub some : All HasSomeNumber atts

-- a variable that a text can declare; `fill`: one of characters keeps its fill value if the NULs at the end of its attributes are left out
pub record IsSayableVar (var : Var) : Type 0 where
  pub atts : AreSayableAtts var.atts
  pub fill : is_char var.ty ≡ true → fill_value (trimmed_var var) ≡ fill_value var

-- a dataset that a text can declare
pub record IsSayable (d : Dataset) : Type 0 where
  pub good : IsGood d
  pub dims : AreDistinct (map (λ (dim : Dim). dim.name) d.header.dims)
  pub gatts : AreSayableAtts d.header.gatts
  pub names : AreDistinct (map (λ (var : Var). var.name) d.header.vars)
  pub vars : All IsSayableVar d.header.vars
  pub records : record_vars d.header.dims d.header.vars ≡ [] → d.header.numrecs ≡ Known 0
