-- Law. The text of a dataset is read back, so no two datasets have one text.
use Rattle.std.specs.Prelude.{◌≡◌, false, None, Ok}
use Rattle.nc_types.specs.Bytes.{Bytes}
use Rattle.nc_base.specs.declared.dataset.Dataset.{Dataset}
use Rattle.nc_base.specs.Dump.{Options, whole}
use Rattle.nc_base.specs.Datasets.{IsText}
use Rattle.nc_types.specs.Names.{IsName}
use Rattle.nc_base.specs.Sayable.{IsSayable, trimmed}
use Rattle.cdl_statements.specs.Meaning.{meaning}

-- a full dump under a valid name
pub record IsFull (o : Options) : Type 0 where
  pub name : IsName o.name
  pub values : o.head_only ≡ false
  pub coords : o.coords ≡ false
  pub chosen : o.chosen ≡ None

abbrev pub TextReadsBack : Type 0
TextReadsBack = (d : Dataset) (o : Options) (text : Bytes) → IsSayable d → IsFull o → IsText d o text whole
    → meaning text d.header.version ≡ Ok (trimmed d)

-- datasets of one version with one text are the same without the NULs at the end of their attributes
abbrev pub DumpsTellDatasetsApart : Type 0
DumpsTellDatasetsApart = (d e : Dataset) (o p : Options) (text : Bytes) → IsSayable d → IsSayable e → d.header.version ≡ e.header.version
    → IsFull o → IsFull p → IsText d o text whole → IsText e p text whole → trimmed d ≡ trimmed e
