-- Definition. A source, as contracts see it.
use Rattle.std.specs.Prelude.{ℕ}
use Rattle.nc_types.specs.Bytes.{Bytes}

-- all its bytes (of an opaque source, some list of that length), how often it has failed, and how many bytes it has handed over in all
pub record SourceView : Type 0 where
  pub bytes : Bytes
  pub failures : ℕ
  pub handed : ℕ
