-- Definition. The header of the file.
use Rattle.std.specs.Prelude.{[], ◌∷◌}
use Rattle.nc_base.specs.declared.{header.Dim.Dim, header.Header.Header, header.NumRecs.TheVariants.Known, header.Var.Var}
use Rattle.nc_types.specs.declared.{nc_type.NcType.TheVariants.Int, version.Version.TheVariants.Cdf1}

-- `x`, of length 3
abbrev pub x_dim : Dim
x_dim = record { name = 120 ∷ []; len = 3 }

-- `int v(x)`, whose begin isn't known yet
abbrev pub v_var : Var
v_var = record { name = 118 ∷ []; dimids = 0 ∷ []; atts = []; ty = Int; begin_at = 0 }

-- a header of both
abbrev pub int_header : Header
int_header = record { version = Cdf1; numrecs = Known 0; dims = x_dim ∷ []; gatts = []; vars = v_var ∷ [] }
