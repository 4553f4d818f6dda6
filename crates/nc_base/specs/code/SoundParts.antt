-- For contracts. What the parts of a sound header keep: words of the contracts of the functions that look at them.
use Rattle.std.specs.Prelude.{ℕ, ◌<◌, ◌≤◌, List, [], length, All}
use Rattle.nc_base.specs.declared.{header.Att.Att, header.Dim.Dim, header.Header.Header, header.Var.Var}
use Rattle.nc_types.specs.declared.{nc_type.NcType.NcType, version.Version.Version}
use Rattle.nc_base.specs.Headers.{AreDimids, IsSoundAtt, IsSoundDim, IsSoundVar}
use Rattle.nc_base.specs.Sizes.{record_limit, record_size, slab_limit, slab_len}
use Rattle.nc_types.specs.Versions.{count_limit}

-- the version can count the dimensions, and each is sound
abbrev pub AreSoundDims : Version → List Dim → Type 0
AreSoundDims v dims = (length dims < count_limit v) × All (IsSoundDim v) dims

-- the same of attributes
abbrev pub AreSoundAtts : Version → List Att → Type 0
AreSoundAtts v atts = (length atts < count_limit v) × All (IsSoundAtt v) atts

-- the same of variables
abbrev pub AreSoundVars : Version → List Dim → List Var → Type 0
AreSoundVars v dims vars = (length vars < count_limit v) × All (IsSoundVar v dims) vars

-- the variables are sound, and so is their record size
abbrev pub HasSoundVars : Header → Type 0
HasSoundVars h = (length h.vars < count_limit h.version) × All (IsSoundVar h.version h.dims) h.vars × (record_size h ≤ record_limit)

-- the ids are those of a shape whose slab keeps the limit
abbrev pub IsSoundShape : List Dim → List ℕ → NcType → Type 0
IsSoundShape dims dimids ty = AreDimids dims [] dimids × (slab_len dims dimids ty ≤ slab_limit)
