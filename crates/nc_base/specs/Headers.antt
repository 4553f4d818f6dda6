-- Definition. Sound headers, and good datasets.
use Rattle.std.specs.Prelude.{ℕ, ◌≡◌, ◌*◌, ◌<◌, ◌≤◌, IsTrue, ◌==◌, List, [], ◌∷◌, ◌++◌, length, map, filter, All}
use Rattle.nc_base.specs.declared.{header.Att.Att, header.Dim.Dim, header.Var.Var, header.Header.Header, header.NumRecs.NumRecs, dataset.Dataset.Dataset}
use Rattle.nc_types.specs.declared.{version.Version.Version}
use Rattle.nc_base.specs.declared.header.NumRecs.TheVariants.{Known, Streaming}
use Rattle.nc_types.specs.Bytes.{Bytes, AreBytes}
use Rattle.nc_types.specs.Types.{size_of}
use Rattle.nc_types.specs.Versions.{count_limit, has_type}
use Rattle.nc_types.specs.Names.{IsName}
use Rattle.nc_base.specs.Sizes.{is_record_dim, value_count, slab_size, record_size, slab_limit, array_limit, record_limit}

-- the id is that of a dimension, and may follow these ids in a shape: the record dimension comes first, if at all
pub record IsDimid (dims : List Dim) (before : List ℕ) (id : ℕ) : Type 0 where
  pub known : id < length dims
  pub record_first : IsTrue (is_record_dim dims id) → before ≡ []

-- these ids, one after the other, may follow those of `before` in a shape
abbrev pub AreDimids : List Dim → List ℕ → List ℕ → Type 0
AreDimids dims before [] = Unit {0}
AreDimids dims before (id ∷ ids) = IsDimid dims before id × AreDimids dims (before ++ id ∷ []) ids

-- an attribute has whole values, and the version can count them
pub record HasWholeValues (v : Version) (att : Att) : Type 0 where
  pub count : ℕ
  pub counted : count < count_limit v
  pub whole : length att.vals ≡ count * size_of att.ty

-- an attribute: its type is one of the version's, and it has whole values
pub record IsSoundAtt (v : Version) (att : Att) : Type 0 where
  pub name_len : length att.name < count_limit v
  pub ty : IsTrue (has_type v att.ty)
  pub values : HasWholeValues v att

pub record IsSoundVar (v : Version) (dims : List Dim) (var : Var) : Type 0 where
  pub name_len : length var.name < count_limit v
  pub rank : length var.dimids < count_limit v
  pub shape : AreDimids dims [] var.dimids
  pub att_count : length var.atts < count_limit v
  pub atts : All (IsSoundAtt v) var.atts
  pub ty : IsTrue (has_type v var.ty)
  pub slab : slab_size dims var ≤ slab_limit

pub record IsSoundDim (v : Version) (dim : Dim) : Type 0 where
  pub name_len : length dim.name < count_limit v
  pub len : dim.len < count_limit v

-- a number of records that the version can count, or the mark for an unknown one
abbrev pub IsSoundNumRecs : Version → NumRecs → Type 0
IsSoundNumRecs v (Known n) = n < count_limit v
IsSoundNumRecs v Streaming = Unit {0}

-- A header whose counts, types, shapes and sizes keep the format's rules and this project's limits. Names and begins may be any.
pub record IsSound (h : Header) : Type 0 where
  pub numrecs : IsSoundNumRecs h.version h.numrecs
  pub dim_count : length h.dims < count_limit h.version
  pub dims : All (IsSoundDim h.version) h.dims
  pub one_record_dim : length (filter (λ (dim : Dim). dim.len == 0) h.dims) ≤ 1
  pub gatt_count : length h.gatts < count_limit h.version
  pub gatts : All (IsSoundAtt h.version) h.gatts
  pub var_count : length h.vars < count_limit h.version
  pub vars : All (IsSoundVar h.version h.dims) h.vars
  -- `Grammar.is_within_limits` bounds the padded slabs; a record differs from these only if it has one narrow slab, which is far below the limit
  pub small_records : record_size h ≤ record_limit

-- each name is valid
pub record HasValidNames (h : Header) : Type 0 where
  pub dims : All (λ (dim : Dim). IsName dim.name) h.dims
  pub gatts : All (λ (att : Att). IsName att.name) h.gatts
  pub vars : All (λ (var : Var). IsName var.name × All (λ (att : Att). IsName att.name) var.atts) h.vars

-- a variable without its offset
abbrev pub bare_var : Var → Var
bare_var var = record var { begin_at = 0 }

-- a header without offsets, and with n records
abbrev pub bare : Header → ℕ → Header
bare h n = record h { numrecs = Known n; vars = map bare_var h.vars }

-- a variable's array: as many values as it has, in no more bytes than an array may have
pub record IsArray (dims : List Dim) (records : ℕ) (var : Var) (array : Bytes) : Type 0 where
  pub bytes : AreBytes array
  pub whole : length array ≡ value_count dims var records * size_of var.ty
  pub small : length array ≤ array_limit

-- one array for each variable
abbrev pub AreArrays : List Dim → ℕ → List Var → List Bytes → Type 0
AreArrays dims records [] [] = Unit {0}
AreArrays dims records [] (array ∷ arrays) = ⊥
AreArrays dims records (var ∷ vars) [] = ⊥
AreArrays dims records (var ∷ vars) (array ∷ arrays) = IsArray dims records var array × AreArrays dims records vars arrays

-- The values of each attribute are bytes. They need no other rule: any bytes are values of a type.
pub record HasValidValues (h : Header) : Type 0 where
  pub gatts : All (λ (att : Att). AreBytes att.vals) h.gatts
  pub vars : All (λ (var : Var). All (λ (att : Att). AreBytes att.vals) var.atts) h.vars

-- a dataset that a file can hold if its begins fit their fields; `is_bare`: the header has this number of records, and each begin is 0
pub record IsGood (d : Dataset) : Type 0 where
  pub records : ℕ
  pub is_bare : d.header ≡ bare d.header records
  pub is_sound : IsSound d.header
  pub names : HasValidNames d.header
  pub values : HasValidValues d.header
  pub arrays : AreArrays d.header.dims records d.header.vars d.arrays
