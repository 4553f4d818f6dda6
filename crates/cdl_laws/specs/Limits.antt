-- Law. Where no statement of a text has a fault, only a limit keeps the text from meaning a dataset.
use Rattle.std.specs.Prelude.{ℕ, ◌≡◌, ◌*◌, ◌/◌, ◌<◌, ◌≤◌, true, List, length, All, Ok}
use Rattle.nc_types.specs.Bytes.{Bytes, AreBytes}
use Rattle.nc_base.specs.declared.{header.Att.Att, header.Dim.Dim, header.Header.Header, header.Var.Var}
use Rattle.nc_types.specs.declared.{version.Version.Version}
use Rattle.nc_base.specs.GeneratedFile.{known_records}
use Rattle.nc_base.specs.Sizes.{value_count, slab_size, record_size, slab_limit, record_limit, array_limit}
use Rattle.nc_types.specs.Types.{size_of}
use Rattle.nc_types.specs.Versions.{count_limit}
use Rattle.cdl_statements.specs.Meaning.{dataset_of, empty, header_of, meaning, run}
use Rattle.cdl_statements.specs.Pieces.{statements}
use Rattle.cdl_statements.specs.SoundHeaders.{is_sound}
use Rattle.cdl_statements.specs.State.{State}

-- ---- limits

-- the version can count as many
abbrev pub CanCount : Version → ℕ → Type 0
CanCount v n = n < count_limit v

-- the bytes of an attribute's name, and its values
pub record CanCountAtt (v : Version) (att : Att) : Type 0 where
  pub name : CanCount v (length att.name)
  pub values : CanCount v (length att.vals / size_of att.ty)

-- these attributes, and the parts of each
pub record CanCountAtts (v : Version) (atts : List Att) : Type 0 where
  pub list : CanCount v (length atts)
  pub each : All (CanCountAtt v) atts

-- the bytes of a variable's name, its dimensions and its attributes
pub record CanCountVar (v : Version) (var : Var) : Type 0 where
  pub name : CanCount v (length var.name)
  pub dimids : CanCount v (length var.dimids)
  pub atts : CanCountAtts v var.atts

-- The version of the header can count its records, and what is in each of its lists. This says nothing of types, shapes and lengths of
-- dimensions.
pub record CanCountAll (h : Header) : Type 0 where
  pub records : CanCount h.version (known_records h.numrecs)
  pub dims : CanCount h.version (length h.dims)
  pub dim_names : All (λ (dim : Dim). CanCount h.version (length dim.name)) h.dims
  pub gatts : CanCountAtts h.version h.gatts
  pub vars : CanCount h.version (length h.vars)
  pub each_var : All (CanCountVar h.version) h.vars

-- each slab and the record keep their limits
pub record HasSmallSlabs (h : Header) : Type 0 where
  pub slabs : All (λ (var : Var). slab_size h.dims var ≤ slab_limit) h.vars
  pub one_record : record_size h ≤ record_limit

-- and so does each array
abbrev pub HasSmallArrays : Header → Type 0
HasSmallArrays h = All (λ (var : Var). value_count h.dims var (known_records h.numrecs) * size_of var.ty ≤ array_limit) h.vars

-- ---- no other reason

-- what a text without a fault declares has a sound header if it keeps these limits: nothing else that the test asks for can fail
abbrev pub LimitsMakeSound : Type 0
LimitsMakeSound = (text : Bytes) (v : Version) (s : State) → AreBytes text → run text v empty (statements text) ≡ Ok s
    → CanCountAll (header_of v s) → HasSmallSlabs (header_of v s) → is_sound (header_of v s) ≡ true

-- and if the arrays keep theirs, the text means what it declares: it isn't too large
abbrev pub LimitsMakeMeant : Type 0
LimitsMakeMeant = (text : Bytes) (v : Version) (s : State) → AreBytes text → run text v empty (statements text) ≡ Ok s
    → CanCountAll (header_of v s) → HasSmallSlabs (header_of v s) → HasSmallArrays (header_of v s) → meaning text v ≡ Ok (dataset_of v s)
