-- Definition. The header of a file, from its numbers to `header_part` at the end. Above each part stands the line that the NetCDF Classic
-- Format Specification has for it, with what it says of padding in brackets. `Name ∶ p` puts a part under a step. `p is f` is one field of a
-- whole: p spells it, and f finds it in a whole that is to be written. A sentence that begins with `Project:` is a rule of this project.
-- What readers may differ in is a record of rules, which most parts take.
use Rattle.std.specs.Prelude.{ℕ, zero, suc, ◌≡◌, ◌+◌, ◌*◌, ◌/◌, ◌==◌, ◌&&◌, ◌||◌, Bool, not, nat_lt, nat_le, if◌then◌else◌, List, [], ◌∷◌, ◌++◌, length, drop, replicate, codes, slice_index, Option, Some, None, Result, Ok, Err, ok_or}
use Rattle.std.specs.Int.{Width, w32, to_be_bytes, from_be_bytes, byte_len}
use Rattle.std.specs.Str.{bytes_eq}
use Rattle.nc_base.specs.declared.{fault.FormatFault.FormatFault, header.Att.Att, header.Dim.Dim, header.Var.Var, header.Header.Header, header.NumRecs.NumRecs}
use Rattle.nc_types.specs.declared.{nc_type.NcType.NcType, version.Version.Version}
use Rattle.nc_base.specs.declared.fault.FormatFault.TheVariants.{NotNetcdf, UnknownVersion, HeaderTruncated, BadTag, BadCount, BadName, FloatingType, BadType, BadShape, TwoRecordDims, BadOffset, TooLarge}
use Rattle.nc_base.specs.declared.header.NumRecs.TheVariants.{Known, Streaming}
use Rattle.nc_types.specs.Bytes.{Bytes, padding_len}
use Rattle.nc_types.specs.Types.{code_of, size_of, type_of_code}
use Rattle.nc_types.specs.Versions.{version_byte, version_of_byte, count_width, offset_width, count_limit, offset_limit, streaming_mark, has_type, vsize_of}
use Rattle.nc_types.specs.Names.{is_name}
use Rattle.nc_base.specs.Sizes.{has_record_dim, is_record_dim, is_record_shape, slab_len, padded_size, padded_total, record_vars, slab_limit, record_limit}
use Rattle.nc_base.specs.Parts.{Step, Part, done, bytes, decoded, under, chain, Spells, Stops, print, Magic, VersionByte, Records, Dims, Gatts, Vars, Tag, Count, Item, Name, Length, Text, Padding, TypeCode, Values, Shape, Atts, Vsize, Begin}

-- ---- notation

-- a field of a B: the part that spells it, and the function that finds its value in a B
pub record Member (B A : Type 0) : Type 1 where
  pub part : Part A
  pub value : B → Option A

-- a field, and the fields after it: `x ← m` in a `do` is this operator, and x is the value of the field
infixl 10 ◌>>=◌
abbrev pub ◌>>=◌ : {A B : Type 0} → Member B A → (A → Part B) → Part B
m >>= next = chain m.value m.part next

infixl 20 ◌is◌
abbrev pub ◌is◌ : {A B : Type 0} → Part A → (B → A) → Member B A
p is value = record { part = p; value = λ whole. Some (value whole) }

infixr 30 ◌∶◌
abbrev pub ◌∶◌ : {A : Type 0} → Step → Part A → Part A
step ∶ p = under step p

-- a part whose value must pass a test; otherwise the part is wrong
abbrev pub checked : {A : Type 0} → (A → Bool) → FormatFault → Part A → Part A
checked test fault p = decoded (λ x. if test x then Ok x else Err fault) (λ x. x) p

-- ---- rules

-- what readers may differ in
pub record Rules : Type 0 where
  -- which bytes are a valid name
  pub is_valid : Bytes → Bool
  -- the type with this code
  pub type_in : Version → ℕ → Result NcType FormatFault
  -- what a dimension's length and the number of records are below
  pub length_limit : Version → ℕ
  -- what is kept of an attribute's values
  pub kept : Bytes → Bytes

-- the type, if it is one of the version's
abbrev pub known_type : Version → Option NcType → Option NcType
known_type v (Some ty) = if has_type v ty then Some ty else None
known_type v None = None

-- the version's type with this code. Project: float, whose code is 5, and double, 6, are refused.
abbrev pub type_in : Version → ℕ → Result NcType FormatFault
type_in v code = if (code == 5) || (code == 6) then Err FloatingType else ok_or (known_type v (type_of_code code)) BadType

-- the rules of a header whose values are read or written. Project: a name need not be in normal form NFC.
abbrev pub strict : Rules
strict = record { is_valid = is_name; type_in = type_in; length_limit = count_limit; kept = λ vals. vals }

-- ---- numbers

-- a big-endian number (a list of bytes could hold a number above 255, which would count as it is; a file holds none)
unfoldable pub number : Width → Part ℕ
number width = decoded (λ digits. Ok (from_be_bytes width digits)) (to_be_bytes width) (bytes (byte_len width) HeaderTruncated)

-- a number in as many bytes as NON_NEG has, which is below a limit
unfoldable pub limited_part : ℕ → Version → Part ℕ
limited_part limit v = checked (λ n. nat_lt n limit) BadCount (number (count_width v))

-- NON_NEG, in 4 or 8 bytes: its top bit is 0. (nelems = NON_NEG, dim_length = NON_NEG)
abbrev pub count_part : Version → Part ℕ
count_part v = limited_part (count_limit v) v

-- OFFSET, in 4 or 8 bytes: its top bit is 0, too
unfoldable pub offset_part : Version → Part ℕ
offset_part v = checked (λ n. nat_lt n (offset_limit v)) BadOffset (number (offset_width v))

-- ---- bytes, names and types

-- n bytes, which are written as zeros. Project: they may have any value.
unfoldable pub ignored : ℕ → Part (Unit {0})
ignored n = decoded (λ any. Ok tt) (λ nothing. replicate n 0) (bytes n HeaderTruncated)

-- name = nelems namestring  (filled up to the next multiple of four)
-- namestring = ID1 [IDN ...] padding  (`is_name` has ID1 and IDN)
unfoldable pub name_part : Rules → Version → Part Bytes
name_part r v = do
  n ← Length ∶ count_part v is length
  text ← Text ∶ checked r.is_valid BadName (bytes n HeaderTruncated) is λ text. text
  padding ← Padding ∶ ignored (padding_len n) is λ text. tt
  done text

-- nc_type = NC_BYTE | NC_CHAR | NC_SHORT | NC_INT | .. | NC_UINT64
unfoldable pub type_part : Rules → Version → Part NcType
type_part r v = decoded (r.type_in v) code_of (number w32)

-- ---- lists

-- NC_DIMENSION = \x00 \x00 \x00 \x0A
abbrev pub dimension_tag : ℕ
dimension_tag = 10

-- NC_VARIABLE = \x00 \x00 \x00 \x0B
abbrev pub variable_tag : ℕ
variable_tag = 11

-- NC_ATTRIBUTE = \x00 \x00 \x00 \x0C
abbrev pub attribute_tag : ℕ
attribute_tag = 12

-- the first element, if there is one
abbrev pub first : {A : Type 0} → List A → Option A
first [] = None
first (x ∷ xs) = Some x

-- n elements after those in `before`; the value is all of them (a rule such as "one record dimension" looks at those before)
unfoldable pub each : {A : Type 0} → (List A → Part A) → ℕ → List A → Part (List A)
each element zero before = done before
each element (suc n) before = do
  x ← record { part = Item (length before) ∶ element before; value = λ all. first (drop (length before) all) }
  each element n (before ++ x ∷ [])

-- nelems [element ...]
unfoldable pub counted : {A : Type 0} → Version → (List A → Part A) → Part (List A)
counted v element = do
  n ← Count ∶ count_part v is length
  each element n []

-- what stands before the elements of a list: its tag and their number. ABSENT = ZERO ZERO, a tag of 0 and the number 0, is written if there
-- are none; a list without elements may have its own tag, too.
unfoldable pub list_head : Version → ℕ → Part ℕ
list_head v tag = do
  found ← Tag ∶ checked (λ t. (t == 0) || (t == tag)) BadTag (number w32) is λ n. if n == 0 then 0 else tag
  Count ∶ checked (λ n. not (found == 0) || (n == 0)) BadCount (count_part v)

-- ABSENT | TAG nelems [element ...]
unfoldable pub list_part : {A : Type 0} → Version → ℕ → (List A → Part A) → Part (List A)
list_part v tag element = do
  n ← list_head v tag is length
  each element n []

-- ---- dimensions and attributes

-- dim = name dim_length  (a length of 0 marks the record dimension; there is at most one)
unfoldable pub dim_part : Rules → Version → Bool → Part Dim
dim_part r v has_record = do
  name ← Name ∶ name_part r v is λ dim. dim.name
  len ← Length ∶ checked (λ len. not (has_record && (len == 0))) TwoRecordDims (limited_part (r.length_limit v) v) is λ dim. dim.len
  done (record { name = name; len = len })

-- the next one, after those in `before`
abbrev pub dim_after : Rules → Version → List Dim → Part Dim
dim_after r v before = dim_part r v (has_record_dim before)

-- dim_list = ABSENT | NC_DIMENSION nelems [dim ...]
unfoldable pub dim_list : Rules → Version → Part (List Dim)
dim_list r v = list_part v dimension_tag (dim_after r v)

-- attr = name nc_type nelems [values ...]  (filled up to the next multiple of four)
unfoldable pub att_part : Rules → Version → Part Att
att_part r v = do
  name ← Name ∶ name_part r v is λ att. att.name
  ty ← TypeCode ∶ type_part r v is λ att. att.ty
  n ← Count ∶ count_part v is λ att. length att.vals / size_of att.ty
  vals ← Values ∶ bytes (n * size_of ty) HeaderTruncated is λ att. att.vals
  padding ← Padding ∶ ignored (padding_len (length vals)) is λ att. tt
  done (record { name = name; ty = ty; vals = r.kept vals })

-- the next one, after those in `before`
abbrev pub att_after : Rules → Version → List Att → Part Att
att_after r v before = att_part r v

-- gatt_list, vatt_list = ABSENT | NC_ATTRIBUTE nelems [attr ...]
unfoldable pub att_list : Rules → Version → Part (List Att)
att_list r v = list_part v attribute_tag (att_after r v)

-- ---- variables

-- whether this number is the id of a dimension; that of the record dimension may only be the first of a shape
abbrev pub is_dimid : List Dim → Bool → ℕ → Bool
is_dimid dims is_first id = nat_lt id (length dims) && (is_first || not (is_record_dim dims id))

-- dimid = NON_NEG
-- Project: a number that is the id of no dimension is a wrong shape, also if its top bit is 1.
unfoldable pub dimid_part : Version → List Dim → Bool → Part ℕ
dimid_part v dims is_first = checked (is_dimid dims is_first) BadShape (number (count_width v))

-- the next one, after those in `before`
abbrev pub dimid_after : Version → List Dim → List ℕ → Part ℕ
dimid_after v dims before = dimid_part v dims (length before == 0)

-- nelems [dimid ...]
unfoldable pub shape_part : Version → List Dim → Part (List ℕ)
shape_part v dims = counted v (dimid_after v dims)

-- the bytes that a variable of this shape and type adds to a record: 0 if it isn't a record variable
abbrev pub record_bytes : List Dim → List ℕ → NcType → ℕ
record_bytes dims ids ty = if is_record_shape dims ids then slab_len dims ids ty + padding_len (slab_len dims ids ty) else 0

-- Project: a slab has at most `slab_limit` bytes, and the padded slabs in a record up to this variable have at most `record_limit`; those
-- before it have `total` bytes.
abbrev pub is_within_limits : List Dim → ℕ → List ℕ → NcType → Bool
is_within_limits dims total ids ty = nat_le (slab_len dims ids ty) slab_limit && nat_le (total + record_bytes dims ids ty) record_limit

-- var = name nelems [dimid ...] vatt_list nc_type vsize begin  (begin = OFFSET)
-- Project: vsize may be any number. If a variable is too large, its type is the wrong field.
unfoldable pub var_part : Rules → Version → List Dim → ℕ → Part Var
var_part r v dims total = do
  name ← Name ∶ name_part r v is λ var. var.name
  dimids ← Shape ∶ shape_part v dims is λ var. var.dimids
  atts ← Atts ∶ att_list r v is λ var. var.atts
  ty ← TypeCode ∶ checked (is_within_limits dims total dimids) TooLarge (type_part r v) is λ var. var.ty
  vsize ← Vsize ∶ number (count_width v) is λ var. vsize_of v (padded_size dims var)
  begin ← Begin ∶ offset_part v is λ var. var.begin_at
  done (record { name = name; dimids = dimids; atts = atts; ty = ty; begin_at = begin })

-- the next one, after those in `before`
abbrev pub var_after : Rules → Version → List Dim → List Var → Part Var
var_after r v dims before = var_part r v dims (padded_total dims (record_vars dims before))

-- var_list = ABSENT | NC_VARIABLE nelems [var ...]
unfoldable pub var_list : Rules → Version → List Dim → Part (List Var)
var_list r v dims = list_part v variable_tag (var_after r v dims)

-- ---- the whole

-- the version with this byte
abbrev pub version_in : Bytes → Result Version FormatFault
version_in byte = ok_or (version_of_byte (slice_index byte 0)) (UnknownVersion (slice_index byte 0))

-- VERSION = \x01 | \x02 | \x05
unfoldable pub version_part : Part Version
version_part = decoded version_in (λ v. version_byte v ∷ []) (bytes 1 HeaderTruncated)

-- magic = 'C' 'D' 'F' VERSION
unfoldable pub magic_part : Part Version
magic_part = do
  letters ← Magic ∶ checked (λ letters. bytes_eq letters (codes "CDF")) NotNetcdf (bytes 3 NotNetcdf) is λ v. codes "CDF"
  VersionByte ∶ version_part

-- STREAMING, all of whose bits are 1, or a number of records
abbrev pub numrecs_in : Rules → Version → ℕ → Result NumRecs FormatFault
numrecs_in r v n = if n == streaming_mark v then Ok Streaming else (if nat_lt n (r.length_limit v) then Ok (Known n) else Err BadCount)

abbrev pub number_of_numrecs : Version → NumRecs → ℕ
number_of_numrecs v (Known n) = n
number_of_numrecs v Streaming = streaming_mark v

-- numrecs = NON_NEG | STREAMING
unfoldable pub numrecs_part : Rules → Version → Part NumRecs
numrecs_part r v = decoded (numrecs_in r v) (number_of_numrecs v) (number (count_width v))

-- header = magic numrecs dim_list gatt_list var_list
unfoldable pub header_by : Rules → Part Header
header_by r = do
  v ← magic_part is λ h. h.version
  numrecs ← Records ∶ numrecs_part r v is λ h. h.numrecs
  dims ← Dims ∶ dim_list r v is λ h. h.dims
  gatts ← Gatts ∶ att_list r v is λ h. h.gatts
  vars ← Vars ∶ var_list r v dims is λ h. h.vars
  done (record { version = v; numrecs = numrecs; dims = dims; gatts = gatts; vars = vars })

-- the header of a file whose values are read or written
abbrev pub header_part : Part Header
header_part = header_by strict

-- the bytes begin with a spelling of the header, and go on with the rest
abbrev pub SpellsHeader : Bytes → Header → Bytes → Type 0
SpellsHeader = Spells header_part

-- the one spelling in which a header is written
abbrev pub header_spelling : Header → Bytes
header_spelling = print header_part

-- the first wrong field of a header has this fault, and ends at this offset
pub record StopsAt (from : Bytes) (fault : FormatFault) (end : ℕ) : Type 0 where
  -- these steps lead to it, and it starts at this offset
  pub steps : List Step
  pub start : ℕ
  pub from_start : Bytes
  pub rest : Bytes
  pub stops : Stops header_part from steps from_start fault rest
  pub starts : start + length from_start ≡ length from
  pub ends : end + length rest ≡ length from
