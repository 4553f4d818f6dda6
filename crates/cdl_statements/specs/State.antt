-- Definition. The dataset so far, and what each statement makes of it. A fault is the first from the left.
use Rattle.std.specs.Prelude.{ℕ, ℤ, pos, neg_ℤ, Bool, true, false, List, [], ◌∷◌, ◌++◌, ◌+◌, ◌-◌, ◌^◌, ◌&&◌, ◌||◌, ◌==◌, not, nat_lt, nat_le, if◌then◌else◌, length, codes, map, replicate, find, Option, None, Some, is_some, Result, Ok, Err, ⊤, int_le, unsigned_abs}
use Rattle.std.specs.List.{list_any, position}
use Rattle.std.specs.Option.{ok_or}
use Rattle.std.specs.Ordering.{int_eq}
use Rattle.std.specs.Str.{bytes_eq}
use Rattle.nc_types.specs.Bytes.{Bytes}
use mir.Val.{bits, hbits}
use Rattle.nc_base.specs.declared.{header.Att.Att, header.Dim.Dim, header.Var.Var}
use Rattle.nc_types.specs.declared.{nc_type.NcType.NcType, version.Version.Version}
use Rattle.nc_types.specs.declared.nc_type.NcType.TheVariants.{Char, Int}
use Rattle.nc_base.specs.Fill.{fill_value}
use Rattle.nc_base.specs.Sizes.{has_record_dim, is_record_dim, is_record_var, slab_count}
use Rattle.nc_types.specs.Names.{is_name}
use Rattle.nc_base.specs.Numbers.{bytes_of_number}
use Rattle.nc_types.specs.Types.{all_types, code_of, type_word, width_of, is_signed}
use Rattle.nc_base.specs.ValueText.{row_len, is_char}
use Rattle.nc_types.specs.Versions.{count_limit, has_type}
use Rattle.cdl_statements.specs.Lexemes.{Lexeme, is_word}
use Rattle.cdl_statements.specs.Shapes.{Value, Number, Characters, Underscore, Dimension, Variable, Statement, Open, Enter, DeclareDimensions, DeclareVariables, Attribute, Listed, Close, End}
use Rattle.cdl_statements.specs.declared.{fault.CdlKind.CdlKind, section.Section.Section}
use Rattle.cdl_statements.specs.declared.fault.CdlKind.TheVariants.{BadName, DuplicateName, UnknownDimension, UnknownVariable, FloatingType, UnknownType, ZeroDimension, TwoRecordDims, BadShape, MixedConstants, NumberRange, WrongKind, TooManyValues, StringTooLong, DuplicateData}
use Rattle.cdl_statements.specs.declared.section.Section.TheVariants.{Globals, Closed, Ended}

-- a variable, and its values if the data section has listed them
pub record Draft : Type 0 where
  pub var : Var
  pub listed : Option (List ℤ)

pub record State : Type 0 where
  pub section : Section
  pub dims : List Dim
  pub gatts : List Att
  pub drafts : List Draft

infixl 10 ◌>>=◌
abbrev pub ◌>>=◌ : {A B F : Type 0} → Result A F → (A → Result B F) → Result B F
(Ok x) >>= f = f x
(Err e) >>= f = Err e

-- f with each of these in turn, up to the first fault
abbrev pub in_turn : {S A : Type 0} → (S → A → Result S CdlKind) → S → List A → Result S CdlKind
in_turn f s [] = Ok s
in_turn f s (x ∷ xs) = elim (f s x) [ Ok t ↦ in_turn f t xs | Err e ↦ Err e ]

abbrev pub unless : Bool → CdlKind → Result ⊤ CdlKind
unless true e = Ok tt
unless false e = Err e

abbrev pub when : Bool → CdlKind → Result ⊤ CdlKind
when true e = Err e
when false e = Ok tt

abbrev pub int_within : ℤ → ℤ → ℤ → Bool
int_within low high n = int_le low n && int_le n high

-- the type has the number
unfoldable pub has_number : NcType → ℤ → Bool
has_number ty n =
    if is_signed ty then int_within (neg_ℤ (pos (2 ^ hbits (width_of ty)))) (pos (2 ^ hbits (width_of ty) - 1)) n
    else int_within (pos 0) (pos (2 ^ bits (width_of ty) - 1)) n

abbrev pub same_type : NcType → NcType → Bool
same_type a b = code_of a == code_of b

-- ---- dimensions

-- the length in the header, where the record dimension (None) has 0
abbrev pub dim_len_of : Version → List Dim → Option ℤ → Result ℕ CdlKind
dim_len_of v dims None = do
  _ ← when (has_record_dim dims) TwoRecordDims
  Ok 0
dim_len_of v dims (Some n) = do
  _ ← when (int_eq n (pos 0)) ZeroDimension
  _ ← unless (int_within (pos 1) (pos (count_limit v - 1)) n) NumberRange
  Ok (unsigned_abs n)

unfoldable pub add_dim : Version → List Dim → Dimension → Result (List Dim) CdlKind
add_dim v dims d = do
  _ ← unless (is_name d.name) BadName
  _ ← when (list_any (λ (e : Dim). bytes_eq e.name d.name) dims) DuplicateName
  len ← dim_len_of v dims d.len
  Ok (dims ++ record { name = d.name; len = len } ∷ [])

-- ---- declarations

unfoldable pub type_of : Version → Lexeme → Result NcType CdlKind
type_of v word =
    if is_word (codes "float") word || is_word (codes "real") word || is_word (codes "double") word then Err FloatingType
    else if is_word (codes "long") word then Ok Int
    else ok_or (find (λ ty. has_type v ty && is_word (type_word ty) word) all_types) UnknownType

-- appends the id of a dimension; only the first may be the record dimension
unfoldable pub add_dimid : List Dim → List ℕ → Bytes → Result (List ℕ) CdlKind
add_dimid dims ids name = do
  _ ← unless (is_name name) BadName
  k ← ok_or (position (λ (d : Dim). bytes_eq d.name name) dims) UnknownDimension
  _ ← when (nat_lt 0 (length ids) && is_record_dim dims k) BadShape
  Ok (ids ++ k ∷ [])

-- appends a variable; its begin stays 0 (`GeneratedFile.with_begins` sets begins)
unfoldable pub add_var : List Dim → NcType → List Draft → Variable → Result (List Draft) CdlKind
add_var dims ty drafts declared = do
  _ ← unless (is_name declared.name) BadName
  _ ← when (list_any (λ (d : Draft). bytes_eq d.var.name declared.name) drafts) DuplicateName
  ids ← in_turn (add_dimid dims) [] declared.dimensions
  Ok (drafts ++ record { var = record { name = declared.name; dimids = ids; atts = []; ty = ty; begin_at = 0 }; listed = None } ∷ [])

-- the variables, with f applied to the one of this name
abbrev pub change_named : Bytes → (Draft → Result Draft CdlKind) → List Draft → Result (List Draft) CdlKind
change_named name f [] = Err UnknownVariable
change_named name f (d ∷ ds) =
    if bytes_eq d.var.name name then (do
      e ← f d
      Ok (e ∷ ds))
    else (do
      es ← change_named name f ds
      Ok (d ∷ es))

unfoldable pub change_variable : Bytes → (Draft → Result Draft CdlKind) → List Draft → Result (List Draft) CdlKind
change_variable name f ds = do
  _ ← unless (is_name name) BadName
  change_named name f ds

-- ---- attributes

-- the type of a constant (no constant of an attribute is `_`)
abbrev pub type_said : Value → NcType
type_said (Number n) = n.ty
type_said (Characters bytes) = Char
type_said Underscore = Char

abbrev pub add_constant : NcType → Bytes → Value → Result Bytes CdlKind
add_constant ty vals (Number n) = do
  _ ← unless (same_type n.ty ty) MixedConstants
  _ ← unless (has_number ty n.value) NumberRange
  Ok (vals ++ bytes_of_number ty n.value)
add_constant ty vals (Characters bytes) = do
  _ ← unless (same_type Char ty) MixedConstants
  Ok (vals ++ bytes)
add_constant ty vals Underscore = Err MixedConstants

-- the type of an attribute: that of its first constant, and it has one at least
abbrev pub first_type : List Value → NcType
first_type [] = Char
first_type (c ∷ cs) = type_said c

unfoldable pub add_att : Bytes → List Value → List Att → Result (List Att) CdlKind
add_att name cs atts = do
  _ ← unless (is_name name) BadName
  _ ← when (list_any (λ (a : Att). bytes_eq a.name name) atts) DuplicateName
  vals ← in_turn (add_constant (first_type cs)) [] cs
  Ok (atts ++ record { name = name; ty = first_type cs; vals = vals } ∷ [])

abbrev pub with_att : Bytes → List Value → Draft → Result Draft CdlKind
with_att name cs d = do
  atts ← add_att name cs d.var.atts
  Ok (record d { var = record d.var { atts = atts } })

-- ---- data

-- in which form a variable takes values
pub data Takes : Type 0 where
  -- numbers of a type; `_` stands for the fill value
  Numbers : (ty : NcType) (fill : ℤ) → Takes
  -- characters at rank 0 and 1: strings one after the other
  Joined : Takes
  -- characters at rank 2 and up: a string a row, which is filled up to the row's length
  Rows : (len : ℕ) (fill : ℤ) → Takes

unfoldable pub takes_of : List Dim → Var → Takes
takes_of dims var =
    if not (is_char var.ty) then Numbers var.ty (fill_value var)
    else if nat_lt (length var.dimids) 2 then Joined
    else Rows (row_len dims var.dimids 0) (fill_value var)

-- how many values a variable takes; None: any number, since it is a record variable
abbrev pub room_of : List Dim → Var → Option ℕ
room_of dims var = if is_record_var dims var then None else Some (slab_count dims var)

-- the room takes n values after these
abbrev pub has_room : Option ℕ → List ℤ → ℕ → Bool
has_room None before n = true
has_room (Some room) before n = nat_le (length before + n) room

-- the values, and fill values up to n in all
abbrev pub filled : ℕ → ℤ → List ℤ → List ℤ
filled n fill values = values ++ replicate (n - length values) fill

-- appends what a VALUE lists
abbrev pub add_value : Takes → Option ℕ → List ℤ → Value → Result (List ℤ) CdlKind
add_value (Numbers ty fill) room before Underscore = do
  _ ← unless (has_room room before 1) TooManyValues
  Ok (before ++ fill ∷ [])
add_value (Numbers ty fill) room before (Number n) = do
  _ ← unless (has_room room before 1) TooManyValues
  _ ← unless (has_number ty n.value) NumberRange
  Ok (before ++ n.value ∷ [])
add_value Joined room before (Characters bytes) = do
  _ ← unless (has_room room before (length bytes)) StringTooLong
  Ok (before ++ map pos bytes)
add_value (Rows len fill) room before (Characters bytes) = do
  _ ← unless (has_room room before len) TooManyValues
  _ ← unless (nat_le (length bytes) len) StringTooLong
  Ok (before ++ filled len fill (map pos bytes))
add_value takes room before value = Err WrongKind

-- the values that a statement lists of a variable
abbrev pub values_listed : List Dim → Var → List Value → Result (List ℤ) CdlKind
values_listed dims var values = in_turn (add_value (takes_of dims var) (room_of dims var)) [] values

abbrev pub with_values : List Dim → List Value → Draft → Result Draft CdlKind
with_values dims values d = do
  _ ← when (is_some d.listed) DuplicateData
  listed ← values_listed dims d.var values
  Ok (record d { listed = Some listed })

-- ---- statements

unfoldable pub act : Version → State → Statement → Result State CdlKind
act v s Open = Ok (record s { section = Globals })
act v s (Enter section) = Ok (record s { section = section })
act v s (DeclareDimensions ds) = do
  dims ← in_turn (add_dim v) s.dims ds
  Ok (record s { dims = dims })
act v s (DeclareVariables word vs) = do
  ty ← type_of v word
  drafts ← in_turn (add_var s.dims ty) s.drafts vs
  Ok (record s { drafts = drafts })
act v s (Attribute None name cs) = do
  atts ← add_att name cs s.gatts
  Ok (record s { gatts = atts })
act v s (Attribute (Some variable) name cs) = do
  drafts ← change_variable variable (with_att name cs) s.drafts
  Ok (record s { drafts = drafts })
act v s (Listed variable xs) = do
  drafts ← change_variable variable (with_values s.dims xs) s.drafts
  Ok (record s { drafts = drafts })
act v s Close = Ok (record s { section = Closed })
act v s End = Ok (record s { section = Ended })
