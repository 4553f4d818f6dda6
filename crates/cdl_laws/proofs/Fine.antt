-- What holds of the dataset so far: of its names, of its types, of the lengths of its dimensions, and of the values of its attributes.
use Rattle.cdl_laws.proofs.Prelude.{false≢true, bytes_eq-Decides, ◌≡◌, ◌<◌, ℕ, false, List, [], ◌∷◌, ◌++◌, length, map, sym, ◌∙◌, subst, arith, refl, Result, map-append, list_any-append, list_any, bytes_eq, length-append, Att, Dim, NcType, Version, has_name, IsName, is_char, AreDistinct, Value, Number, Characters, Underscore, Dimension, Variable, Draft, in_turn, add_dim, add_var, change_named, change_variable, add_constant, first_type, add_att, CdlKind, Each, IsByte, OkIs, any_each, each_more, number_bytes, ok_next, ok_then, ok_unless, ok_when, or_left, or_right, some_size, turns, ◌≤◌, ◌%◌, ◌==◌, true, filter, Option, None, Some, ℤ, size_of, bytes_of_number, ap, ◌+◌, Char, has_record_dim, count_limit, filter-append}
use Rattle.std.proofs.Math.Nat.{add-mod_right, zero-mod}
use Rattle.nc_base.proofs.FilePlaces.{length-number}
use Rattle.cdl_statements.specs.State.{dim_len_of, same_type}
use Rattle.cdl_laws.proofs.Said.{HasType, IsFineValue}
use Rattle.cdl_laws.proofs.Sayables.{any_map, att_name, dim_name, draft_name, is_record}

-- ---- names

distinct_more : (names : List (List ℕ)) (n : List ℕ) → AreDistinct names → has_name names n ≡ false → AreDistinct (names ++ n ∷ [])
distinct_more [] n d new = (refl, tt)
distinct_more (m ∷ names) n d new = grind (arith, list_any-append, false≢true, bytes_eq-Decides, or_left, or_right, distinct_more names n d.1)

-- a thing more, of a name that none has
named_more : {X : Type 0} (name : X → List ℕ) (xs : List X) (x : X) → AreDistinct (map name xs) → list_any (λ y. bytes_eq (name y) (name x)) xs ≡ false → AreDistinct (map name (xs ++ x ∷ []))
named_more name xs x d new =
    subst AreDistinct (sym (map-append name xs (x ∷ []))) (distinct_more (map name xs) (name x) d (sym (any_map name (name x) xs) ∙ new))

-- things of which each is fine, and no two have the same name
pub record AreFine {X : Type 0} (P : X → Type 0) (name : X → List ℕ) (xs : List X) : Type 0 where
  pub fine : Each P xs
  pub names : AreDistinct (map name xs)

-- ---- attributes

pub record IsFineAtt (v : Version) (att : Att) : Type 0 where
  pub name : IsName att.name
  pub ty : HasType v att.ty
  pub bytes : Each IsByte att.vals
  pub some : is_char att.ty ≡ false → 0 < length att.vals
  pub whole : length att.vals % size_of att.ty ≡ 0

-- the values after one constant or more
record ArePart (ty : NcType) (vals : List ℕ) : Type 0 where
  bytes : Each IsByte vals
  some : is_char ty ≡ false → 0 < length vals
  whole : length vals % size_of ty ≡ 0

number_more : (ty : NcType) (vals : List ℕ) (x : ℤ) → length vals % size_of ty ≡ 0 → length (vals ++ bytes_of_number ty x) % size_of ty ≡ 0
number_more ty vals x whole =
    ap (λ n. n % size_of ty) (length-append vals (bytes_of_number ty x) ∙ ap (λ n. length vals + n) (length-number ty x)) ∙ add-mod_right (length vals) (size_of ty) ∙ whole

-- any number of bytes are whole characters
chars_whole : (ty : NcType) (vals : List ℕ) → same_type Char ty ≡ true → length vals % size_of ty ≡ 0
chars_whole Char vals same = omega arith
chars_whole ty vals same = absurd (false≢true same)

constant_step : (v : Version) (ty : NcType) (vals : List ℕ) (x : Value) → Each IsByte vals → length vals % size_of ty ≡ 0 → IsFineValue v x → OkIs (ArePart ty) (add_constant ty vals x)
constant_step v ty vals Underscore bytes whole fine = tt
constant_step v ty vals (Number n) bytes whole fine = grind (arith, ok_unless, each_more, number_bytes, length-append, length-number ty n.value, some_size ty, number_more ty vals n.value whole)
constant_step v ty vals (Characters more) bytes whole fine = grind (arith, ok_unless, each_more, chars_whole ty (vals ++ more))

-- an attribute of numbers has a first one
constants_part : (v : Version) (cs : List Value) → Each (IsFineValue v) cs → OkIs (ArePart (first_type cs)) (in_turn (add_constant (first_type cs)) [] cs)
constants_part v [] fine = record { bytes = tt; some = λ e. cc; whole = refl }
constants_part v (c ∷ cs) fine =
    let ty = first_type (c ∷ cs) in
    grind (arith, constant_step v ty [] c tt (zero-mod (size_of ty)) fine.0, (λ (vals : List ℕ) (part : ArePart ty vals). turns (add_constant ty) (ArePart ty) (IsFineValue v) (λ before x is. constant_step v ty before x is.bytes is.whole) vals cs part fine.1))

char_type : (v : Version) → HasType v Char
char_type v = grind arith

constants_type : (v : Version) (cs : List Value) → Each (IsFineValue v) cs → HasType v (first_type cs)
constants_type v [] fine = char_type v
constants_type v (Number n ∷ cs) fine = fine.0
constants_type v (c ∷ cs) fine = char_type v

pub att_keeps : (v : Version) (name : List ℕ) (cs : List Value) (atts : List Att) → Each (IsFineValue v) cs → AreFine (IsFineAtt v) att_name atts → OkIs (AreFine (IsFineAtt v) att_name) (add_att name cs atts)
unfolding add_att
att_keeps v name cs atts said fine =
    grind (arith, constants_part v cs said, constants_type v cs said, ok_unless, ok_when, ok_then, each_more, named_more att_name atts)

-- ---- dimensions

pub record IsFineDim (v : Version) (d : Dim) : Type 0 where
  pub name : IsName d.name
  pub len : d.len < count_limit v

-- at most one of them is the record dimension
pub record AreFineDims (v : Version) (dims : List Dim) : Type 0 where
  pub each : AreFine (IsFineDim v) dim_name dims
  pub one_record : length (filter is_record dims) ≤ 1

no_record : (dims : List Dim) → has_record_dim dims ≡ false → filter is_record dims ≡ []
no_record [] h = refl
no_record (d ∷ dims) h = grind (arith, or_left, or_right, no_record dims)

-- a dimension of this length may come after these
record IsNewLen (v : Version) (dims : List Dim) (len : ℕ) : Type 0 where
  small : len < count_limit v
  once : (len == 0) ≡ true → has_record_dim dims ≡ false

len_new : (v : Version) (dims : List Dim) (len : Option ℤ) → OkIs (IsNewLen v dims) (dim_len_of v dims len)
len_new v dims None = grind (arith, ok_when)
len_new v dims (Some n) = grind (arith, ok_when, ok_unless)

record_more : (v : Version) (dims : List Dim) (d : Dim) → length (filter is_record dims) ≤ 1 → IsNewLen v dims d.len → length (filter is_record (dims ++ d ∷ [])) ≤ 1
record_more v dims d few new = grind (arith, filter-append is_record dims (d ∷ []), length-append, no_record dims)

dim_keeps : (v : Version) (dims : List Dim) (d : Dimension) → AreFineDims v dims → OkIs (AreFineDims v) (add_dim v dims d)
unfolding add_dim
dim_keeps v dims d fine = grind (arith, named_more dim_name dims, ok_unless, ok_when, ok_then, len_new v dims d.len, each_more, record_more v dims)

pub dims_keep : (v : Version) (dims : List Dim) (ds : List Dimension) → AreFineDims v dims → OkIs (AreFineDims v) (in_turn (add_dim v) dims ds)
dims_keep v dims ds fine = turns (add_dim v) (AreFineDims v) (λ d. Unit {0}) (λ all d f u. dim_keeps v all d f) dims ds fine (any_each ds)

-- ---- variables

pub record IsFineDraft (v : Version) (d : Draft) : Type 0 where
  pub name : IsName d.var.name
  pub ty : HasType v d.var.ty
  pub atts : AreFine (IsFineAtt v) att_name d.var.atts
  pub bare : d.var.begin_at ≡ 0

pub vars_keep : (v : Version) (dims : List Dim) (ty : NcType) (drafts : List Draft) (xs : List Variable) → HasType v ty → AreFine (IsFineDraft v) draft_name drafts → OkIs (AreFine (IsFineDraft v) draft_name) (in_turn (add_var dims ty) drafts xs)
unfolding add_var
vars_keep v dims ty drafts xs known fine =
    turns (add_var dims ty) (AreFine (IsFineDraft v) draft_name) (λ x. Unit {0}) (λ all x f u. grind (arith, named_more draft_name all, ok_unless, ok_when, ok_next, each_more)) drafts xs fine (any_each xs)

-- ---- the variable of a name

abbrev Renewed : (Draft → Type 0) → Draft → Draft → Type 0
Renewed P d e = P e × (e.var.name ≡ d.var.name)

record AreRenewed (P : Draft → Type 0) (ds es : List Draft) : Type 0 where
  fine : Each P es
  names : map draft_name es ≡ map draft_name ds

named_keeps : (P : Draft → Type 0) (name : List ℕ) (f : Draft → Result Draft CdlKind) → ((d : Draft) → P d → OkIs (Renewed P d) (f d)) → (ds : List Draft) → Each P ds → OkIs (AreRenewed P ds) (change_named name f ds)
named_keeps P name f step [] h = tt
named_keeps P name f step (d ∷ ds) h = grind (arith, ok_then, step d h.0, named_keeps P name f step ds h.1)

-- a fine draft stays fine, under its name
abbrev pub KeepsFine : Version → (Draft → Result Draft CdlKind) → Type 0
KeepsFine v f = (d : Draft) → IsFineDraft v d → OkIs (Renewed (IsFineDraft v) d) (f d)

pub at_keeps : (v : Version) (name : List ℕ) (f : Draft → Result Draft CdlKind) → KeepsFine v f → (ds : List Draft) → AreFine (IsFineDraft v) draft_name ds → OkIs (AreFine (IsFineDraft v) draft_name) (change_variable name f ds)
unfolding change_variable
at_keeps v name f step ds fine = grind (arith, named_keeps (IsFineDraft v) name f step ds fine.fine, ok_unless)
