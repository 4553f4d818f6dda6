-- A header that bytes spell is sound, and its names are valid.
use Rattle.nc_base.proofs.Prelude.{◌≡◌, ℕ, zero, suc, ◌+◌, ◌<◌, ◌≤◌, Bool, true, false, List, [], ◌∷◌, ◌++◌, length, Option, Some, None, Result, Ok, Err, refl, sym, ap, subst, ◌∙◌, append_assoc, append-nil, arith, not, ◌==◌, ◌&&◌, ◌||◌, if◌then◌else◌, ok_or, All, IsTrue, filter, cond, All-nil, All-cons, ltb-true, IsName, IsSoundAtt, IsSoundVar, IsSoundDim, IsSoundNumRecs, IsSound, HasValidNames, AreDimids, IsDimid, count_limit, offset_limit, has_type, has_record_dim, filter-append, length-append, padded_total, record_vars, record_limit, record_size_of, is_narrow, slab_size, padding_len, slab_limit, leb-true, eqb-true, Part, Spells, dimension_tag, attribute_tag, variable_tag, is_dimid, is_within_limits, count_part, limited_part, offset_part, name_part, known_type, type_part, each, counted, list_head, list_part, dim_part, dim_after, dim_list, att_part, att_after, att_list, dimid_part, dimid_after, shape_part, var_part, var_after, var_list, numrecs_in, numrecs_part, header_part, strict, header_by, Bytes, FormatFault, Att, Dim, Var, Header, NumRecs, NcType, Version, BadType, FloatingType, BadCount, Known, Streaming}
use Rattle.nc_base.specs.Grammar.{Rules}
use Rattle.nc_base.proofs.Printable.{total-append, one-total}
use Rattle.nc_base.proofs.Tests.{and_parts}

-- a test that was passed
pub passed : {A : Type 0} (b : Bool) (x y : A) (wrong : FormatFault) → ◌≡◌ {A = Result A FormatFault} (if b then Ok x else Err wrong) (Ok y) → (b ≡ true) × (x ≡ y)
passed true x y wrong e = (refl, cc)
passed false x y wrong e = absurd cc

count-below : (v : Version) (from : Bytes) (n : ℕ) (rest : Bytes) → Spells (count_part v) from n rest → n < count_limit v
unfolding Spells limited_part
count-below v from n rest (m, s, e) = let p = passed _ m n _ e in subst (λ k. k < count_limit v) p.1 (ltb-true _ _ p.0)

offset-below : (v : Version) (from : Bytes) (n : ℕ) (rest : Bytes) → Spells (offset_part v) from n rest → n < offset_limit v
unfolding Spells offset_part
offset-below v from n rest (m, s, e) = let p = passed _ m n _ e in subst (λ k. k < offset_limit v) p.1 (ltb-true _ _ p.0)

-- a name that was spelled
pub record IsSoundName (v : Version) (text : Bytes) : Type 0 where
  pub len : length text < count_limit v
  pub valid : IsName text

name-sound : (v : Version) (from text rest : Bytes) → Spells (name_part strict v) from text rest → IsSoundName v text
unfolding Spells name_part
name-sound v from text rest (n, m, c, (t, m2, (x, (len, is), e), (u, m3, any, (same, all)))) =
    grind (arith, passed, count-below)

has-type : (v : Version) (o : Option NcType) (ty : NcType) → ok_or (known_type v o) BadType ≡ Ok ty → IsTrue (has_type v ty)
has-type v None ty e = absurd cc
has-type v (Some t) ty e = by-test (has_type v t) refl e
  where
    by-test : (b : Bool) → has_type v t ≡ b → ok_or (if b then Some t else None) BadType ≡ Ok ty → IsTrue (has_type v ty)
    by-test true h e = let same : t ≡ ty = cc in subst (λ x. IsTrue (has_type v x)) same h
    by-test false h e = absurd cc

not-floating : (b : Bool) (r : Result NcType FormatFault) (ty : NcType) → (if b then Err FloatingType else r) ≡ Ok ty → r ≡ Ok ty
not-floating true r ty e = absurd cc
not-floating false r ty e = e

type-sound : (v : Version) (from : Bytes) (ty : NcType) (rest : Bytes) → Spells (type_part strict v) from ty rest → IsTrue (has_type v ty)
unfolding Spells type_part
type-sound v from ty rest (code, s, e) = has-type v _ ty (not-floating _ _ ty e)

-- ---- lists

-- these elements, one after the other, after those before
abbrev pub SpellsEach : {A : Type 0} → (List A → Part A) → List A → Bytes → List A → Bytes → Type 0
SpellsEach element before from [] rest = Unit {0}
SpellsEach {A = A} element before from (x ∷ xs) rest = (middle : Bytes) × Spells (element before) from x middle × SpellsEach element (before ++ x ∷ []) middle xs rest

pub record Elements {A : Type 0} (element : List A → Part A) (n : ℕ) (before : List A) (from : Bytes) (all : List A) (rest : Bytes) : Type 0 where
  pub xs : List A
  pub joined : all ≡ before ++ xs
  pub count : length xs ≡ n
  pub each : SpellsEach element before from xs rest

each-elements : {A : Type 0} (element : List A → Part A) (n : ℕ) (before : List A) (from : Bytes) (all : List A) (rest : Bytes) → Spells (each element n before) from all rest → Elements element n before from all rest
unfolding Spells each
each-elements element zero before from all rest s = record { xs = []; joined = s.0 ∙ sym (append-nil before); count = refl; each = tt }
each-elements element (suc n) before from all rest (x, middle, s, t) =
    grind (arith, append_assoc, each-elements element n (before ++ x ∷ []) middle all rest t)

-- what a list that was spelled has: its elements, and a number of them that the version can count
pub record Listed {A : Type 0} (v : Version) (element : List A → Part A) (xs : List A) (rest : Bytes) : Type 0 where
  pub count : length xs < count_limit v
  pub start : Bytes
  pub each : SpellsEach element [] start xs rest

pub list-elements : {A : Type 0} (v : Version) (tag : ℕ) (element : List A → Part A) (from : Bytes) (xs : List A) (rest : Bytes) → Spells (list_part v tag element) from xs rest → Listed v element xs rest
unfolding Spells list_part list_head
list-elements {A = A} v tag element from xs rest (n, m, (found, m0, tagged, (k, c, e)), t) =
    let es = each-elements element n [] m xs rest t in
    let p = passed _ k n _ e in
    record { count = subst (λ k. k < count_limit v) (p.1 ∙ sym es.count ∙ ap length (sym es.joined)) (count-below v m0 k m c); start = m; each = subst (λ ys. SpellsEach element [] m ys rest) (sym es.joined) es.each }

-- what each spelling of an element gives
pub all-each : {A : Type 0} (element : List A → Part A) (P : A → Type 0) → ((before : List A) (from : Bytes) (x : A) (rest : Bytes) → Spells (element before) from x rest → P x)
    → (xs before : List A) (from rest : Bytes) → SpellsEach element before from xs rest → All P xs
all-each element P gives [] before from rest s = All-nil P
all-each element P gives (x ∷ xs) before from rest s = All-cons P x xs (gives before from x s.0 s.1) (all-each element P gives xs (before ++ x ∷ []) s.0 rest s.2)

-- ---- attributes and dimensions

att-sound : (v : Version) (from : Bytes) (a : Att) (rest : Bytes) → Spells (att_part strict v) from a rest → IsSoundAtt v a × IsName a.name
unfolding Spells att_part
att-sound v from a rest (text, m, s, (ty, m2, t, (n, m3, c, (vals, m4, (len, is), (u, m5, any, (whole, end)))))) =
    let named = name-sound v from text m s in
    subst (λ a. IsSoundAtt v a × IsName a.name) (sym whole)
    (record { name_len = named.len; ty = type-sound v m ty m2 t; values = record { count = n; counted = count-below v m2 n m3 c; whole = len } }, named.valid)

dim-sound : (v : Version) (before : List Dim) (from : Bytes) (d : Dim) (rest : Bytes) → Spells (dim_after strict v before) from d rest → IsSoundDim v d × IsName d.name × (not (has_record_dim before && (d.len == 0)) ≡ true)
unfolding Spells dim_part
dim-sound v before from d rest (text, m, s, (len, m2, (k, c, e), (whole, end))) =
    grind (arith, passed, count-below, name-sound)

-- the record dimensions among these
abbrev record_dims : List Dim → List Dim
record_dims dims = filter (λ (dim : Dim). dim.len == 0) dims

none-filtered : (b : Bool) (dim : Dim) (dims : List Dim) → (b || has_record_dim dims) ≡ false → (has_record_dim dims ≡ false → length (record_dims dims) ≡ 0)
    → length (cond b (dim ∷ record_dims dims) (record_dims dims)) ≡ 0
none-filtered b dim dims h h2 = grind arith

no-record_dims : (dims : List Dim) → has_record_dim dims ≡ false → length (record_dims dims) ≡ 0
no-record_dims [] e = refl
no-record_dims (dim ∷ dims) e = none-filtered (dim.len == 0) dim dims e (no-record_dims dims)

one-more : (b : Bool) (before : List Dim) (dim : Dim) → (b ≡ true → length (record_dims before) ≡ 0) → length (record_dims before) ≤ 1
    → length (record_dims before ++ cond b (dim ∷ []) []) ≤ 1
one-more b before dim h h2 = grind (arith, length-append)

only-one : (has b : Bool) → not (has && b) ≡ true → b ≡ true → has ≡ false
only-one has b h e = grind arith

dims-one : (v : Version) (dims before : List Dim) (from rest : Bytes) → SpellsEach (dim_after strict v) before from dims rest
    → length (record_dims before) ≤ 1 → length (record_dims (before ++ dims)) ≤ 1
dims-one v [] before from rest s one = subst (λ (ds : List Dim). length (record_dims ds) ≤ 1) (sym (append-nil before)) one
dims-one v (dim ∷ dims) before from rest s one =
    grind (arith, append_assoc, filter-append, dim-sound, no-record_dims, one-more, only-one, dims-one v dims (before ++ dim ∷ []) s.0 rest s.2)

-- ---- variables

length-none : {A : Type 0} (xs : List A) → (length xs == 0) ≡ true → xs ≡ []
length-none [] e = refl
length-none (x ∷ xs) e = let none : length (x ∷ xs) ≡ 0 = eqb-true _ _ e in absurd (omega arith)

is-dimid : (dims : List Dim) (before : List ℕ) (id : ℕ) → is_dimid dims (length before == 0) id ≡ true → IsDimid dims before id
is-dimid dims before id e = grind (arith, length-none)

dimid-sound : (v : Version) (dims : List Dim) (before : List ℕ) (from : Bytes) (id : ℕ) (rest : Bytes) → Spells (dimid_after v dims before) from id rest → IsDimid dims before id
unfolding Spells dimid_part
dimid-sound v dims before from id rest (k, s, e) = let p = passed _ k id _ e in is-dimid dims before id (subst (λ k. is_dimid dims (length before == 0) k ≡ true) p.1 p.0)

shape-known : (v : Version) (dims : List Dim) (ids before : List ℕ) (from rest : Bytes) → SpellsEach (dimid_after v dims) before from ids rest → AreDimids dims before ids
shape-known v dims [] before from rest s = tt
shape-known v dims (id ∷ ids) before from rest s = (dimid-sound v dims before from id s.0 s.1, shape-known v dims ids (before ++ id ∷ []) s.0 rest s.2)

-- a shape that was spelled
pub record IsSoundShape (v : Version) (dims : List Dim) (ids : List ℕ) : Type 0 where
  pub rank : length ids < count_limit v
  pub known : AreDimids dims [] ids

shape-sound : (v : Version) (dims : List Dim) (from : Bytes) (ids : List ℕ) (rest : Bytes) → Spells (shape_part v dims) from ids rest → IsSoundShape v dims ids
unfolding Spells shape_part counted
shape-sound v dims from ids rest (n, m, c, t) =
    let es = each-elements (dimid_after v dims) n [] m ids rest t in
    record {
      rank = subst (λ k. k < count_limit v) (sym es.count ∙ ap length (sym es.joined)) (count-below v from n m c);
      known = subst (AreDimids dims []) (sym es.joined) (shape-known v dims es.xs [] m rest es.each);
    }

-- attributes that were spelled
pub record AreSoundAtts (v : Version) (atts : List Att) : Type 0 where
  pub count : length atts < count_limit v
  pub sound : All (IsSoundAtt v) atts
  pub names : All (λ (att : Att). IsName att.name) atts

atts-sound : (v : Version) (from : Bytes) (atts : List Att) (rest : Bytes) → Spells (att_list strict v) from atts rest → AreSoundAtts v atts
unfolding att_list
atts-sound v from atts rest s =
    let es = list-elements v attribute_tag (att_after strict v) from atts rest s in
    record {
      count = es.count;
      sound = all-each (att_after strict v) (IsSoundAtt v) (λ before from a rest s. (att-sound v from a rest s).0) atts [] es.start rest es.each;
      names = all-each (att_after strict v) (λ (att : Att). IsName att.name) (λ before from a rest s. (att-sound v from a rest s).1) atts [] es.start rest es.each;
    }

-- this variable has a sound shape, and keeps the limits after those before it
pub record IsWithinLimits (v : Version) (dims : List Dim) (before : List Var) (var : Var) : Type 0 where
  pub shape : IsSoundShape v dims var.dimids
  pub slab : slab_size dims var ≤ slab_limit
  pub record_bytes : padded_total dims (record_vars dims (before ++ var ∷ [])) ≤ record_limit
  pub begin : var.begin_at < offset_limit v

is-within : (v : Version) (dims : List Dim) (before : List Var) (var : Var) → IsSoundShape v dims var.dimids → var.begin_at < offset_limit v
    → is_within_limits dims (padded_total dims (record_vars dims before)) var.dimids var.ty ≡ true → IsWithinLimits v dims before var
is-within v dims before var shape begin e =
    grind (arith, leb-true, one-total, total-append, and_parts)

-- whatever rules it was spelled by
pub var-within : (r : Rules) (v : Version) (dims : List Dim) (before : List Var) (from : Bytes) (x : Var) (rest : Bytes) → Spells (var_after r v dims before) from x rest → IsWithinLimits v dims before x
unfolding Spells var_part
var-within r v dims before from x rest (text, m, s, (ids, m2, sh, (atts, m3, a, (ty, m4, (t, ts, e), (vsize, m5, vs, (begin, m6, b, (whole, end))))))) =
    let p = passed _ t ty _ e in
    subst (IsWithinLimits v dims before) (sym whole)
    (is-within v dims before (record { name = text; dimids = ids; atts = atts; ty = ty; begin_at = begin })
    (shape-sound v dims m ids m2 sh) (offset-below v m5 begin m6 b)
    (subst (λ k. is_within_limits dims (padded_total dims (record_vars dims before)) ids k ≡ true) p.1 p.0))

abbrev HasNames : Var → Type 0
HasNames var = IsName var.name × All (λ (att : Att). IsName att.name) var.atts

abbrev SoundVar : Version → List Dim → Var → Type 0
SoundVar v dims x = IsSoundVar v dims x × HasNames x

var-parts : (v : Version) (dims : List Dim) (before : List Var) (from : Bytes) (x : Var) (rest : Bytes) → IsWithinLimits v dims before x → Spells (var_after strict v dims before) from x rest → SoundVar v dims x
unfolding Spells var_part
var-parts v dims before from x rest limits (text, m, s, (ids, m2, sh, (atts, m3, a, (ty, m4, (t, ts, e), (vsize, m5, vs, (begin, m6, b, (whole, end))))))) =
    let named = name-sound v from text m s in
    let listed = atts-sound v m2 atts m3 a in
    let p = passed _ t ty _ e in
    let within = subst (IsWithinLimits v dims before) whole limits in
    subst (SoundVar v dims) (sym whole) (
      record { name_len = named.len; rank = within.shape.rank; shape = within.shape.known; att_count = listed.count; atts = listed.sound; ty = subst (λ k. IsTrue (has_type v k)) p.1 (type-sound v m3 t m4 ts); slab = within.slab },
      (named.valid, listed.names),
    )

var-sound : (v : Version) (dims : List Dim) (before : List Var) (from : Bytes) (x : Var) (rest : Bytes) → Spells (var_after strict v dims before) from x rest → SoundVar v dims x
var-sound v dims before from x rest s = var-parts v dims before from x rest (var-within strict v dims before from x rest s) s

-- ---- the record size

pub vars-small : (r : Rules) (v : Version) (dims : List Dim) (vars before : List Var) (from rest : Bytes) → SpellsEach (var_after r v dims) before from vars rest
    → padded_total dims (record_vars dims before) ≤ record_limit → padded_total dims (record_vars dims (before ++ vars)) ≤ record_limit
vars-small r v dims [] before from rest s small = subst (λ (vs : List Var). padded_total dims (record_vars dims vs) ≤ record_limit) (sym (append-nil before)) small
vars-small r v dims (x ∷ vars) before from rest s small =
    subst (λ vs. padded_total dims (record_vars dims vs) ≤ record_limit) (append_assoc before (x ∷ []) vars)
    (vars-small r v dims vars (before ++ x ∷ []) s.0 rest s.2 (var-within r v dims before from x s.0 s.1).record_bytes)

one-record_size_of : (narrow : Bool) (slab padding : ℕ) → cond narrow slab (slab + padding) ≤ slab + padding
one-record_size_of narrow slab padding = grind arith

record_size_of-le-padded : (dims : List Dim) (vars : List Var) → record_size_of dims vars ≤ padded_total dims vars
record_size_of-le-padded dims (var ∷ []) = omega (arith, one-record_size_of (is_narrow var) (slab_size dims var) (padding_len (slab_size dims var)))
record_size_of-le-padded dims _ = omega arith

-- ---- the whole

known-below : (b c : Bool) (k m : ℕ) → (if b then Ok Streaming else (if c then Ok (Known k) else Err BadCount)) ≡ Ok (Known m) → (c ≡ true) × (k ≡ m)
known-below b c k m e = grind arith

numrecs-in : (v : Version) (k : ℕ) (n : NumRecs) → numrecs_in strict v k ≡ Ok n → IsSoundNumRecs v n
numrecs-in v k (Known m) e = let p = known-below _ _ k m e in subst (λ k. k < count_limit v) p.1 (ltb-true _ _ p.0)
numrecs-in v k Streaming e = tt

numrecs-sound : (v : Version) (from : Bytes) (n : NumRecs) (rest : Bytes) → Spells (numrecs_part strict v) from n rest → IsSoundNumRecs v n
unfolding Spells numrecs_part
numrecs-sound v from n rest (k, s, e) = numrecs-in v k n e

-- what was spelled is sound, its names are valid, and its begins fit their fields
pub record IsSoundAndNamed (h : Header) : Type 0 where
  pub sound : IsSound h
  pub names : HasValidNames h
  pub begins : All (λ (var : Var). var.begin_at < offset_limit h.version) h.vars

pub spelled-sound : (from : Bytes) (h : Header) (rest : Bytes) → Spells header_part from h rest → IsSoundAndNamed h
unfolding Spells header_by dim_list var_list
spelled-sound from h rest (v, m, s, (n, m2, ns, (dims, m3, d, (gatts, m4, g, (vars, m5, vs, (whole, end)))))) =
    let ds = list-elements v dimension_tag (dim_after strict v) m2 dims m3 d in
    let listed = atts-sound v m3 gatts m4 g in
    let xs = list-elements v variable_tag (var_after strict v dims) m4 vars m5 vs in
    let records = vars-small strict v dims vars [] xs.start m5 xs.each (omega arith) in
    let packed = record_size_of-le-padded dims (record_vars dims vars) in
    subst IsSoundAndNamed (sym whole)
    (record {
      sound = record {
        numrecs = numrecs-sound v m n m2 ns;
        dim_count = ds.count;
        dims = all-each (dim_after strict v) (IsSoundDim v) (λ before from x rest s. (dim-sound v before from x rest s).0) dims [] ds.start m3 ds.each;
        one_record_dim = dims-one v dims [] ds.start m3 ds.each (omega arith);
        gatt_count = listed.count;
        gatts = listed.sound;
        var_count = xs.count;
        vars = all-each (var_after strict v dims) (IsSoundVar v dims) (λ before from x rest s. (var-sound v dims before from x rest s).0) vars [] xs.start m5 xs.each;
        small_records = omega (arith, packed, records);
      };
      names = record {
        dims = all-each (dim_after strict v) (λ (dim : Dim). IsName dim.name) (λ before from x rest s. (dim-sound v before from x rest s).1) dims [] ds.start m3 ds.each;
        gatts = listed.names;
        vars = all-each (var_after strict v dims) HasNames (λ before from x rest s. (var-sound v dims before from x rest s).1) vars [] xs.start m5 xs.each;
      };
      begins = all-each (var_after strict v dims) (λ (var : Var). var.begin_at < offset_limit v) (λ before from x rest s. (var-within strict v dims before from x rest s).begin) vars [] xs.start m5 xs.each;
    })
