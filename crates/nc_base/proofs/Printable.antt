-- A sound header with valid names, whose begins fit, can be written.
use Rattle.nc_base.proofs.Prelude.{◌≡◌, ◌≢◌, ℕ, zero, suc, ◌*◌, ◌/◌, ◌^◌, ◌<◌, ◌≤◌, Bool, true, false, List, [], ◌∷◌, ◌++◌, length, Some, Ok, Err, refl, sym, ap, subst, ◌∙◌, append_assoc, append-nil, arith, not, ◌==◌, ◌&&◌, ◌||◌, if◌then◌else◌, rules, eq-eqb, eqb-true, IsTrue, All, filter, codes, cond, length-append, ◌+◌, ltb-true, filter-append, All-head, All-tail, sum-map, sum_by-append, record_size_of, record_limit, version_byte, IsName, IsDimid, AreDimids, IsSoundAtt, IsSoundVar, IsSoundDim, IsSoundNumRecs, IsSound, HasValidNames, count_width, offset_width, count_limit, offset_limit, streaming_mark, has_type, code_of, size_of, padding_len, padded_size, padded_total, record_vars, has_record_dim, not_none, and_both, All-filter, All-weaker, is_record_var, slab_size, slab_limit, mul-div_cancel, lt-ltb, le-leb, Part, dimension_tag, variable_tag, attribute_tag, vsize_of, numrecs_in, version_in, number, count_part, limited_part, offset_part, ignored, name_part, type_in, type_part, each, counted, list_head, list_part, dim_part, dim_after, dim_list, att_part, att_after, att_list, is_dimid, dimid_part, dimid_after, shape_part, record_bytes, is_within_limits, var_part, var_after, var_list, version_part, magic_part, numrecs_part, header_part, strict, header_by, Bytes, IsPrintable, drop-append_seam, be_bytes_4, be_bytes_8, from_be_bytes-to_be_bytes_4, from_be_bytes-to_be_bytes_8, FormatFault, Att, Dim, Var, Header, NumRecs, NcType, Version, BadCount, BadOffset, BadName, BadTag, TwoRecordDims, BadShape, TooLarge, Known, Streaming, length-replicate, Width, w32, w64, byte_len, to_be_bytes, from_be_bytes}
use Rattle.nc_base.proofs.SoundLaws.{some_size}

-- ---- what a sound header's lists keep, at each place

-- what holds of each element holds of one
pub at-split : {A : Type 0} (P : A → Type 0) (all prefix : List A) (x : A) (back : List A) → all ≡ prefix ++ x ∷ back → All P all → P x
at-split {A = A} P all prefix x back is holds = following prefix (subst (All P) is holds)
  where
    following : (ys : List A) → All P (ys ++ x ∷ back) → P x
    following [] h = All-head P x back h
    following (y ∷ ys) h = following ys (All-tail P y (ys ++ x ∷ back) h)

pub total-append : (dims : List Dim) (xs ys : List Var) → padded_total dims (record_vars dims (xs ++ ys)) ≡ padded_total dims (record_vars dims xs) + padded_total dims (record_vars dims ys)
total-append dims xs ys = grind (arith, filter-append, sum-map, sum_by-append)

none-here : (b : Bool) (dim : Dim) (dims : List Dim) → (length (filter (λ (d : Dim). d.len == 0) dims) ≡ 0 → has_record_dim dims ≡ false)
    → length (cond b (dim ∷ filter (λ (d : Dim). d.len == 0) dims) (filter (λ (d : Dim). d.len == 0) dims)) ≡ 0 → (b || has_record_dim dims) ≡ false
none-here b dim dims h h2 = grind arith

filtered-none : (dims : List Dim) → length (filter (λ (dim : Dim). dim.len == 0) dims) ≡ 0 → has_record_dim dims ≡ false
filtered-none [] e = refl
filtered-none (dim ∷ dims) e = none-here (dim.len == 0) dim dims (filtered-none dims) e

-- no record dimension stands before one, where there is one at most
pub first-record-dim : (all prefix : List Dim) (dim : Dim) (back : List Dim) → all ≡ prefix ++ dim ∷ back → length (filter (λ (d : Dim). d.len == 0) all) ≤ 1
    → dim.len ≡ 0 → has_record_dim prefix ≡ false
first-record-dim all prefix dim back is one none = grind (arith, filter-append, length-append, eq-eqb, filtered-none)

pub shape-at : (dims : List Dim) (before prefix : List ℕ) (id : ℕ) (back : List ℕ) → AreDimids dims before (prefix ++ id ∷ back) → IsDimid dims (before ++ prefix) id
shape-at dims before [] id back are = subst (λ (xs : List ℕ). IsDimid dims xs id) (sym (append-nil before)) are.0
shape-at dims before (x ∷ prefix) id back are =
    subst (λ (xs : List ℕ). IsDimid dims xs id) (append_assoc before (x ∷ []) prefix) (shape-at dims (before ++ x ∷ []) prefix id back are.1)

pub vsize-fits : (v : Version) (p : ℕ) → p < 2 ^ 49 → vsize_of v p < 256 ^ byte_len (count_width v)
vsize-fits v p h = grind (arith, ltb-true)

-- the padded slabs of all record variables keep the limit too
pub padded-limit : (dims : List Dim) (vars : List Var) → All (λ (var : Var). slab_size dims var ≤ slab_limit) vars → record_size_of dims vars ≤ record_limit → padded_total dims vars ≤ record_limit
padded-limit dims vars h h2 = grind (arith, All-head)

pub limit-at : (dims : List Dim) (all prefix : List Var) (var : Var) (back : List Var) → all ≡ prefix ++ var ∷ back → padded_total dims (record_vars dims all) ≤ record_limit
    → padded_total dims (record_vars dims (prefix ++ var ∷ [])) ≤ record_limit
limit-at dims all prefix var back is small =
    let whole : padded_total dims (record_vars dims all) ≡ padded_total dims (record_vars dims ((prefix ++ var ∷ []) ++ back)) =
    ap (λ (vs : List Var). padded_total dims (record_vars dims vs)) (is ∙ sym (append_assoc prefix (var ∷ []) back)) in
    omega (arith, whole, total-append dims (prefix ++ var ∷ []) back)

pub mark-fits : (v : Version) → streaming_mark v < 256 ^ byte_len (count_width v)
mark-fits v = grind arith

-- ---- numbers

-- numbers of this width are read back from their bytes
pub record IsWide (w : Width) : Type 0 where
  pub len : (n : ℕ) → length (to_be_bytes w n) ≡ byte_len w
  pub again : (n : ℕ) → n < 256 ^ byte_len w → from_be_bytes w (to_be_bytes w n) ≡ n

pub wide-32 : IsWide w32
wide-32 = search (rules, from_be_bytes-to_be_bytes_4, be_bytes_4)

pub wide-64 : IsWide w64
wide-64 = search (rules, from_be_bytes-to_be_bytes_8, be_bytes_8)

pub count-wide : (v : Version) → IsWide (count_width v)
count-wide v = grind (arith, wide-64, wide-32)

pub offset-wide : (v : Version) → IsWide (offset_width v)
offset-wide v = grind (arith, wide-64, wide-32)

number-printable : (w : Width) (n : ℕ) → IsWide w → n < 256 ^ byte_len w → IsPrintable (number w) n
unfolding number
number-printable w n wide fits = (wide.len n, ap Ok (wide.again n fits))

-- a test that is passed
kept : {A : Type 0} {b : Bool} (x : A) (wrong : FormatFault) → b ≡ true → (if b then Ok x else Err wrong) ≡ Ok x
kept x wrong e = ap (λ b. if b then Ok x else Err wrong) e

count-fits : (v : Version) (n : ℕ) → n < count_limit v → n < 256 ^ byte_len (count_width v)
count-fits v n h = grind arith

offset-fits : (v : Version) (n : ℕ) → n < offset_limit v → n < 256 ^ byte_len (offset_width v)
offset-fits v n h = grind arith

count-printable : (v : Version) (n : ℕ) → n < count_limit v → IsPrintable (count_part v) n
unfolding limited_part
count-printable v n lt = (number-printable (count_width v) n (count-wide v) (count-fits v n lt), kept n BadCount (lt-ltb _ _ lt))

offset-printable : (v : Version) (n : ℕ) → n < offset_limit v → IsPrintable (offset_part v) n
unfolding offset_part
offset-printable v n lt = (number-printable (offset_width v) n (offset-wide v) (offset-fits v n lt), kept n BadOffset (lt-ltb _ _ lt))

-- ---- names and types

ignored-printable : (n : ℕ) → IsPrintable (ignored n) tt
unfolding ignored
ignored-printable n = (length-replicate n 0, refl)

name-printable : (v : Version) (text : Bytes) → length text < count_limit v → IsName text → IsPrintable (name_part strict v) text
unfolding name_part
name-printable v text lt valid =
    (length text, refl, count-printable v (length text) lt, (text, refl, (refl, kept text BadName valid), (tt, refl, ignored-printable (padding_len (length text)), refl)))

pub type_in-code : (v : Version) (ty : NcType) → IsTrue (has_type v ty) → type_in v (code_of ty) ≡ Ok ty
type_in-code v ty has = grind arith

code-fits : (ty : NcType) → code_of ty < 256 ^ byte_len w32
code-fits ty = grind arith

type-printable : (v : Version) (ty : NcType) → IsTrue (has_type v ty) → IsPrintable (type_part strict v) ty
unfolding type_part
type-printable v ty has = (number-printable w32 (code_of ty) wide-32 (code-fits ty), type_in-code v ty has)

-- ---- lists

-- each element can be written after those before it
abbrev pub Each : {A : Type 0} → (List A → Part A) → List A → Type 0
Each {A = A} element all = (before : List A) (x : A) (back : List A) → all ≡ before ++ x ∷ back → IsPrintable (element before) x

each-printable : {A : Type 0} (element : List A → Part A) (all before xs : List A) → Each element all → all ≡ before ++ xs → IsPrintable (each element (length xs) before) all
unfolding each
each-printable element all before [] good e = e ∙ append-nil before
each-printable element all before (x ∷ xs) good e =
    grind (arith, append_assoc, drop-append_seam, each-printable element all (before ++ x ∷ []) xs good)

pub tag-test : (tag : ℕ) → ((tag == 0) || (tag == tag)) ≡ true
tag-test tag = grind (arith, eq-eqb)

pub some-test : (tag n : ℕ) → tag ≢ 0 → (not (tag == 0) || (n == 0)) ≡ true
some-test tag n some = grind (arith, eqb-true)

head-printable : (v : Version) (tag n : ℕ) → tag ≢ 0 → tag < 256 ^ byte_len w32 → n < count_limit v → IsPrintable (list_head v tag) n
unfolding list_head
head-printable v tag zero some fits lt =
    (0, refl, (number-printable w32 0 wide-32 (omega arith), refl), (count-printable v 0 lt, refl))
head-printable v tag (suc n) some fits lt =
    (tag, ap (λ b. Some (if b then 0 else tag)) (not_none n), (number-printable w32 tag wide-32 fits, kept tag BadTag (tag-test tag)), (count-printable v (suc n) lt, kept (suc n) BadCount (some-test tag (suc n) some)))

list-printable : {A : Type 0} (v : Version) (tag : ℕ) (element : List A → Part A) (xs : List A) → tag ≢ 0 → tag < 256 ^ byte_len w32 → length xs < count_limit v → Each element xs → IsPrintable (list_part v tag element) xs
unfolding list_part
list-printable v tag element xs some fits lt good = (length xs, refl, head-printable v tag (length xs) some fits lt, each-printable element xs [] xs good refl)

-- ---- dimensions and attributes

one-test : (before : List Dim) (len : ℕ) → (len ≡ 0 → has_record_dim before ≡ false) → not (has_record_dim before && (len == 0)) ≡ true
one-test before len h = grind (arith, eqb-true, h)

dims-printable : (v : Version) (dims : List Dim) → length dims < count_limit v → All (IsSoundDim v) dims → All (λ (dim : Dim). IsName dim.name) dims
    → length (filter (λ (dim : Dim). dim.len == 0) dims) ≤ 1 → IsPrintable (dim_list strict v) dims
unfolding dim_list dim_part
dims-printable v dims lt sound names one = list-printable v dimension_tag (dim_after strict v) dims (λ e. omega (arith, e)) (omega arith) lt
    (λ before dim back is.
    let s = at-split (IsSoundDim v) dims before dim back is sound in (
      dim.name,
      refl,
      name-printable v dim.name s.name_len (at-split (λ (d : Dim). IsName d.name) dims before dim back is names),
      (dim.len, refl, (count-printable v dim.len s.len, kept dim.len TwoRecordDims (one-test before dim.len (first-record-dim dims before dim back is one))), refl),
    ))

atts-printable : (v : Version) (atts : List Att) → length atts < count_limit v → All (IsSoundAtt v) atts → All (λ (att : Att). IsName att.name) atts → IsPrintable (att_list strict v) atts
unfolding att_list att_part
atts-printable v atts lt sound names = list-printable v attribute_tag (att_after strict v) atts (λ e. omega (arith, e)) (omega arith) lt
    (λ before att back is.
    let s = at-split (IsSoundAtt v) atts before att back is sound in
    let n : ℕ = length att.vals / size_of att.ty in
    let n_is : n ≡ s.values.count = ap (λ (m : ℕ). m / size_of att.ty) s.values.whole ∙ mul-div_cancel s.values.count (some_size att.ty) in (
      att.name,
      refl,
      name-printable v att.name s.name_len (at-split (λ (a : Att). IsName a.name) atts before att back is names),
      (
        att.ty,
        refl,
        type-printable v att.ty s.ty,
        (
          n,
          refl,
          count-printable v n (subst (λ (m : ℕ). m < count_limit v) (sym n_is) s.values.counted),
          (
            att.vals,
            refl,
            s.values.whole ∙ ap (λ (m : ℕ). m * size_of att.ty) (sym n_is),
            (tt, refl, ignored-printable (padding_len (length att.vals)), refl),
          ),
        ),
      ),
    ))

-- ---- variables

pub dimid-test : (dims : List Dim) (before : List ℕ) (id : ℕ) → IsDimid dims before id → is_dimid dims (length before == 0) id ≡ true
dimid-test dims before id h = grind (arith, h.known, h.record_first, lt-ltb)

shape-printable : (v : Version) (dims : List Dim) (ids : List ℕ) → length dims < count_limit v → length ids < count_limit v → AreDimids dims [] ids → IsPrintable (shape_part v dims) ids
unfolding shape_part counted dimid_part
shape-printable v dims ids few lt are = (
  length ids,
  refl,
  count-printable v (length ids) lt,
  each-printable (dimid_after v dims) ids [] ids
      (λ before id back is.
      let h = shape-at dims [] before id back (subst (AreDimids dims []) is are) in
      (number-printable (count_width v) id (count-wide v) (count-fits v id (grind (arith, h.known))), kept id BadShape (dimid-test dims before id h))) refl,
)

vars-printable : (v : Version) (dims : List Dim) (vars : List Var) → length dims < count_limit v → length vars < count_limit v → All (IsSoundVar v dims) vars
    → All (λ (var : Var). IsName var.name × All (λ (att : Att). IsName att.name) var.atts) vars
    → All (λ (var : Var). var.begin_at < offset_limit v) vars → ((before : List Var) (var : Var) (back : List Var) → vars ≡ before ++ var ∷ back → is_within_limits dims (padded_total dims (record_vars dims before)) var.dimids var.ty ≡ true)
    → IsPrintable (var_list strict v dims) vars
unfolding var_list var_part
vars-printable v dims vars few lt sound names places limits = list-printable v variable_tag (var_after strict v dims) vars (λ e. omega (arith, e)) (omega arith) lt
    (λ before x back is.
    let s = at-split (IsSoundVar v dims) vars before x back is sound in
    let n = at-split (λ (var : Var). IsName var.name × All (λ (att : Att). IsName att.name) var.atts) vars before x back is names in (
      x.name,
      refl,
      name-printable v x.name s.name_len n.0,
      (
        x.dimids,
        refl,
        shape-printable v dims x.dimids few s.rank s.shape,
        (
          x.atts,
          refl,
          atts-printable v x.atts s.att_count s.atts n.1,
          (
            x.ty,
            refl,
            (type-printable v x.ty s.ty, kept x.ty TooLarge (limits before x back is)),
            (
              vsize_of v (padded_size dims x),
              refl,
              number-printable (count_width v) (vsize_of v (padded_size dims x)) (count-wide v) (vsize-fits v (padded_size dims x) (omega (arith, s.slab))),
              (x.begin_at, refl, offset-printable v x.begin_at (at-split (λ (var : Var). var.begin_at < offset_limit v) vars before x back is places), refl),
            ),
          ),
        ),
      ),
    ))

-- ---- the whole

pub known : (v : Version) (n : ℕ) → n < count_limit v → numrecs_in strict v n ≡ Ok (Known n)
known v n lt = grind arith

pub streaming : (v : Version) → numrecs_in strict v (streaming_mark v) ≡ Ok Streaming
streaming v = grind arith

pub version-back : (v : Version) → version_in (version_byte v ∷ []) ≡ Ok v
version-back v = grind arith

numrecs-printable : (v : Version) (n : NumRecs) → IsSoundNumRecs v n → IsPrintable (numrecs_part strict v) n
unfolding numrecs_part
numrecs-printable v (Known n) lt = (number-printable (count_width v) n (count-wide v) (count-fits v n lt), known v n lt)
numrecs-printable v Streaming h = (number-printable (count_width v) (streaming_mark v) (count-wide v) (mark-fits v), streaming v)

magic-printable : (v : Version) → IsPrintable magic_part v
unfolding magic_part version_part
magic-printable v = (codes "CDF", refl, (refl, refl), (refl, version-back v))

-- what one variable adds to a record
pub one-total : (dims : List Dim) (var : Var) → padded_total dims (record_vars dims (var ∷ [])) ≡ record_bytes dims var.dimids var.ty
one-total dims var =
    elim (is_record_var dims var) as (λ b. padded_total dims (cond b (var ∷ []) []) ≡ cond b (padded_size dims var) 0) [ true ↦ omega arith | false ↦ refl ]

-- a sound header's variables keep the limits
limits-kept : (h : Header) → IsSound h → (before : List Var) (var : Var) (back : List Var) → h.vars ≡ before ++ var ∷ back
    → is_within_limits h.dims (padded_total h.dims (record_vars h.dims before)) var.dimids var.ty ≡ true
limits-kept h sound before var back is =
    let slabs = All-weaker (IsSoundVar h.version h.dims) (λ (x : Var). slab_size h.dims x ≤ slab_limit) (λ x t. t.slab) h.vars sound.vars in
    let total = padded-limit h.dims (record_vars h.dims h.vars) (All-filter (is_record_var h.dims) (λ (x : Var). slab_size h.dims x ≤ slab_limit) h.vars slabs) sound.small_records in
    and_both _ _ (le-leb _ _ (at-split (IsSoundVar h.version h.dims) h.vars before var back is sound.vars).slab)
    (le-leb _ _ (omega (arith, total-append h.dims before (var ∷ []), one-total h.dims var, limit-at h.dims h.vars before var back is total)))

pub header-printable : (h : Header) → IsSound h → HasValidNames h → All (λ (var : Var). var.begin_at < offset_limit h.version) h.vars → IsPrintable header_part h
unfolding header_by
header-printable h sound names places =
    let v = h.version in (
      v,
      refl,
      magic-printable v,
      (
        h.numrecs,
        refl,
        numrecs-printable v h.numrecs sound.numrecs,
        (
          h.dims,
          refl,
          dims-printable v h.dims sound.dim_count sound.dims names.dims sound.one_record_dim,
          (
            h.gatts,
            refl,
            atts-printable v h.gatts sound.gatt_count sound.gatts names.gatts,
            (h.vars, refl, vars-printable v h.dims h.vars sound.dim_count sound.var_count sound.vars names.vars places (limits-kept h sound), refl),
          ),
        ),
      ),
    )
