-- A generated file holds its dataset.
use Rattle.nc_base.proofs.Prelude.{◌≡◌, ℕ, suc, ◌+◌, ◌*◌, ◌<◌, List, [], ◌∷◌, ◌++◌, length, map, refl, sym, ◌∙◌, ap, subst, arith, length-append, All, sum, zip, flat_map, range_with_len, append-nil, length-map, All-nil, All-cons, All-head, All-tail, Att, Dim, Var, Header, NumRecs, Known, Dataset, Version, count_limit, IsName, padded_size, record_size_of, record_vars, record_size, record_count, IsSoundVar, IsSound, HasValidNames, bare_var, AreArrays, IsGood, HoldsDataset, header_spelling, block, is_sole_narrow, record_part, known_records, data_of, vars_with_begins, with_begins, Fits, file_of, print, variable_tag, number, offset_part, list_head, var_part, var_after, var_list, header_part, strict, header_by}
use Rattle.nc_base.proofs.IsAt.{IsAt, stands-here, stands-after, stands-in, stands-at, stands-first, stands-second, stands-row}
use Rattle.nc_base.proofs.FilePlaces.{slots, fixed_total, record_size_of-slots, length-blocks, length-record, IsPlaced, agree-all, agree-arrays, agree-whole}
use Rattle.nc_base.proofs.PrintedLists.{IsPrintedAs, list-printed}
use Rattle.nc_base.proofs.PartOutcomes.{printed}
use Rattle.nc_base.proofs.Printable.{header-printable}
use Rattle.nc_base.proofs.WholeValues.{map-map}

-- ---- begins change nothing else

pub bare-after : (h : Header) (before vars : List Var) → map bare_var (vars_with_begins h before vars) ≡ map bare_var vars
bare-after h before [] = refl
bare-after h before (var ∷ vars) = ap (λ (vs : List Var). bare_var var ∷ vs) (bare-after h (before ++ var ∷ []) vars)

-- what doesn't speak of begins holds of each variable with its begin
all-after : (P : Var → Type 0) → ((var : Var) (at : ℕ) → P var → P (record var { begin_at = at })) → (h : Header) (before vars : List Var) → All P vars → All P (vars_with_begins h before vars)
all-after P same h before [] all = All-nil P
all-after P same h before (var ∷ vars) all =
    grind (arith, All-cons, All-head, All-tail, all-after P same h (before ++ var ∷ []) vars (All-tail P var vars all))

-- ---- the record size

pub records-bare : (dims : List Dim) (vars : List Var) → record_vars dims (map bare_var vars) ≡ map bare_var (record_vars dims vars)
records-bare dims [] = refl
records-bare dims (var ∷ vars) = grind (arith, records-bare dims vars)

pub record_size_of-bare : (dims : List Dim) (vars : List Var) → record_size_of dims (map bare_var vars) ≡ record_size_of dims vars
record_size_of-bare dims vars = grind (arith, sum, map-map, padded_size, bare_var)

size-bare : (h : Header) (vars : List Var) → record_size (record h { vars = map bare_var vars }) ≡ record_size (record h { vars = vars })
size-bare h vars = ap (record_size_of h.dims) (records-bare h.dims vars) ∙ record_size_of-bare h.dims (record_vars h.dims vars)

size-after : (h : Header) → record_size (record h { vars = vars_with_begins h [] h.vars }) ≡ record_size h
size-after h = sym (size-bare h (vars_with_begins h [] h.vars)) ∙ ap (λ (vs : List Var). record_size (record h { vars = vs })) (bare-after h [] h.vars) ∙ size-bare h h.vars

-- ---- the length of the header

both : (a b x y : List ℕ) → length a ≡ length b → length x ≡ length y → length (a ++ x) ≡ length (b ++ y)
both a b x y e f = length-append a x ∙ ap (λ (n : ℕ). n + length x) e ∙ ap (λ (n : ℕ). length b + n) f ∙ sym (length-append b y)

-- a variable's bytes, whatever stands before it
abbrev var_bytes : Version → List Dim → Var → List ℕ
var_bytes v dims var = print (var_part strict v dims 0) var

var-printed : (v : Version) (dims : List Dim) → IsPrintedAs (var_after strict v dims) (var_bytes v dims)
unfolding print var_part
var-printed v dims before var = refl

var-len : (v : Version) (dims : List Dim) (var : Var) → length (var_bytes v dims (bare_var var)) ≡ length (var_bytes v dims var)
unfolding print var_part offset_part number
var-len v dims var = grind (arith, length-append)

each-len : (f : Var → List ℕ) (xs : List Var) → ((x : Var) → length (f (bare_var x)) ≡ length (f x)) → length (flat_map f (map bare_var xs)) ≡ length (flat_map f xs)
each-len f [] same = refl
each-len f (x ∷ xs) same = both (f (bare_var x)) (f x) (flat_map f (map bare_var xs)) (flat_map f xs) (same x) (each-len f xs same)

list-len : (v : Version) (dims : List Dim) (xs : List Var) → length (print (var_list strict v dims) (map bare_var xs)) ≡ length (print (var_list strict v dims) xs)
unfolding var_list
list-len v dims xs =
    ap length (list-printed v variable_tag (var_after strict v dims) (var_bytes v dims) (map bare_var xs) (var-printed v dims))
    ∙ both _ _ _ _ (ap (λ (n : ℕ). length (print (list_head v variable_tag) n)) (length-map xs bare_var)) (each-len (var_bytes v dims) xs (var-len v dims))
    ∙ ap length (sym (list-printed v variable_tag (var_after strict v dims) (var_bytes v dims) xs (var-printed v dims)))

pub header-len-bare : (h : Header) (vars : List Var) → length (header_spelling (record h { vars = map bare_var vars })) ≡ length (header_spelling (record h { vars = vars }))
unfolding print header_by
header-len-bare h vars = grind (arith, length-append, list-len)

pub len-after : (h : Header) → length (header_spelling (record h { vars = vars_with_begins h [] h.vars })) ≡ length (header_spelling h)
len-after h =
    sym (header-len-bare h (vars_with_begins h [] h.vars)) ∙ ap (λ (vs : List Var). length (header_spelling (record h { vars = vs }))) (bare-after h [] h.vars) ∙ header-len-bare h h.vars

-- ---- the header with begins is sound

abbrev HasNames : Var → Type 0
HasNames var = IsName var.name × All (λ (att : Att). IsName att.name) var.atts

pub sound-after : (h : Header) → IsSound h → IsSound (record h { vars = vars_with_begins h [] h.vars })
sound-after h s = record {
  numrecs = s.numrecs;
  dim_count = s.dim_count;
  dims = s.dims;
  one_record_dim = s.one_record_dim;
  gatt_count = s.gatt_count;
  gatts = s.gatts;
  var_count = subst (λ (n : ℕ). n < count_limit h.version) (sym (count h [] h.vars)) s.var_count;
  vars = all-after (IsSoundVar h.version h.dims)
      (λ var at t. record { name_len = t.name_len; rank = t.rank; shape = t.shape; att_count = t.att_count; atts = t.atts; ty = t.ty; slab = t.slab }) h [] h.vars s.vars;
  small_records = omega (arith, s.small_records, size-after h);
}
  where
    count : (k : Header) (before vars : List Var) → length (vars_with_begins k before vars) ≡ length vars
    count k before [] = refl
    count k before (var ∷ vars) = ap suc (count k (before ++ var ∷ []) vars)

names-after : (h : Header) → HasValidNames h → HasValidNames (record h { vars = vars_with_begins h [] h.vars })
names-after h s = record { dims = s.dims; gatts = s.gatts; vars = all-after HasNames (λ var at t. t) h [] h.vars s.vars }

-- ---- the data part stands after the header

all-placed : (d : Dataset) (n : ℕ) → AreArrays d.header.dims n d.header.vars d.arrays → known_records d.header.numrecs ≡ n
    → IsPlaced d.header (file_of d) n (record_size (record d.header { vars = vars_with_begins d.header [] d.header.vars })) (is_sole_narrow (record_vars d.header.dims d.header.vars)) [] d.header.vars d.arrays
unfolding file_of data_of with_begins
all-placed d n are known =
    let h = d.header in
    let dims = h.dims in
    let is_sole = is_sole_narrow (record_vars dims h.vars) in
    let stride : ℕ = record_size (record h { vars = vars_with_begins h [] h.vars }) in
    let stride_is : slots is_sole dims h.vars ≡ stride = sym (record_size_of-slots dims h.vars) ∙ sym (size-after h) in
    let head = header_spelling (record h { vars = vars_with_begins h [] h.vars }) in
    let head_len = len-after h in
    let prefix = flat_map (block dims) (zip h.vars d.arrays) in
    let f : ℕ → List ℕ = λ r. flat_map (record_part is_sole dims r) (zip h.vars d.arrays) in
    let back = flat_map f (range_with_len 0 (known_records h.numrecs)) in
    let file = head ++ (prefix ++ back) in
    let data_stands : IsAt (prefix ++ back) (length head + 0) file = stands-after head (prefix ++ back) 0 (prefix ++ back)
    (subst (IsAt (prefix ++ back) 0) (append-nil (prefix ++ back)) (stands-here (prefix ++ back) [])) in
    let blocks_len = length-blocks dims n h.vars d.arrays are in
    record {
      fixed = stands-at prefix file (length head + 0) (length (header_spelling h) + 0) (omega (arith, head_len)) (stands-first prefix back file (length head + 0) data_stands);
      growing = λ r lt.
          let rows : IsAt (f (0 + r)) (r * stride) back =
          subst (λ (m : ℕ). IsAt (f (0 + r)) (r * stride) (flat_map f (range_with_len 0 m))) (sym known)
          (stands-row f stride 0 n r (λ i low high. length-record is_sole dims n i h.vars d.arrays (omega arith) are ∙ stride_is) lt) in
          let same : 0 + r ≡ r = omega arith in
          stands-at (f r) file (length head + 0 + length prefix + r * stride) (length (header_spelling h) + (fixed_total dims h.vars + (0 + r * stride))) (omega (arith, head_len, blocks_len))
          (stands-in (f r) back file (r * stride) (length head + 0 + length prefix)
          (subst (λ (i : ℕ). IsAt (f i) (r * stride) back) same rows) (stands-second prefix back file (length head + 0) data_stands));
    }

-- ---- the whole

counted : (h : Header) (n len : ℕ) → h.numrecs ≡ Known n → n ≡ record_count h len
counted h n len e = subst (λ (k : NumRecs). n ≡ record_count (record h { numrecs = k }) len) (sym e) refl

pub file-holds : (d : Dataset) → IsGood d → Fits d.header → HoldsDataset (file_of d) d
unfolding file_of with_begins
file-holds d good fits =
    let h = d.header in
    let n = good.records in
    let k : Header = record h { vars = vars_with_begins h [] h.vars } in
    let known : h.numrecs ≡ Known n = ap (λ (x : Header). x.numrecs) good.is_bare in
    let agree = agree-all h (vars_with_begins h [] h.vars) (file_of d) n [] h.vars d.arrays refl good.arrays
    (all-placed d n good.arrays (ap known_records known)) in
    record {
      header = k;
      rest = data_of d.header d.arrays;
      records = n;
      spelled = printed header_part k (data_of d.header d.arrays) (header-printable k (sound-after h good.is_sound) (names-after h good.names) fits);
      counted = counted k n (length (file_of d)) known;
      is_bare = good.is_bare ∙ ap (λ (vs : List Var). let x : Header = record h { numrecs = Known n; vars = vs } in x) (sym (bare-after h [] h.vars));
      whole = agree-whole k (file_of d) n (vars_with_begins h [] h.vars) d.arrays agree;
      arrays = agree-arrays k (file_of d) n (vars_with_begins h [] h.vars) d.arrays agree;
    }
