-- The begins and the length of a generated file are the canonical ones, whatever begins the header has.
use Rattle.nccheck_laws.proofs.Prelude.{zip, range_with_len, common_steps, map-append, length-map, take-append-le, take-length, Dataset, Dim, Header, Var, Known, Bytes, data_of, file_of, fixed_vars, known_records, record_part, slabs_before, vars_with_begins, with_begins, header_spelling, AreArrays, bare, bare_var, padded_total, record_size_of, record_vars, header-len-bare, len-after, record_size_of-bare, records-bare, record_count, slot_of, layout_of, record_slots-total, CanonicalBeginsAreGenerated, QuietFilesAreGenerated, canonical_begin, canonical_len, HasCanonicalBegins, ◌≡◌, ℕ, zero, suc, ◌+◌, ◌*◌, ◌<◌, ◌≤◌, List, [], ◌∷◌, ◌++◌, length, map, refl, sym, ◌∙◌, arith, append_assoc, length-append, flat_map}
use Rattle.nccheck_laws.proofs.IndexedSlots.{at-middle}
use Rattle.nc_base.specs.GeneratedFile.{is_sole_narrow as is_sole_narrow_var}
use Rattle.nc_base.proofs.FilePlaces.{length-blocks, length-record, padded_total-append, record_size_of-slots, slots as record_bytes}
use Rattle.nccheck_laws.proofs.CanonicalBegins.{quiet-begins}
use Rattle.nccheck_laws.proofs.CanonicalEnds.{quiet-length}
use Rattle.nccheck_laws.proofs.HeaderRecords.{fixed_slots-total, size-is}

-- ---- without begins

abbrev bare_vars : List Var → List Var
bare_vars vars = map bare_var vars

fixed-bare : (dims : List Dim) (vars : List Var)
    → padded_total dims (fixed_vars dims (bare_vars vars)) ≡ padded_total dims (fixed_vars dims vars)
fixed-bare dims [] = refl
fixed-bare dims (var ∷ vars) = grind (arith, common_steps, fixed-bare dims vars)

record-bare : (dims : List Dim) (vars : List Var)
    → padded_total dims (record_vars dims (bare_vars vars)) ≡ padded_total dims (record_vars dims vars)
record-bare dims [] = refl
record-bare dims (var ∷ vars) = grind (arith, common_steps, record-bare dims vars)

arrays-bare : (dims : List Dim) (n : ℕ) (vars : List Var) (arrays : List Bytes) → AreArrays dims n vars arrays
    → AreArrays dims n (bare_vars vars) arrays
arrays-bare dims n [] arrays are = are
arrays-bare dims n (var ∷ vars) [] are = are
arrays-bare dims n (var ∷ vars) (array ∷ arrays) are = grind (arith, arrays-bare dims n vars arrays are.1)

len-bare : (h : Header) (n : ℕ) → h.numrecs ≡ Known n → length (header_spelling (bare h n)) ≡ length (header_spelling h)
len-bare h n known = grind (arith, header-len-bare h h.vars)

vars-bare : (h : Header) (n : ℕ) (before vars : List Var) → h.numrecs ≡ Known n
    → vars_with_begins (bare h n) (bare_vars before) (bare_vars vars) ≡ vars_with_begins h before vars
vars-bare h n before [] known = refl
vars-bare h n before (var ∷ vars) known = grind (arith, common_steps, map-append, padded_total-append, fixed-bare, record-bare, len-bare, vars-bare h n (before ++ var ∷ []) vars known)

pub begins-bare : (h : Header) (n : ℕ) → h.numrecs ≡ Known n → with_begins (bare h n) ≡ with_begins h
unfolding with_begins
begins-bare h n known = grind (arith, vars-bare h n [] h.vars known)

-- ---- begins

-- the bytes before a slot are those of the slabs before its variable
pub begin-is : (h : Header) (header_end file_len : ℕ) (before : List Var) (var : Var) (vars : List Var) → h.vars ≡ before ++ var ∷ vars
    → canonical_begin (layout_of h header_end file_len) (length before) (slot_of h.dims var)
    ≡ header_end + padded_total h.dims (slabs_before h before var)
begin-is h header_end file_len before var vars is = grind (arith, common_steps, map-append, length-map, take-append-le, take-length, record_slots-total, padded_total-append, fixed_slots-total)

-- begins that are canonical are those of the generated file
begins-same : (h : Header) (file_len : ℕ) (before vars : List Var) → h.vars ≡ before ++ vars
    → HasCanonicalBegins (layout_of h (length (header_spelling h)) file_len) → vars_with_begins h before vars ≡ vars
begins-same h file_len before [] is canonical = refl
begins-same h file_len before (var ∷ vars) is canonical =
    let there = at-middle (map (slot_of h.dims) before) (slot_of h.dims var) (map (slot_of h.dims) vars) in
    let begin = begin-is h (length (header_spelling h)) file_len before var vars is in
    let more = begins-same h file_len (before ++ var ∷ []) vars (is ∙ sym (append_assoc before (var ∷ []) vars)) canonical in
    grind (arith, map-append, length-map, canonical (length before))

pub canonical-generated : CanonicalBeginsAreGenerated
unfolding with_begins
canonical-generated h file_len canonical = grind (arith, begins-same h file_len [] h.vars refl canonical)

-- ---- the length

-- rows of one length
rows-length : (f : ℕ → List ℕ) (size a n : ℕ) → ((r : ℕ) → a ≤ r → r < a + n → length (f r) ≡ size)
    → length (flat_map f (range_with_len a n)) ≡ n * size
rows-length f size a zero same = omega arith
rows-length f size a (suc n) same =
    grind (arith, common_steps, rows-length f size (a + 1) n (λ r low high. same r (omega arith) (omega arith)))

data-length : (h : Header) (arrays : List (List ℕ)) (n : ℕ) → known_records h.numrecs ≡ n → AreArrays h.dims n h.vars arrays
    → length (data_of h arrays) ≡ padded_total h.dims (fixed_vars h.dims h.vars) + n * record_size_of h.dims (record_vars h.dims h.vars)
unfolding data_of
data-length h arrays n known are =
    let is_sole = is_sole_narrow_var (record_vars h.dims h.vars) in
    let row : ℕ → List ℕ = λ r. flat_map (record_part is_sole h.dims r) (zip h.vars arrays) in
    let same = λ (r : ℕ) (low : 0 ≤ r) (high : r < 0 + n). length-record is_sole h.dims n r h.vars arrays (omega arith) are in
    let rows = rows-length row (record_bytes is_sole h.dims h.vars) 0 n same in
    grind (arith, length-append, length-blocks h.dims n h.vars arrays are, record_size_of-slots h.dims h.vars)

file-length : (d : Dataset) (n : ℕ) → known_records d.header.numrecs ≡ n → AreArrays d.header.dims n d.header.vars d.arrays
    → length (file_of d) ≡ length (header_spelling d.header) + (padded_total d.header.dims (fixed_vars d.header.dims d.header.vars)
    + n * record_size_of d.header.dims (record_vars d.header.dims d.header.vars))
unfolding file_of with_begins
file-length d n known are = grind (arith, common_steps, len-after, data-length)

pub canonical-is : (h : Header) (arrays : List Bytes) (n file_len : ℕ) → h.numrecs ≡ Known n → AreArrays h.dims n h.vars arrays
    → canonical_len (layout_of h (length (header_spelling h)) file_len) ≡ length (file_of (record { header = bare h n; arrays = arrays }))
unfolding record_count
canonical-is h arrays n file_len known are =
    let file = file-length (record { header = bare h n; arrays = arrays }) n refl (arrays-bare h.dims n h.vars arrays are) in
    let size = size-is h.dims h.vars in
    grind (arith, record_size_of-bare, records-bare, len-bare h n known, fixed_slots-total h.dims h.vars, fixed-bare h.dims h.vars)

pub quiet-generated : QuietFilesAreGenerated
quiet-generated h arrays n file_len known are sound begins ends =
    let layout = layout_of h (length (header_spelling h)) file_len in (
      begins-bare h n known ∙ canonical-generated h file_len (quiet-begins layout begins),
      quiet-length layout sound begins ends ∙ canonical-is h arrays n file_len known are,
    )
