use Rattle.nc_walk.proofs.Prelude.{◌≡◌, ℕ, ◌+◌, ◌<◌, ◌≤◌, Bool, true, false, List, [], ◌∷◌, ◌++◌, All, length, get_or, map, drop, refl, sym, ◌∙◌, ap, arith, if◌then◌else◌, drop_more, All-nil, Dim, Var, AreListed, is_record_var, RecordSlab, ArrayView, array_view, record_arrays, array_of, record_slab, record_slabs, subst, flat_map, range_with_len, length-map, nil_from_length, Written, Appended, known_records, filled_records, filled_slabs, appended-nothing}
use Rattle.nc_walk.proofs.DataFilled.{listed-len, records-filled, no-records, sole-filled}
use Rattle.nc_walk.proofs.write.records.put_records.Goals as goal

-- The slabs of a record are those of the arrays of the record variables.

-- ---- the arrays of the slabs

arrays-from : (v : ℕ) (dims : List Dim) (vars : List Var) (arrays : List (List ℕ)) → v + length vars ≡ length arrays
    → map (array_of arrays) (record_slabs v dims vars) ≡ record_arrays dims vars (drop v arrays)
arrays-from v dims [] arrays same = refl
arrays-from v dims (var ∷ vars) arrays same =
    of_kind (is_record_var dims var)
    ∙ ap (λ (xs : List ArrayView). (if is_record_var dims var then array_view dims var (get_or arrays v []) ∷ [] else []) ++ xs) (arrays-from (v + 1) dims vars arrays (omega (arith, same)))
    ∙ sym (ap (record_arrays dims (var ∷ vars)) (drop_more arrays v [] (omega (arith, same))))
  where
    rest : List RecordSlab
    rest = record_slabs (v + 1) dims vars

    of_kind : (kind : Bool) → map (array_of arrays) ((if kind then record_slab v dims var ∷ [] else []) ++ rest)
        ≡ (if kind then array_view dims var (get_or arrays v []) ∷ [] else []) ++ map (array_of arrays) rest
    of_kind true = refl
    of_kind false = refl

arrays-of-slabs : (dims : List Dim) (n : ℕ) (vars : List Var) (arrays : List (List ℕ)) (slabs : List RecordSlab) → slabs ≡ record_slabs 0 dims vars → AreListed dims n vars arrays
    → map (array_of arrays) slabs ≡ record_arrays dims vars arrays
arrays-of-slabs dims n vars arrays slabs is are = grind (arith, listed-len, arrays-from)

-- one slab alone
one-array : (arrays : List (List ℕ)) (slabs : List RecordSlab) (d : RecordSlab) (array : ArrayView) → 1 ≤ length slabs → length slabs < 2 → array ≡ array_of arrays (get_or slabs 0 d)
    → map (array_of arrays) slabs ≡ array ∷ []
one-array arrays (slab ∷ []) d array some one is = ap (λ (a : ArrayView). a ∷ []) (sym is)
one-array arrays _ d array some one is = absurd (omega arith)

-- each has the index of a variable
within-from : (v n : ℕ) (dims : List Dim) (vars : List Var) → v + length vars ≤ n → All (λ (slab : RecordSlab). slab.var_index < n) (record_slabs v dims vars)
within-from v n dims [] le = All-nil _
within-from v n dims (var ∷ vars) le = grind (arith, within-from (v + 1) n dims vars)

slabs-within : (dims : List Dim) (n : ℕ) (vars : List Var) (arrays : List (List ℕ)) (slabs : List RecordSlab) → slabs ≡ record_slabs 0 dims vars → AreListed dims n vars arrays
    → All (λ (slab : RecordSlab). slab.var_index < length arrays) slabs
slabs-within dims n vars arrays slabs is are = grind (arith, listed-len, within-from)

-- ---- the goals

pub array_writer-requires : goal.array_writer-requires
array_writer-requires g c = grind (arith, slabs-within)

pub put_padded_records-requires : goal.put_padded_records-requires
put_padded_records-requires g c = grind (arith, slabs-within)

pub returns-in-empty : goal.returns-in-empty
returns-in-empty g c =
    let h = c.args.header.now in
    let n : ℕ = known_records h.numrecs in
    let arrays = c.args.arrays.now in
    let all = arrays-of-slabs h.dims n h.vars arrays c.args.slabs.now c.requires.slabs c.requires.listed in
    let none : record_arrays h.dims h.vars arrays ≡ [] =
    sym all ∙ ap (λ (xs : List RecordSlab). map (array_of arrays) xs) (nil_from_length c.args.slabs.now (omega arith)) in
    let several : length (record_arrays h.dims h.vars arrays) < 1 = omega (arith, ap (λ (xs : List ArrayView). length xs) none) in
    let nothing = ap (λ (xs : List ArrayView). flat_map (λ r. filled_records r xs) (range_with_len 0 n)) none ∙ no-records n 0 in
    subst (Appended (g.W.Sink.view c.args.sink.now) (g.W.Sink.view c.args.sink.now))
    (sym nothing ∙ records-filled h.dims n h.vars arrays c.requires.listed (λ one. absurd (omega arith)))
    (appended-nothing _)

pub returns-in-len1 : goal.returns-in-len1
returns-in-len1 g c =
    let h = c.args.header.now in
    let n : ℕ = known_records h.numrecs in
    let arrays = c.args.arrays.now in
    let all = arrays-of-slabs h.dims n h.vars arrays c.args.slabs.now c.requires.slabs c.requires.listed in
    let one = one-array arrays c.args.slabs.now _ c.array_writer.result c.in-len1.len_at_least c.in-len1.len_below c.array_writer.ensures in
    subst (λ (text : List ℕ). Written (g.W.Sink.view c.args.sink.now) (g.W.Sink.view c.put_records.new.sink) text c.put_records.result)
    (ap (λ (k : ℕ). filled_slabs k c.array_writer.result) c.known-records.ensures
    ∙ sole-filled h.dims n h.vars arrays c.array_writer.result c.requires.listed (sym all ∙ one))
    c.put_records.ensures

pub returns-in_default : goal.returns-in_default
returns-in_default g c =
    let h = c.args.header.now in
    let n : ℕ = known_records h.numrecs in
    let arrays = c.args.arrays.now in
    let all = arrays-of-slabs h.dims n h.vars arrays c.args.slabs.now c.requires.slabs c.requires.listed in
    let same : length c.args.slabs.now ≡ length (record_arrays h.dims h.vars arrays) =
    sym (length-map c.args.slabs.now (array_of arrays)) ∙ ap (λ (xs : List ArrayView). length xs) all in
    subst (λ (text : List ℕ). Written (g.W.Sink.view c.args.sink.now) (g.W.Sink.view c.put_padded_records.new.sink) text c.put_padded_records.result)
    (ap (λ (xs : List ArrayView). flat_map (λ r. filled_records r xs) (range_with_len 0 c.known-records.result)) all
    ∙ ap (λ (k : ℕ). flat_map (λ r. filled_records r (record_arrays h.dims h.vars arrays)) (range_with_len 0 k)) c.known-records.ensures
    ∙ records-filled h.dims n h.vars arrays c.requires.listed (λ one. absurd (omega (arith, same, one))))
    c.put_padded_records.ensures
