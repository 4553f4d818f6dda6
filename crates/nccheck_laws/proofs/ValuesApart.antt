-- Where no two slabs have a byte in common, no two values have one: those of a slab stand in it, one after the other.
use Rattle.nccheck_laws.proofs.Prelude.{AllPairs, range_with_len, map-append, append-nil, append_assoc, All-append, All-cons, All-contains, All-head, All-nil, All-tail, All-weaker, Header, Var, slab_strides, value_offsets, vectors_below, is_record_var, product, slab_lens, size_of, SlabPlace, record_slab, slabs_of, all_slabs, each_slot, layout_of, slot_of, AreApart, ◌≡◌, ℕ, zero, suc, ◌+◌, ◌*◌, ◌≤◌, inl, inr, Bool, true, false, List, [], ◌∷◌, ◌++◌, get_or, length, length-map-range_with_len, get_or-map-range_with_len, ◌<◌, map, refl, sym, ap, subst, ◌∙◌, arith, All, if◌then◌else◌, flat_map}
use Rattle.nc_base.specs.Sizes.{record_count, record_size}
use Rattle.nccheck_laws.specs.ErrorLaws.{ApartSlabsHaveValuesApart, HaveOwnBytes, ValuePlace, value_place, value_places, variable_places}
use Rattle.nccheck_laws.proofs.HeaderRecords.{count-is, size-is}
use Rattle.nccheck_laws.proofs.SlabsApart.{append-pairs, next-record}
use Rattle.nc_findings.specs.declared.layout_fact.Slab.TheVariants as slabs
use Rattle.nccheck_laws.proofs.WholeSlots.{fixed_slab}
use Rattle.nccheck_laws.proofs.WholeVariables.{at, row, row-same}

-- ---- values in slabs

-- the value stands between these offsets
record Within (low high : ℕ) (x : ValuePlace) : Type 0 where
  pub above : low ≤ x.begin
  pub below : x.end ≤ high

-- these values stand between these offsets, and no two of them have a byte in common
record Stand (low high : ℕ) (xs : List ValuePlace) : Type 0 where
  pub within : All (Within low high) xs
  pub pairs : AllPairs HaveOwnBytes xs

-- the values of each of these slabs stand in it
abbrev Fill : List SlabPlace → List ValuePlace → Type 0
Fill [] vs = vs ≡ []
Fill (s ∷ ss) vs = (xs : List ValuePlace) × (ys : List ValuePlace) × (vs ≡ xs ++ ys) × Stand s.begin s.end xs × Fill ss ys

fill-append : (ss ts : List SlabPlace) (vs ws : List ValuePlace) → Fill ss vs → Fill ts ws → Fill (ss ++ ts) (vs ++ ws)
fill-append [] ts vs ws none fill = rw none fill
fill-append (s ∷ ss) ts vs ws (xs, ys, is, stand, others) fill =
    (xs, ys ++ ws, ap (λ (zs : List ValuePlace). zs ++ ws) is ∙ append_assoc xs ys ws, stand, fill-append ss ts ys ws others fill)

-- what holds of each value in these slabs
fill-all : (P : ValuePlace → Type 0) (ss : List SlabPlace) (vs : List ValuePlace)
    → All (λ (s : SlabPlace). (v : ValuePlace) → Within s.begin s.end v → P v) ss → Fill ss vs → All P vs
fill-all P [] vs each none = rw none (All-nil P)
fill-all P (s ∷ ss) vs each (xs, ys, is, stand, others) =
    let Q = λ (s : SlabPlace). (v : ValuePlace) → Within s.begin s.end v → P v in
    rw is (All-append P xs ys (All-weaker (Within s.begin s.end) P (All-head Q s ss each) xs stand.within)
    (fill-all P ss ys (All-tail Q s ss each) others))

in-apart : (s t : SlabPlace) (a b : ValuePlace) → AreApart s t → Within s.begin s.end a → Within t.begin t.end b → HaveOwnBytes a b
in-apart s t a b (inl before) a_in b_in = inl (omega arith)
in-apart s t a b (inr after) a_in b_in = inr (omega arith)

fill-pairs : (ss : List SlabPlace) (vs : List ValuePlace) → AllPairs AreApart ss → Fill ss vs → AllPairs HaveOwnBytes vs
fill-pairs [] vs apart none = rw none (λ i j d lt within. absurd (omega arith))
fill-pairs (s ∷ ss) vs apart (xs, ys, is, stand, others) =
    rw is (append-pairs HaveOwnBytes xs ys stand.pairs
    (fill-pairs ss ys (λ i j d lt within. apart (suc i) (suc j) d (omega arith) (omega arith)) others)
    (λ a b in_a in_b. All-contains (HaveOwnBytes a) ys b (fill-all (HaveOwnBytes a) ss ys (λ k d lt v in_v.
    in-apart s (get_or ss k d) a v (apart 0 (suc k) d (omega arith) (omega arith)) (All-contains (Within s.begin s.end) xs a stand.within in_a) in_v)
    others) in_b))

-- ---- the values of a slab

-- at these index vectors, from a base on
abbrev places : ℕ → ℕ → List ℕ → List (List ℕ) → List ValuePlace
places size base strides vectors = map (value_place size) (map (at base strides) vectors)

more-places : (size base : ℕ) (strides : List ℕ) (vs ws : List (List ℕ))
    → places size base strides (vs ++ ws) ≡ places size base strides vs ++ places size base strides ws
more-places size base strides vs ws = simp map-append

-- those of each row stand in a slab of its own
rows-fill : (size base stride : ℕ) (strides : List ℕ) (vs : List (List ℕ)) (f : ℕ → SlabPlace)
    → ((k : ℕ) → Stand (f k).begin (f k).end (places size (base + k * stride) strides vs)) → (k m : ℕ)
    → Fill (map f (range_with_len k m)) (places size base (stride ∷ strides) (flat_map (row vs) (range_with_len k m)))
rows-fill size base stride strides vs f each k zero = refl
rows-fill size base stride strides vs f each k (suc m) = (
  places size (base + k * stride) strides vs,
  places size base (stride ∷ strides) (flat_map (row vs) (range_with_len (k + 1) m)),
  more-places size base (stride ∷ strides) (row vs k) (flat_map (row vs) (range_with_len (k + 1) m))
      ∙ ap (λ (xs : List ℕ). map (value_place size) xs ++ places size base (stride ∷ strides) (flat_map (row vs) (range_with_len (k + 1) m)))
      (row-same base k stride strides vs),
  each k,
  rows-fill size base stride strides vs f each (k + 1) m,
)

-- the slab of a row
abbrev row_slab : ℕ → ℕ → ℕ → SlabPlace
row_slab base size k = record { slab = slabs.Var 0; begin = base + k * size; end = base + k * size + size }

rows-within : (base size n high k : ℕ) (d : SlabPlace) → high ≡ base + n * size → k < length (map (row_slab base size) (range_with_len 0 n))
    → (v : ValuePlace)
    → Within (get_or (map (row_slab base size) (range_with_len 0 n)) k d).begin (get_or (map (row_slab base size) (range_with_len 0 n)) k d).end v
    → Within base high v
rows-within base size n high k d is lt v v_in =
    let below : k < n = omega (arith, length-map-range_with_len (row_slab base size) 0 n) in
    let same = get_or-map-range_with_len (row_slab base size) 0 n k k d below (omega arith) in
    let own : Within (base + k * size) (base + k * size + size) v = subst (λ (s : SlabPlace). Within s.begin s.end v) same v_in in
    record { above = omega (arith, own.above); below = omega (arith, own.below, next-record k n size below) }

rows-apart : (base size n : ℕ) → AllPairs AreApart (map (row_slab base size) (range_with_len 0 n))
rows-apart base size n i j d lt within = grind (arith, length-map-range_with_len, get_or-map-range_with_len, next-record)

slab-stands : (size : ℕ) (lens : List ℕ) (base high : ℕ) → high ≡ base + product lens * size
    → Stand base high (places size base (slab_strides size lens) (vectors_below lens))
slab-stands size [] base high is = record {
  within = All-cons (Within base high) (value_place size (base + 0)) [] (record { above = omega arith; below = omega arith }) (All-nil _);
  pairs = λ i j d lt within. absurd (omega arith);
}
slab-stands size (n ∷ lens) base high is =
    let s = size * product lens in
    let rows = map (row_slab base s) (range_with_len 0 n) in
    let vs = places size base (slab_strides size (n ∷ lens)) (vectors_below (n ∷ lens)) in
    let fill = rows-fill size base s (slab_strides size lens) (vectors_below lens) (row_slab base s)
    (λ k. slab-stands size lens (base + k * s) (base + k * s + s) (omega arith)) 0 n in record {
      within = fill-all (Within base high) rows vs (λ k d lt v v_in. rows-within base s n high k d (omega arith) lt v v_in) fill;
      pairs = fill-pairs rows vs (rows-apart base s n) fill;
    }

-- ---- of a variable

variable-fills : (h : Header) (var : Var) (n i : ℕ) → Fill (slabs_of (record_size h) n i (slot_of h.dims var)) (variable_places h n var)
unfolding value_offsets
variable-fills h var n i = of_kind (is_record_var h.dims var)
  where
    lens : List ℕ
    lens = slab_lens h.dims var.dimids

    size : ℕ
    size = size_of var.ty

    of_kind : (kind : Bool)
        → Fill (if kind then map (record_slab (record_size h) i (slot_of h.dims var)) (range_with_len 0 n) else fixed_slab i (slot_of h.dims var) ∷ [])
        (places size var.begin_at (if kind then record_size h ∷ slab_strides size lens else slab_strides size lens)
        (vectors_below (if kind then n ∷ lens else lens)))
    of_kind true =
        rows-fill size var.begin_at (record_size h) (slab_strides size lens) (vectors_below lens) (record_slab (record_size h) i (slot_of h.dims var))
        (λ k. slab-stands size lens (var.begin_at + k * record_size h) (var.begin_at + k * record_size h + product lens * size) refl) 0 n
    of_kind false =
        let all = places size var.begin_at (slab_strides size lens) (vectors_below lens) in
        (all, [], sym (append-nil all), slab-stands size lens var.begin_at (var.begin_at + product lens * size) refl, refl)

-- ---- of all variables

variables-fill : (h : Header) (n i : ℕ) (vars : List Var)
    → Fill (each_slot (slabs_of (record_size h) n) i (map (slot_of h.dims) vars)) (flat_map (variable_places h n) vars)
variables-fill h n i [] = refl
variables-fill h n i (var ∷ vars) =
    fill-append (slabs_of (record_size h) n i (slot_of h.dims var))
    (each_slot (slabs_of (record_size h) n) (i + 1) (map (slot_of h.dims) vars)) (variable_places h n var) (flat_map (variable_places h n) vars)
    (variable-fills h var n i) (variables-fill h n (i + 1) vars)

all-fill : (h : Header) (header_end file_len : ℕ) → Fill (all_slabs (layout_of h header_end file_len)) (value_places h file_len)
unfolding all_slabs
all-fill h header_end file_len =
    rw (size-is h.dims h.vars, count-is h header_end file_len) (variables-fill h (record_count h file_len) 0 h.vars)

pub values-apart : ApartSlabsHaveValuesApart
values-apart h header_end file_len none =
    let slabs = all_slabs (layout_of h header_end file_len) in
    let fill = all-fill h header_end file_len in
    record {
      values = fill-pairs slabs (value_places h file_len) none.slabs fill;
      header = fill-all (λ (value : ValuePlace). header_end ≤ value.begin) slabs (value_places h file_len)
          (All-weaker (λ (s : SlabPlace). header_end ≤ s.begin) (λ (s : SlabPlace). (v : ValuePlace) → Within s.begin s.end v → header_end ≤ v.begin)
          (λ s after v in_s. omega arith) slabs none.header) fill;
    }
