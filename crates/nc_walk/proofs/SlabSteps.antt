-- The slabs of a variable of a sound header.
use Rattle.nc_walk.proofs.Prelude.{◌≡◌, ℕ, ◌+◌, ◌-◌, ◌*◌, ◌/◌, ◌%◌, ◌<◌, length, get_or, map, sym, ◌∙◌, ap, subst, arith, if◌then◌else◌, range_with_len, All-get_or, div-add-mod', Var, Header, size_of, is_record_var, record_size, slab_count, IsSound, IsSoundVar, some_count, Slabs, total, offset, offsets_from, offsets_after, slabs_of, IsSized, AreSlabsOf}
use Rattle.std.proofs.lemmas.Option.{slice_get_read}
use Rattle.nc_walk.proofs.Orders.{at_first, shifted, offsets_in_order}

-- the variable in a cursor is sound
pub sound_var : (h : Header) (v : ℕ) (var : Var) → IsSound h → v < length h.vars → var ≡ get_or h.vars v var → IsSoundVar h.version h.dims var
sound_var h v var sound lt at = subst (IsSoundVar h.version h.dims) (sym at) (All-get_or (IsSoundVar h.version h.dims) h.vars v var lt sound.vars)

pub sized : (h : Header) (var : Var) (n : ℕ) → IsSound h → IsSoundVar h.version h.dims var → IsSized (slabs_of h var n)
sized h var n sound s = grind (arith, some_count)

-- ---- slabs side by side

-- all slabs as one
abbrev pub one_slab : Slabs → Slabs
one_slab l = record l { values_per_slab = total l; total_slabs = 1 }

side_by_side_at : (l : Slabs) (i : ℕ) → l.values_per_slab * l.size ≡ l.stride → offset l i ≡ l.begin + i * l.size
side_by_side_at l i e =
    let n = l.values_per_slab in
    let f : l.begin + i / n * (n * l.size) + i % n * l.size ≡ l.begin + (i / n * n + i % n) * l.size = omega arith in
    ap (λ (k : ℕ). l.begin + i / n * k + i % n * l.size) (sym e) ∙ f ∙ ap (λ (k : ℕ). l.begin + k * l.size) (div-add-mod' i n)

-- the values of slabs that stand side by side have the same offsets in one slab
pub joined_offsets : (l : Slabs) → l.values_per_slab * l.size ≡ l.stride → offsets_after (one_slab l) 0 ≡ offsets_after l 0
unfolding offsets_from
joined_offsets l e =
    let all : total (one_slab l) - 0 ≡ total l - 0 = omega arith in
    let same : (q : ℕ) → q < 0 + (total l - 0) → offset (one_slab l) q ≡ offset l (0 + q) = λ q lt.
    let f : q ≡ 0 + q = omega arith in
    at_first (one_slab l) q (omega arith) ∙ sym (side_by_side_at l q e) ∙ ap (offset l) f in
    ap (λ (k : ℕ). map (offset (one_slab l)) (range_with_len 0 k)) all ∙ shifted (offset (one_slab l)) (offset l) 0 0 (total l - 0) same

-- ---- of a variable

pub same_slabs : (h : Header) (n : ℕ) (var : Var) (stride values_per_slab total_slabs size : ℕ)
    → stride ≡ record_size h → values_per_slab ≡ slab_count h.dims var → total_slabs ≡ (if is_record_var h.dims var then n else 1) → size ≡ size_of var.ty
    → record { begin = var.begin_at; stride = stride; values_per_slab = values_per_slab; total_slabs = total_slabs; size = size } ≡ slabs_of h var n
same_slabs h n var stride values_per_slab total_slabs size a b c d = cc

pub sized_slabs : (h : Header) (v n : ℕ) (var : Var) (l : Slabs) → IsSound h → v < length h.vars → var ≡ get_or h.vars v var → l ≡ slabs_of h var n → IsSized l
sized_slabs h v n var l sound lt at same = subst IsSized (sym same) (sized h var n sound (sound_var h v var sound lt at))

pub are_slabs : (h : Header) (v n : ℕ) (var : Var) (l joined : Slabs) → v < length h.vars → var ≡ get_or h.vars v var → l ≡ slabs_of h var n
    → joined.size ≡ l.size → offsets_after joined 0 ≡ offsets_after l 0 → IsSized joined → AreSlabsOf h v n joined
are_slabs h v n var l joined lt at same size offsets is_sized = grind (arith, slice_get_read h.vars, offsets_in_order h var n, total, sized)
