-- The data part of a file, as it is written.
use Rattle.nc_walk.proofs.Prelude.{◌≡◌, ℕ, suc, ◌+◌, ◌-◌, ◌<◌, ◌≤◌, List, [], ◌++◌, length, get_or, map, drop, ap, arith, if◌then◌else◌, flat_map, range_with_len, drop_more, drop_all, Dim, Var, is_record_var, RecordSlab, ArrayView, array_view, filled_slab, filled_blocks, filled_record, filled_records, array_of}

-- ---- what is left of a list of variables and one of their arrays

pub blocks-left : (dims : List Dim) (vars : List Var) (arrays : List (List ℕ)) (v : ℕ) (var : Var) (array : List ℕ) → v < length vars → v < length arrays
    → var ≡ get_or vars v var → array ≡ get_or arrays v array
    → filled_blocks dims (drop v vars) (drop v arrays)
    ≡ (if is_record_var dims var then [] else filled_slab (array_view dims var array) array) ++ filled_blocks dims (drop (v + 1) vars) (drop (v + 1) arrays)
blocks-left dims vars arrays v var array p q at held = grind (arith, drop_more)

-- ---- records

-- one slab more of a list, of this array
pub slab-left : (r : ℕ) (arrays : List (List ℕ)) (slabs : List RecordSlab) (i : ℕ) (d : RecordSlab) (array : ArrayView) → i < length slabs → array ≡ array_of arrays (get_or slabs i d)
    → filled_records r (map (array_of arrays) (drop i slabs)) ≡ filled_record r array ++ filled_records r (map (array_of arrays) (drop (i + 1) slabs))
slab-left r arrays slabs i d array lt is = grind (arith, drop_more)

pub slab-none : (r : ℕ) (arrays : List (List ℕ)) (slabs : List RecordSlab) (i : ℕ) → length slabs ≤ i → filled_records r (map (array_of arrays) (drop i slabs)) ≡ []
slab-none r arrays slabs i le = ap (λ (xs : List RecordSlab). filled_records r (map (array_of arrays) xs)) (drop_all i slabs le)

-- one record more
pub rows-left : (f : ℕ → List ℕ) (r n : ℕ) → r < n → flat_map f (range_with_len r (n - r)) ≡ f r ++ flat_map f (range_with_len (r + 1) (n - (r + 1)))
rows-left f r n lt = let e : n - r ≡ suc (n - (r + 1)) = omega arith in ap (λ (k : ℕ). flat_map f (range_with_len r k)) e
