-- What is written of all arrays is the data part of the file.
use Rattle.nc_walk.proofs.Prelude.{◌≡◌, ℕ, zero, suc, ◌+◌, ◌*◌, ◌<◌, ◌≤◌, Bool, true, false, List, [], ◌∷◌, ◌++◌, length, drop, refl, sym, ◌∙◌, ap, arith, length-take, length-drop, append-nil, if◌then◌else◌, zip, flat_map, range_with_len, mul-le-mul_right, nil_from_length, Dim, Var, Header, block, data_of, fill_bytes, known_records, is_sole_narrow, padded_slab, record_part, slab_in, whole_array, whole_arrays, IsListed, AreListed, is_record_var, is_narrow, record_vars, slab_size, flat_map-below, ArrayView, array_view, filled_blocks, filled_records, filled_slabs, record_arrays}
use Rattle.nc_base.proofs.IsAt.{runs-all}
use Rattle.std.proofs.lemmas.Grind.{flat_map-append}
use Rattle.nc_walk.specs.code.DataPart.{whole_data, whole_records}
use Rattle.nc_walk.proofs.FilledArrays.{block-filled, record-filled, slabs-filled, whole-length}

-- one list of bytes for each variable
pub listed-len : (dims : List Dim) (n : ℕ) (vars : List Var) (listed : List (List ℕ)) → AreListed dims n vars listed → length listed ≡ length vars
listed-len dims n [] [] are = refl
listed-len dims n [] (array ∷ arrays) are = absurd are
listed-len dims n (var ∷ vars) [] are = absurd are
listed-len dims n (var ∷ vars) (array ∷ arrays) are = ap suc (listed-len dims n vars arrays are.1)

-- ---- blocks

pub blocks-filled : (dims : List Dim) (n : ℕ) (vars : List Var) (listed : List (List ℕ)) → AreListed dims n vars listed
    → filled_blocks dims vars listed ≡ flat_map (block dims) (zip vars (whole_arrays dims n vars listed))
blocks-filled dims n (var ∷ vars) (array ∷ arrays) are = grind (arith, block-filled, blocks-filled dims n vars arrays are.1)
blocks-filled dims n _ _ are = refl

-- ---- records

pub record-filled-all : (dims : List Dim) (n r : ℕ) (vars : List Var) (listed : List (List ℕ)) → r < n → AreListed dims n vars listed
    → filled_records r (record_arrays dims vars listed) ≡ flat_map (record_part false dims r) (zip vars (whole_arrays dims n vars listed))
record-filled-all dims n r (var ∷ vars) (array ∷ arrays) lt are =
    grind (arith, flat_map-append, append-nil, record-filled, record-filled-all dims n r vars arrays lt are.1)
record-filled-all dims n r _ _ lt are = refl

-- as many record variables as record arrays
record-arrays-len : (dims : List Dim) (vars : List Var) (listed : List (List ℕ)) → length listed ≡ length vars → length (record_arrays dims vars listed) ≡ length (record_vars dims vars)
record-arrays-len dims [] [] same = refl
record-arrays-len dims [] (array ∷ arrays) same = absurd (omega arith)
record-arrays-len dims (var ∷ vars) [] same = absurd (omega arith)
record-arrays-len dims (var ∷ vars) (array ∷ arrays) same = of_kind (is_record_var dims var) (record-arrays-len dims vars arrays (omega arith))
  where
    of_kind : (kind : Bool) → length (record_arrays dims vars arrays) ≡ length (record_vars dims vars)
        → length ((if kind then array_view dims var array ∷ [] else []) ++ record_arrays dims vars arrays) ≡ length (if kind then var ∷ record_vars dims vars else record_vars dims vars)
    of_kind true e = ap suc e
    of_kind false e = e

-- the records of variables, if none or several of them are record variables
pub records-filled : (dims : List Dim) (n : ℕ) (vars : List Var) (listed : List (List ℕ)) → AreListed dims n vars listed → (length (record_arrays dims vars listed) ≡ 1 → ⊥)
    → flat_map (λ r. filled_records r (record_arrays dims vars listed)) (range_with_len 0 n)
    ≡ flat_map (λ r. flat_map (record_part (is_sole_narrow (record_vars dims vars)) dims r) (zip vars (whole_arrays dims n vars listed))) (range_with_len 0 n)
records-filled dims n vars listed are several = grind (arith, record-arrays-len, listed-len, flat_map-below, record-filled-all)

pub no-records : (n k : ℕ) → flat_map (λ r. filled_records r []) (range_with_len k n) ≡ []
no-records zero k = refl
no-records (suc n) k = no-records n (k + 1)

-- ---- one record variable

-- where there is no record variable, a record has no slab
none-of : (is_sole : Bool) (dims : List Dim) (n r : ℕ) (vars : List Var) (listed : List (List ℕ)) → record_arrays dims vars listed ≡ []
    → flat_map (record_part is_sole dims r) (zip vars (whole_arrays dims n vars listed)) ≡ []
none-of is_sole dims n r (var ∷ vars) (array ∷ arrays) none = grind (arith, none-of is_sole dims n r vars arrays)
none-of is_sole dims n r _ _ none = refl

-- the sole record variable
record IsSole (dims : List Dim) (n : ℕ) (vars : List Var) (listed : List (List ℕ)) (view : ArrayView) : Type 0 where
  pub var : Var
  pub bytes : List ℕ
  pub view_is : view ≡ array_view dims var bytes
  pub growing : is_record_var dims var ≡ true
  pub listed_is : IsListed dims n var bytes
  pub vars_are : record_vars dims vars ≡ var ∷ []
  pub record_is : (is_sole : Bool) (r : ℕ) → flat_map (record_part is_sole dims r) (zip vars (whole_arrays dims n vars listed)) ≡ record_part is_sole dims r (var, whole_array dims n var bytes)

sole-found : (dims : List Dim) (n : ℕ) (vars : List Var) (listed : List (List ℕ)) (view : ArrayView) → AreListed dims n vars listed → record_arrays dims vars listed ≡ view ∷ []
    → IsSole dims n vars listed view
sole-found dims n (var ∷ vars) (array ∷ arrays) view are one = of_kind (sole-found dims n vars arrays view are.1) (is_record_var dims var) refl one
  where
    of_kind : (record_arrays dims vars arrays ≡ view ∷ [] → IsSole dims n vars arrays view) → (kind : Bool) → is_record_var dims var ≡ kind
        → (if kind then array_view dims var array ∷ [] else []) ++ record_arrays dims vars arrays ≡ view ∷ [] → IsSole dims n (var ∷ vars) (array ∷ arrays) view
    of_kind found true e first =
        let none : record_arrays dims vars arrays ≡ [] = cc in
        let no_vars : record_vars dims vars ≡ [] =
        nil_from_length (record_vars dims vars) (sym (record-arrays-len dims vars arrays (listed-len dims n vars arrays are.1)) ∙ ap (λ (xs : List ArrayView). length xs) none) in
        record {
          var = var;
          bytes = array;
          view_is = cc;
          growing = e;
          listed_is = are.0;
          vars_are = ap (λ (b : Bool). if b then var ∷ record_vars dims vars else record_vars dims vars) e ∙ ap (λ (xs : List Var). var ∷ xs) no_vars;
          record_is = λ is_sole r. ap (λ (x : List ℕ). record_part is_sole dims r (var, whole_array dims n var array) ++ x) (none-of is_sole dims n r vars arrays none) ∙ append-nil _;
        }
    of_kind found false e later =
        let rest = found later in
        record {
          var = rest.var;
          bytes = rest.bytes;
          view_is = rest.view_is;
          growing = rest.growing;
          listed_is = rest.listed_is;
          vars_are = ap (λ (b : Bool). if b then var ∷ record_vars dims vars else record_vars dims vars) e ∙ rest.vars_are;
          record_is = λ is_sole r. let h = rest.record_is is_sole r in grind (arith, e);
        }
sole-found dims n _ _ view are one = absurd cc

-- the slab of a sole record variable stands without padding, whatever its type
unpadded : (dims : List Dim) (r : ℕ) (var : Var) (array : List ℕ) → is_record_var dims var ≡ true → length (slab_in dims var array r) ≡ slab_size dims var
    → record_part (is_narrow var) dims r (var, array) ≡ slab_in dims var array r
unfolding padded_slab fill_bytes
unpadded dims r var array growing long = grind (arith, append-nil)

-- the records of a sole record variable are its array
pub sole-filled : (dims : List Dim) (n : ℕ) (vars : List Var) (listed : List (List ℕ)) (view : ArrayView) → AreListed dims n vars listed → record_arrays dims vars listed ≡ view ∷ []
    → filled_slabs n view ≡ flat_map (λ r. flat_map (record_part (is_sole_narrow (record_vars dims vars)) dims r) (zip vars (whole_arrays dims n vars listed))) (range_with_len 0 n)
sole-filled dims n vars listed view are one =
    let sole = sole-found dims n vars listed view are one in
    let var = sole.var in
    let s : ℕ = slab_size dims var in
    let whole = whole_array dims n var sole.bytes in
    let long : length whole ≡ n * s = whole-length dims n var sole.bytes sole.growing sole.listed_is in
    ap (filled_slabs n) sole.view_is
    ∙ sym (slabs-filled dims n var sole.bytes sole.growing sole.listed_is)
    ∙ sym (runs-all whole s n long)
    ∙ flat_map-below (slab_in dims var whole) (λ r. flat_map (record_part (is_sole_narrow (record_vars dims vars)) dims r) (zip vars (whole_arrays dims n vars listed))) 0 n
    (λ r low high.
    let up : (r + 1) * s ≤ n * s = mul-le-mul_right s (let h : r + 1 ≤ n = omega arith in h) in
    let next : (r + 1) * s ≡ r * s + s = omega arith in
    let slab_long : length (slab_in dims var whole r) ≡ s = omega (arith, up, next, long, length-take s (drop (r * s) whole), length-drop (r * s) whole) in
    sym (unpadded dims r var whole sole.growing slab_long)
    ∙ ap (λ (xs : List Var). record_part (is_sole_narrow xs) dims r (var, whole)) (sym sole.vars_are)
    ∙ sym (sole.record_is (is_sole_narrow (record_vars dims vars)) r))

-- ---- both parts

pub data-filled : (h : Header) (listed : List (List ℕ)) → AreListed h.dims (known_records h.numrecs) h.vars listed
    → whole_data h listed ≡ filled_blocks h.dims h.vars listed ++ whole_records h listed
unfolding data_of
data-filled h listed are = grind (arith, blocks-filled)
