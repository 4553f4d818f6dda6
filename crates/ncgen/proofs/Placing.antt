-- The begins of a header change nothing of its values.
use Rattle.ncgen.proofs.Prelude.{Header, block, data_of, fill_bytes, is_sole_narrow, known_records, padded_slab, record_part, vars_with_begins, with_begins, bare_var, AreListed, whole_arrays, listed_data, flat_map-same, ◌≡◌, ◌∙◌, ℕ, List, [], ◌∷◌, ◌++◌, Bool, map, refl, sym, ap, ap₂, zip}
use Rattle.std.specs.List.{flat_map, range_with_len}
use Rattle.nc_base.specs.declared.{header.Dim.Dim, header.Var.Var}
use Rattle.nc_base.specs.Fill.{fill_value}
use Rattle.nc_base.specs.Sizes.{record_vars}
use Rattle.nc_base.proofs.FileHolds.{bare-after, records-bare}

module _ (h : Header) (dims : List Dim) (n : ℕ) where
  -- pieces that no begin changes
  pieces-after : (f : Var × List ℕ → List ℕ) → ((var : Var) (at : ℕ) (array : List ℕ) → f (record var { begin_at = at }, array) ≡ f (var, array)) → (before vars : List Var) (listed : List (List ℕ))
      → flat_map f (zip (vars_with_begins h before vars) (whole_arrays dims n (vars_with_begins h before vars) listed)) ≡ flat_map f (zip vars (whole_arrays dims n vars listed))
  unfolding fill_value
  pieces-after f same before (var ∷ vars) (l ∷ ls) = ap₂ (λ (a b : List ℕ). a ++ b) (same var _ _) (pieces-after f same (before ++ var ∷ []) vars ls)
  pieces-after f same before _ _ = refl

  pub listed-after : (before vars : List Var) (listed : List (List ℕ)) → AreListed dims n vars listed → AreListed dims n (vars_with_begins h before vars) listed
  listed-after before [] [] are = tt
  listed-after before [] (l ∷ ls) are = absurd are
  listed-after before (var ∷ vars) [] are = absurd are
  listed-after before (var ∷ vars) (l ∷ ls) are =
      (record { count = are.0.count; within = are.0.within; whole = are.0.whole }, listed-after (before ++ var ∷ []) vars ls are.1)

-- ---- a sole narrow record variable

sole-bare : (vars : List Var) → is_sole_narrow (map bare_var vars) ≡ is_sole_narrow vars
sole-bare [] = refl
sole-bare (var ∷ []) = refl
sole-bare (var ∷ next ∷ vars) = refl

sole-records-bare : (dims : List Dim) (vars : List Var) → is_sole_narrow (record_vars dims (map bare_var vars)) ≡ is_sole_narrow (record_vars dims vars)
sole-records-bare dims vars = ap is_sole_narrow (records-bare dims vars) ∙ sole-bare (record_vars dims vars)

sole-after : (h : Header) → is_sole_narrow (record_vars h.dims (vars_with_begins h [] h.vars)) ≡ is_sole_narrow (record_vars h.dims h.vars)
sole-after h =
    sym (sole-records-bare h.dims (vars_with_begins h [] h.vars))
    ∙ ap (λ (vars : List Var). is_sole_narrow (record_vars h.dims vars)) (bare-after h [] h.vars)
    ∙ sole-records-bare h.dims h.vars

-- ---- all values

pub data-after : (h : Header) (listed : List (List ℕ)) → listed_data (with_begins h) listed ≡ listed_data h listed
unfolding data_of with_begins fill_value padded_slab fill_bytes
data-after h listed =
    let n = known_records h.numrecs in
    let pairs : (List Var → List (Var × List ℕ)) = λ vars. zip vars (whole_arrays h.dims n vars listed) in
    let records : (Bool → List Var → List ℕ) = λ is_sole vars. flat_map (λ r. flat_map (record_part is_sole h.dims r) (pairs vars)) (range_with_len 0 n) in
    ap₂ (λ (a b : List ℕ). a ++ b) (pieces-after h h.dims n (block h.dims) (λ var at array. refl) [] h.vars listed)
    (ap (λ (is_sole : Bool). records is_sole (vars_with_begins h [] h.vars)) (sole-after h)
    ∙ flat_map-same _ _ (range_with_len 0 n) (λ r. pieces-after h h.dims n (record_part (is_sole_narrow (record_vars h.dims h.vars)) h.dims r) (λ var at array. refl) [] h.vars listed))
