-- A dataset that a text can declare is read back from its full dump.
use Rattle.cdl_laws.proofs.Prelude.{rules, IsArray, option_map, ◌≡◌, ℕ, ◌+◌, ◌*◌, ◌-◌, ◌/◌, ◌<◌, true, List, [], ◌∷◌, ◌++◌, map, ◌∙◌, ap, refl, arith, append_assoc, slice_index_or, ◌⊎◌, drop, sym, subst, KeepsFill, mul-add-div, div-eq_of_lt, Dataset, Dim, Var, values_in_dataset, AreArrays, IsName, slab_count, record_vars, trimmed_var, array_of, records_in, Draft, Each, list_all, record_size_of, padded_size, has_small_array, and_both, le-leb, AreDistinct, Att, get_or-drop, drop-drop, variables_text, shown_data, Values, whole, has_values, look_of, map-map}
use Rattle.cdl_laws.proofs.Given.{is_back}
use Rattle.cdl_laws.proofs.Readings.{Takes, state, draft_of}
use Rattle.cdl_laws.proofs.Sayables.{AreFresh, fresh_more, draft_name, var_name}
use Rattle.cdl_laws.proofs.DataTexts.{given_draft, all_marked, one_taken}

-- ---- the data section

counted : (slab n : ℕ) → 0 < slab → (slab * n + slab - 1) / slab ≡ n
counted slab n some = grind (arith, mul-add-div, div-eq_of_lt)

-- The text of the values of these variables gives back their arrays: after it the state has these drafts. They hold the dataset's number
-- of records where some variable is a record variable, and 0 records where none is.
pub record AreBack (d : Dataset) (n width place : ℕ) (vars : List Var) (arrays : List (List ℕ)) : Type 0 where
  pub drafts : List Draft
  pub vars_are : map (λ (w : Draft). w.var) drafts ≡ map trimmed_var vars
  pub arrays_are : map (array_of d.header.dims n) drafts ≡ arrays
  pub small : list_all (has_small_array d.header.dims n) drafts ≡ true
  pub records : ((record_vars d.header.dims vars ≡ []) × (records_in d.header.dims drafts ≡ 0)) ⊎ (records_in d.header.dims drafts ≡ n)
  pub taken : (gatts : List Att) (before : List Draft) → AreFresh draft_name before (map var_name vars) → AreDistinct (map var_name vars) →
      Takes d.header.version (variables_text (shown_data d.header (values_in_dataset d) n width) place vars (all_marked vars)).text
      (state Values d.header.dims gatts (before ++ map draft_of vars)) (state Values d.header.dims gatts (before ++ drafts))

pub are_back : (d : Dataset) (n width place : ℕ) (vars : List Var) (arrays : List (List ℕ)) → drop place d.arrays ≡ arrays → AreArrays d.header.dims n vars arrays →
    Each (λ (var : Var). IsName var.name × KeepsFill var × (0 < slab_count d.header.dims var)) vars → AreBack d n width place vars arrays
are_back d n width place [] [] at are all =
    record { drafts = []; vars_are = refl; arrays_are = refl; small = refl; records = grind arith; taken = λ gatts before fresh distinct. λ rest. refl }
are_back d n width place (var ∷ vars) (a ∷ arrays) at are all =
    let h = d.header in
    let array = slice_index_or d.arrays place [] in
    let here : array ≡ a = grind (arith, get_or-drop place d.arrays 0 [], ap (λ xs. slice_index_or xs 0 []) at) in
    let fits : has_small_array h.dims n (draft_of var) ≡ true = search (rules, le-leb, are.0.small, are.0.whole) in
    let b = is_back h.version h n width var array (subst (IsArray h.dims n var) (sym here) are.0) all.0.0 all.0.1 in
    let others = are_back d n width (place + 1) vars arrays (sym (drop-drop 1 place d.arrays) ∙ ap (drop 1) at) are.1 all.1 in
    let draft = given_draft var (option_map (λ g. g.listed) b.o) in
    record {
      drafts = draft ∷ others.drafts;
      vars_are = ap (λ vs. trimmed_var var ∷ vs) others.vars_are;
      arrays_are = ap (λ x. x ∷ map (array_of h.dims n) others.drafts) (b.back ∙ here) ∙ ap (λ xs. a ∷ xs) others.arrays_are;
      small = and_both _ _ fits others.small;
      records = grind (arith, counted, others.records, b.exact, all.0.2);
      taken = λ gatts before fresh distinct. one_taken h.version h gatts before _ (look_of h var n width) var (values_in_dataset d place var) b.o place _ _ (has_values h.dims n var) all.0.0 fresh.0 refl b.shown
          (simp append_assoc at (others.taken gatts (before ++ draft ∷ []) (fresh_more draft_name before draft (map var_name vars) fresh.1 distinct.0) distinct.1));
    }
are_back d n width place _ _ at are all = absurd are

-- and the section is whole
pub data_whole : (d : Dataset) (n width place : ℕ) (vars : List Var) → (variables_text (shown_data d.header (values_in_dataset d) n width) place vars (all_marked vars)).ending ≡ whole
data_whole d n width place [] = refl
data_whole d n width place (var ∷ vars) = grind (arith, data_whole d n width (place + 1) vars)

-- ---- without the NULs

pub record_trimmed : (dims : List Dim) (vars : List Var) → record_vars dims (map trimmed_var vars) ≡ map trimmed_var (record_vars dims vars)
record_trimmed dims [] = refl
record_trimmed dims (var ∷ vars) = grind (arith, record_trimmed dims vars)

pub same_record : (dims : List Dim) (vars : List Var) → record_size_of dims (record_vars dims (map trimmed_var vars)) ≡ record_size_of dims (record_vars dims vars)
same_record dims vars = ap (record_size_of dims) (record_trimmed dims vars) ∙ grind (arith, map-map (padded_size dims) trimmed_var (record_vars dims vars))
