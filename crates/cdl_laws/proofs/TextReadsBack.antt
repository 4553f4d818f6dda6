-- The full dump of a dataset that a text can declare means that dataset, trimmed.
use Rattle.cdl_laws.proofs.Prelude.{◌≡◌, ℕ, true, false, List, [], ◌∷◌, ◌++◌, map, ◌∙◌, ap, refl, append_assoc, append-nil, None, Ok, codes, arith, rules, ◌<◌, slice_index_or, KeepsFill, IsSoundDim, Enter, act, DataText, variables_text, concat_parts, Dataset, Att, Header, Var, Options, dump_text, shown_data_text, values_in_dataset, shown_data, selection_of, is_selected, data_word, closing_word, head_text, netcdf_word, dims_text, vars_text, gatts_text, Variables, Values, Ended, meaning, piece_read, empty, finished, are_within_limits, dataset_of, cut_lexemes, lexemes, pieces_of, IsFull, trimmed, trimmed_att, in_turn, list_all, Dim, unknown, IsGood, bare_var, IsName, slab_count, has_small_array, is_sound, records_in, sound_is_tested, TextReadsBack, AreDistinct, IsSayable, Draft, and_both, some_count, each_of, record_vars, get_or-map, map_none}
use Rattle.cdl_laws.proofs.Readings.{no_draft, IsFit, state, draft_of, says_takes, pieces_are, run_is}
use Rattle.cdl_laws.proofs.DataTexts.{all_marked}
use Rattle.cdl_laws.proofs.Datasets.{AreBack, are_back, data_whole}
use Rattle.cdl_laws.proofs.Ends.{opening_bytes, opened, dims_part, vars_part, gatts_part, data_says, end_taken, after_dims, after_vars}
use Rattle.cdl_laws.proofs.Sayables.{new_after, none_before, draft_name, var_name, atts_new, atts_speak, new_dims, dim_name}
use Rattle.cdl_laws.proofs.Trimmed.{good_still}

dump_is : (h : Header) (o : Options) (n : ℕ) (section : DataText) →
    dump_text h o n section ≡ opening_bytes o.name ++ 10 ∷ (dims_text n h.dims ++ (vars_text h.dims h.vars ++ (gatts_text h.gatts ++ (data_word h o ++ (section.text ++ closing_word section.ending)))))
unfolding concat_parts head_text netcdf_word
dump_is h o n section = search (rules, codes, append_assoc, append-nil)

-- all variables are selected
selected : (h : Header) (o : Options) (vars : List Var) → o.chosen ≡ None → o.coords ≡ false → map (is_selected h o) vars ≡ all_marked vars
selected h o [] c d = refl
selected h o (var ∷ vars) c d = search (rules, selected h o vars c d)

-- after the head
data_read : (d : Dataset) (o : Options) (n : ℕ) (gatts : List Att) → IsFull o → (vars : List Var) (arrays : List (List ℕ)) → d.header.vars ≡ vars → (b : AreBack d n o.width 0 vars arrays) → AreDistinct (map var_name vars) →
    in_turn (piece_read d.header.version) (state (after_vars (after_dims d.header.dims) vars) d.header.dims gatts (map draft_of vars))
    (pieces_of (data_word d.header o ++ ((variables_text (shown_data d.header (values_in_dataset d) n o.width) 0 vars (all_marked vars)).text ++ codes "}\n"))) ≡ Ok (state Ended d.header.dims gatts b.drafts)
unfolding data_word act
data_read d o n gatts full [] arrays none b distinct = grind (arith, end_taken, map_none (λ (w : Draft). w.var) b.drafts b.vars_are)
data_read d o n gatts full (var ∷ vars) arrays some b distinct =
    let h = d.header in
    let text = (variables_text (shown_data h (values_in_dataset d) n o.width) 0 (var ∷ vars) (all_marked (var ∷ vars))).text ++ codes "}\n" in
    let s = state Variables h.dims gatts (map draft_of (var ∷ vars)) in
    let word : data_word h o ≡ codes "data:\n" = grind (arith, full.values, some) in
    ap (λ w. in_turn (piece_read h.version) s (pieces_of (w ++ text))) word ∙
    says_takes h.version (codes "data:\n") (Enter Values) s (state Values h.dims gatts (map draft_of (var ∷ vars))) (data_says h.version) refl text ∙
    b.taken gatts [] (none_before draft_name (map var_name (var ∷ vars))) distinct (codes "}\n") ∙ end_taken h.version Values h.dims gatts b.drafts refl

-- ---- the whole text

ready : (d : Dataset) (o : Options) → IsSayable d → IsFull o → (section : DataText) → (g : IsGood d) → section ≡ shown_data_text d.header o (values_in_dataset d) g.records (selection_of d.header o) →
    meaning (dump_text d.header o g.records section) d.header.version ≡ Ok (trimmed d)
unfolding finished closing_word are_within_limits
ready d o s full section g is =
    let h = d.header in
    let v = h.version in
    let n = g.records in
    let fit = each_of (IsFit v h.dims) h.vars (λ k var within. record {
      name = (g.names.vars k var within).0;
      shape = (g.is_sound.vars k var within).shape;
      ty = (g.is_sound.vars k var within).ty;
      atts = atts_new v (slice_index_or h.vars k var).atts (s.vars k var within).atts.names (atts_speak v _ (g.is_sound.vars k var within).atts (g.values.vars k var within) (s.vars k var within).atts.some (g.names.vars k var within).1);
      bare = ap (λ (it : Header). (slice_index_or it.vars k var).begin_at) g.is_bare ∙ ap (λ (w : Var). w.begin_at) (get_or-map bare_var h.vars k var var within);
    }) in
    let valid = each_of (λ (var : Var). IsName var.name × KeepsFill var × (0 < slab_count h.dims var)) h.vars
    (λ k var within. ((g.names.vars k var within).0, (s.vars k var within).fill, some_count h.dims _ (g.is_sound.vars k var within).shape)) in
    let b = are_back d n o.width 0 h.vars d.arrays refl g.arrays valid in
    let bytes = dump_text h o n section in
    let gatts = map trimmed_att h.gatts in
    let end = state Ended h.dims gatts b.drafts in
    let none : record_vars h.dims h.vars ≡ [] → n ≡ 0 = λ e. (let known = ap (λ (k : Header). k.numrecs) g.is_bare in cc (known, s.records e)) in
    let count : records_in h.dims b.drafts ≡ n = grind (arith, b.records, none) in
    let back : dataset_of v end ≡ trimmed d = search (rules, b.arrays_are, b.vars_are, count) in
    let sound = (sound_is_tested (trimmed d).header).1 (good_still d g).is_sound in
    let small : are_within_limits v end ≡ true = and_both _ _ (ap (λ (e : Dataset). is_sound e.header) back ∙ sound) (ap (λ m. list_all (has_small_array h.dims m) b.drafts) count ∙ b.small) in
    let dim_names = each_of (λ (dim : Dim). IsName dim.name) h.dims g.names.dims in
    let dims = new_dims v [] h.dims (none_before dim_name (map dim_name h.dims)) s.dims (each_of (IsSoundDim v) h.dims g.is_sound.dims) dim_names g.is_sound.one_record_dim in
    let vars = new_after var_name draft_name draft_of (λ done var. IsFit v h.dims var × no_draft var.name done) (IsFit v h.dims) (λ var. refl) (λ done var f new. (f, new)) [] h.vars (none_before draft_name (map var_name h.vars)) s.names fit in
    let fresh = atts_new v h.gatts s.gatts.names (atts_speak v h.gatts g.is_sound.gatts g.values.gatts s.gatts.some g.names.gatts) in
    let values = data_read d o n gatts full h.vars d.arrays refl b s.names in
    let whole_text : in_turn (piece_read v) empty (cut_lexemes (lexemes bytes)) ≡ Ok end =
    grind (arith, selected, data_whole d n o.width 0 h.vars, dump_is, opened, dims_part, vars_part, gatts_part, values) in
    grind (arith, run_is bytes v empty, pieces_are bytes, whole_text)

pub text_reads_back : TextReadsBack
text_reads_back d o text s full is = grind (arith, unknown, ready)
