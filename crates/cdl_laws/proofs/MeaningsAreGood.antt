-- What a text means is good.
use Rattle.cdl_laws.proofs.Prelude.{ok_when, bytes_each, ◌≡◌, ℕ, List, [], ◌∷◌, map, ap, sym, refl, subst, arith, None, Some, All, rules, AreBytes, Att, Dim, Known, Var, Version, IsGood, bare_var, IsName, record_vars, MeaningsAreGood, MeaningsAreNearlySayable, IsNearlySayable, Lexeme, lexeme, statements, piece_read, run, empty, records_in, dataset_of, header_of, finished, AreDistinct, AreSayableAtts, HasSomeNumber, Statement, DeclareDimensions, DeclareVariables, Attribute, Listed, State, Draft, act, with_att, with_values, Token, IsByte, IsWhole, OkIs, all_of, are_bytes, Each, each_map, meanings_are_whole, ok_next, ok_then, map-map, Value, ℤ}
use Rattle.cdl_laws.proofs.Said.{HasBytes, IsSaid, shape_says, piece_bytes, word_type}
use Rattle.cdl_laws.proofs.Sayables.{att_name, draft_name}
use Rattle.cdl_laws.proofs.Fine.{AreFine, AreFineDims, IsFineAtt, IsFineDim, IsFineDraft, KeepsFine, att_keeps, dims_keep, vars_keep, at_keeps}

-- ---- the run

pub record IsFineState (v : Version) (s : State) : Type 0 where
  pub dims : AreFineDims v s.dims
  pub gatts : AreFine (IsFineAtt v) att_name s.gatts
  pub drafts : AreFine (IsFineDraft v) draft_name s.drafts

relisted : (v : Version) (d : Draft) (xs : List ℤ) → IsFineDraft v d → IsFineDraft v (record d { listed = Some xs })
relisted v d xs f = record { name = f.name; ty = f.ty; atts = f.atts; bare = f.bare }

listed_keeps : (v : Version) (dims : List Dim) (xs : List Value) → KeepsFine v (with_values dims xs)
listed_keeps v dims xs d f = search (rules, ok_when, ok_next, relisted)

act_keeps : (v : Version) (s : State) (st : Statement) → IsFineState v s → IsSaid v st → OkIs (IsFineState v) (act v s st)
unfolding act
act_keeps v s (DeclareDimensions ds) f said = grind (arith, dims_keep v s.dims ds f.dims, ok_then)
act_keeps v s (DeclareVariables word vs) f said = grind (arith, word_type v word, ok_then, vars_keep v s.dims)
act_keeps v s (Attribute None name cs) f said = grind (arith, att_keeps v name cs s.gatts said f.gatts, ok_then)
act_keeps v s (Attribute (Some variable) name cs) f said = grind (arith, at_keeps v variable (with_att name cs) (λ d g. grind (arith, att_keeps v name cs d.var.atts said g.atts, ok_then)) s.drafts f.drafts, ok_then)
act_keeps v s (Listed variable xs) f said = grind (arith, at_keeps v variable (with_values s.dims xs) (listed_keeps v s.dims xs) s.drafts f.drafts, ok_then)
act_keeps v s _ f said = record { dims = f.dims; gatts = f.gatts; drafts = f.drafts }

piece_keeps : (v : Version) (s : State) (piece : List Lexeme) → Each HasBytes piece → IsFineState v s → OkIs (IsFineState v) (piece_read v s piece)
unfolding piece_read
piece_keeps v s piece bytes f = grind (arith, shape_says v s.section piece bytes, act_keeps v s)

run_keeps : (text : List ℕ) (v : Version) (s : State) (ps : List (List Token)) → Each IsByte text → IsFineState v s → OkIs (IsFineState v) (run text v s ps)
unfolding run
run_keeps text v s [] bytes f = f
run_keeps text v s (p ∷ ps) bytes f = grind (arith, piece_keeps v s (map (lexeme text) p) (piece_bytes text p bytes) f, (λ (t : State). run_keeps text v t ps bytes))

none_fine : (v : Version) → IsFineState v empty
none_fine v = record { dims = record { each = record { fine = tt; names = tt }; one_record = omega arith }; gatts = record { fine = tt; names = tt }; drafts = record { fine = tt; names = tt } }

-- what the statements of a text of bytes give
pub text_keeps : (text : List ℕ) (v : Version) → AreBytes text → OkIs (IsFineState v) (run text v empty (statements text))
text_keeps text v bytes = run_keeps text v empty (statements text) (bytes_each text bytes) (none_fine v)

-- ---- the parts

pub each_of_map : {X Y : Type 0} (P : Y → Type 0) (f : X → Y) (xs : List X) → Each (λ x. P (f x)) xs → Each P (map f xs)
each_of_map P f [] h = tt
each_of_map P f (x ∷ xs) h = (h.0, each_of_map P f xs h.1)

bare_same : (v : Version) (ds : List Draft) → Each (IsFineDraft v) ds → map (λ (d : Draft). d.var) ds ≡ map bare_var (map (λ (d : Draft). d.var) ds)
bare_same v [] f = refl
bare_same v (d ∷ ds) f = search (rules, bare_same v ds f.1)

abbrev all_named : (v : Version) (atts : List Att) → AreFine (IsFineAtt v) att_name atts → All (λ (a : Att). IsName a.name) atts
all_named v atts f = all_of (λ (a : Att). IsName a.name) atts (each_map (IsFineAtt v) (λ (a : Att). IsName a.name) atts (λ a g. g.name) f.fine)

abbrev all_bytes : (v : Version) (atts : List Att) → AreFine (IsFineAtt v) att_name atts → All (λ (a : Att). AreBytes a.vals) atts
all_bytes v atts f = all_of (λ (a : Att). AreBytes a.vals) atts (each_map (IsFineAtt v) (λ (a : Att). AreBytes a.vals) atts (λ a g. are_bytes a.vals g.bytes) f.fine)

over_drafts : (v : Version) (s : State) (P : Var → Type 0) → IsFineState v s → ((d : Draft) → IsFineDraft v d → P d.var) → All P (map (λ (d : Draft). d.var) s.drafts)
over_drafts v s P f g = search (rules, all_of, each_of_map, each_map)

good : (v : Version) (s : State) → IsFineState v s → IsWhole v (dataset_of v s) → IsGood (dataset_of v s)
good v s f whole = record {
  records = records_in s.dims s.drafts;
  is_bare = ap (λ (vs : List Var). record (header_of v s) { vars = vs }) (bare_same v s.drafts f.drafts.fine);
  is_sound = whole.sound;
  names = record {
    dims = all_of (λ (d : Dim). IsName d.name) s.dims (each_map (IsFineDim v) (λ (d : Dim). IsName d.name) s.dims (λ d g. g.name) f.dims.each.fine);
    gatts = all_named v s.gatts f.gatts;
    vars = over_drafts v s (λ (var : Var). IsName var.name × All (λ (a : Att). IsName a.name) var.atts) f (λ d g. (g.name, all_named v d.var.atts g.atts));
  };
  values = record { gatts = all_bytes v s.gatts f.gatts; vars = over_drafts v s (λ (var : Var). All (λ (a : Att). AreBytes a.vals) var.atts) f (λ d g. all_bytes v d.var.atts g.atts) };
  arrays = whole.arrays;
}

-- ---- nearly sayable

sayable_atts : (v : Version) (atts : List Att) → AreFine (IsFineAtt v) att_name atts → AreSayableAtts atts
sayable_atts v atts f = record { names = f.names; some = all_of HasSomeNumber atts (each_map (IsFineAtt v) HasSomeNumber atts (λ a g. g.some) f.fine) }

no_records : (dims : List Dim) (ds : List Draft) → record_vars dims (map (λ (d : Draft). d.var) ds) ≡ [] → records_in dims ds ≡ 0
no_records dims [] h = refl
no_records dims (d ∷ ds) h = grind (arith, no_records dims ds)

nearly : (v : Version) (s : State) → IsFineState v s → IsWhole v (dataset_of v s) → IsNearlySayable (dataset_of v s)
nearly v s f whole = record {
  good = good v s f whole;
  dims = f.dims.each.names;
  gatts = sayable_atts v s.gatts f.gatts;
  names = subst AreDistinct (sym (map-map (λ (var : Var). var.name) (λ (d : Draft). d.var) s.drafts)) f.drafts.names;
  atts = over_drafts v s (λ (var : Var). AreSayableAtts var.atts) f (λ d g. sayable_atts v d.var.atts g.atts);
  records = λ h. ap Known (no_records s.dims s.drafts h);
}

-- ---- the laws

pub meanings_are_nearly_sayable : MeaningsAreNearlySayable
unfolding finished
meanings_are_nearly_sayable text v d bytes e = grind (arith, text_keeps text v bytes, meanings_are_whole text v d e, nearly v)

pub meanings_are_good : MeaningsAreGood
meanings_are_good text v d bytes e = ((meanings_are_nearly_sayable text v d bytes e).good, (meanings_are_whole text v d e).version)
