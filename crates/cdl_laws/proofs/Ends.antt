-- The opening, the section marks and the closing brace of a dump.
use Rattle.cdl_laws.proofs.Prelude.{EachAfter, nat_lt, ◌&&◌, section_number, ◌≡◌, ℕ, subst, None, ◌+◌, true, false, List, [], ◌∷◌, ◌++◌, length, map, ◌∙◌, ap, refl, arith, append_assoc, length-append, ◌==◌, Some, Ok, codes, rules, if◌then◌else◌, suc, false≢true, eqb-true, concat_parts, Att, Dim, Var, Version, escaped_name, is_reserved, name_of, is_plain, dim_line, dim_lines, dims_text, att_line, att_lines, var_lines, vars_text, gatts_text, dimensions_word, variables_word, global_word, IsName, Section, Globals, Dimensions, Variables, Values, Ended, scan, word_len, len_until, piece_read, empty, pieces_after, is_section, cut_lexemes, lexemes_at, lexemes, pieces_of, trimmed_att, Enter, shape, State, Draft, act, in_turn, globals, dimensions, variables, and_left, until_at_start, lt-ltb, not_none, IsStatement, map-id, DeclareDimensions, said_dim, add_dim, ◌>>=◌}
use Rattle.cdl_tokens.specs.declared.token.TokenKind.TheVariants as kinds
use Rattle.cdl_laws.proofs.Readings.{rest_of, marked, bare, begins, mark, word, prefix_again, some_name, marks_closed, turn, until_plain, Takes, says_takes, takes_both, state, IsNewDim, AreNewAtts, atts_taken, global_says, dim_says, IsFit, all_taken, var_taken, draft_of}
use Rattle.cdl_laws.proofs.Acts as acts

-- ---- section marks

pub dimensions_says : (v : Version) → IsStatement v Globals dimensions_word (Enter Dimensions)
unfolding dimensions_word pieces_of lexemes_at scan word_len pieces_after is_section shape
dimensions_says v = record { piece = word (codes "dimensions") ∷ mark 58 ∷ []; cut = λ rest. refl; says = record { sound = refl; shaped = refl } }

pub data_says : (v : Version) → IsStatement v Variables (codes "data:\n") (Enter Values)
unfolding name_of is_reserved pieces_of lexemes_at scan word_len pieces_after is_section shape
data_says v = record { piece = word (codes "data") ∷ mark 58 ∷ []; cut = λ rest. refl; says = record { sound = refl; shaped = refl } }

-- ---- the head's parts

abbrev pub after_dims : List Dim → Section
after_dims [] = Globals
after_dims (d ∷ dims) = Dimensions

abbrev pub after_vars : Section → List Var → Section
after_vars section [] = section
after_vars section (var ∷ vars) = Variables

-- the word of a section, and its lines
headed : (v : Version) (head : List ℕ) (lines : List (List ℕ)) (n : ℕ) (s t u : State) → Takes v head s t →
    Takes v (concat_parts lines) t u →
    Takes v (if suc n == 0 then [] else concat_parts (head ∷ concat_parts lines ∷ [])) s u
unfolding concat_parts
headed v head lines n s t u p q = search (rules, not_none, takes_both)

pub dims_part : (v : Version) (n : ℕ) (dims : List Dim) (gatts : List Att) (drafts : List Draft) → EachAfter (λ d. d) (IsNewDim v) [] dims →
    Takes v (dims_text n dims) (state Globals [] gatts drafts) (state (after_dims dims) dims gatts drafts)
unfolding dims_text dim_lines act
dims_part v n [] gatts drafts h = λ rest. refl
dims_part v n (d ∷ dims) gatts drafts h =
    headed v dimensions_word (map (dim_line n) (d ∷ dims)) (length dims) _ _ _
    (says_takes v dimensions_word (Enter Dimensions) _ _ (dimensions_says v) refl)
    (subst (λ all. Takes v (concat_parts (map (dim_line n) (d ∷ dims))) (now []) (now all)) (map-id (d ∷ dims))
    (all_taken v (dim_line n) (λ e. e) (IsNewDim v) now
    (λ done e new. says_takes v (dim_line n e) (DeclareDimensions (said_dim e ∷ [])) (now done) (now (done ++ e ∷ [])) (dim_says v n e new.0 new.3)
    (ap (λ r. r >>= (λ all. Ok (now all))) (turn (add_dim v) done (done ++ e ∷ []) (said_dim e) [] (acts.dim_added v done e new.0 new.1 new.2 new.4)))) [] (d ∷ dims) h))
  where
    now : List Dim → State
    now all = state Dimensions all gatts drafts

pub variables_says : (v : Version) (dims : List Dim) → IsStatement v (after_dims dims) variables_word (Enter Variables)
unfolding variables_word pieces_of lexemes_at scan word_len pieces_after is_section shape
variables_says v dims =
    record { piece = word (codes "variables") ∷ mark 58 ∷ []; cut = λ rest. refl; says = record { sound = refl; shaped = grind arith } }

pub vars_part : (v : Version) (dims : List Dim) (vars : List Var) (gatts : List Att) → acts.AreDistinctDims dims → acts.HaveNames dims → EachAfter draft_of (λ done w. IsFit v dims w × acts.no_draft w.name done) [] vars →
    Takes v (vars_text dims vars) (state (after_dims dims) dims gatts []) (state (after_vars (after_dims dims) vars) dims gatts (map draft_of vars))
unfolding vars_text act
vars_part v dims [] gatts distinct names fit = λ rest. refl
vars_part v dims (var ∷ vars) gatts distinct names fit =
    headed v variables_word (map (var_lines dims) (var ∷ vars)) (length vars) _ _ _
    (says_takes v variables_word (Enter Variables) _ _ (variables_says v dims) refl)
    (all_taken v (var_lines dims) draft_of (λ done w. IsFit v dims w × acts.no_draft w.name done) (λ drafts. state Variables dims gatts drafts) (λ before w is. var_taken v dims gatts before w is.0 is.1 distinct names) [] (var ∷ vars) fit)

-- the line before global attributes is a comment
pub comment_back : (rest : List ℕ) → pieces_of (global_word ++ rest) ≡ pieces_of rest
unfolding pieces_of global_word lexemes_at scan
comment_back rest = refl

pub gatts_part : (v : Version) (dims : List Dim) (vars : List Var) (gatts : List Att) (drafts : List Draft) → AreNewAtts v gatts →
    Takes v (gatts_text gatts) (state (after_vars (after_dims dims) vars) dims [] drafts) (state (after_vars (after_dims dims) vars) dims (map trimmed_att gatts) drafts)
unfolding gatts_text att_lines act
gatts_part v dims vars [] drafts new = λ rest. refl
gatts_part v dims vars (a ∷ gatts) drafts new =
    let section = after_vars (after_dims dims) vars in
    let now : List Att → State = λ done. state section dims done drafts in
    headed v global_word (map (att_line []) (a ∷ gatts)) (length gatts) _ _ _ (λ rest. ap (in_turn (piece_read v) _) (comment_back rest))
    (atts_taken v None now (λ done. global_says v section (grind (arith, globals, dimensions, variables))) (λ done att said e. ap (λ r. r >>= (λ all. Ok (now all))) e) (a ∷ gatts) new)

-- ---- the end

-- the closing brace ends any section
pub end_taken : (v : Version) (section : Section) (dims : List Dim) (gatts : List Att) (drafts : List Draft) → (nat_lt 0 (section_number section) && nat_lt (section_number section) 5) ≡ true → in_turn (piece_read v) (state section dims gatts drafts) (pieces_of (codes "}\n")) ≡ Ok (state Ended dims gatts drafts)
unfolding pieces_of lexemes_at scan pieces_after piece_read shape act
end_taken v section dims gatts drafts h = grind arith

-- ---- the opening

other_byte : (b n : ℕ) → is_plain b ≡ true → is_plain n ≡ false → (b == n) ≡ false
other_byte b n h k = grind (arith, false≢true, eqb-true b n)

until_rest : (bs rest : List ℕ) → len_until 0x7b (rest_of bs ++ 32 ∷ 123 ∷ rest) ≡ length (rest_of bs) + 1
unfolding len_until
until_rest [] rest = until_plain 0x7b 32 (123 ∷ rest) refl refl ∙ ap (λ n. 1 + n) (until_at_start 0x7b 123 rest)
until_rest (b ∷ bs) rest = grind (arith, until_rest bs rest, other_byte)

-- the dataset's name, which is looked at no further
abbrev pub opening_bytes : List ℕ → List ℕ
opening_bytes name = codes "netcdf " ++ (escaped_name name ++ codes " {")

opening_prefix_is : (name rest : List ℕ) → IsName name → scan true (opening_bytes name ++ 10 ∷ rest) ≡ record { kind = Some kinds.Opening; len = length (opening_bytes name) }
unfolding scan len_until
opening_prefix_is name rest h =
    search (rules, append_assoc, length-append, lt-ltb, false≢true, some_name, begins, and_left, marked, until_rest, bare, until_plain, other_byte)

pub opening_lexemes : (name rest : List ℕ) → IsName name → lexemes (opening_bytes name ++ 10 ∷ rest) ≡ record { kind = kinds.Opening; bytes = opening_bytes name } ∷ lexemes_at false 0 rest
opening_lexemes name rest h =
    prefix_again true (Some kinds.Opening) 110 (codes "etcdf " ++ (escaped_name name ++ codes " {")) (10 ∷ rest) (opening_prefix_is name rest h) ∙
    ap (λ ls. record { kind = kinds.Opening; bytes = opening_bytes name } ∷ ls) (marks_closed (codes "\n") refl rest)

-- all that stands after the opening decides
pub opened : (v : Version) (name rest : List ℕ) → IsName name →
    in_turn (piece_read v) empty (cut_lexemes (lexemes (opening_bytes name ++ 10 ∷ rest))) ≡ in_turn (piece_read v) (state Globals [] [] []) (pieces_of rest)
unfolding pieces_of pieces_after piece_read shape act
opened v name rest h = grind (arith, opening_lexemes, turn)
