use Rattle.cdl_parse.proofs.Prelude.{◌≡◌, ℕ, zero, suc, ◌<◌, Bool, true, false, List, [], ◌∷◌, length, get_or, set, drop, refl, sym, ap, ◌∙◌, arith, Result, Ok, Err, OnErr, if◌then◌else◌, false≢true, set-get_or, Att, completes, word_value, Lexeme, Value, AttributeName, CdlKind, Draft, add_att, with_att, Leaves, name_first, ReadError, draft_of, drafts_of, at_position, Variable, variable_names, ◌>>=◌, ⊤, rules, subst, FailsRead, version_of, words, lexeme_of, change_variable, constants_said, IsIndex}
use Rattle.cdl_parse.proofs.DraftNames.{names_are}
use Rattle.cdl_parse.proofs.variables.Variables.read_attribute.Goals as goal

-- A statement that gives a variable an attribute.

-- ---- the tokens before the attribute's name

past_name : (l : Lexeme) (ends : Bool) (ws all : List Lexeme) → all ≡ l ∷ (if ends then [] else ws) → completes AttributeName (drop 2 all) ≡ true → (ends ≡ false) × (drop 2 all ≡ drop 1 ws)
unfolding completes
past_name l ends ws all h h2 = grind (arith, false≢true)

past_colon : (l : Lexeme) (ends : Bool) (ws all : List Lexeme) → all ≡ l ∷ (if ends then [] else ws) → completes AttributeName (drop 1 all) ≡ true → (ends ≡ false) × (drop 1 all ≡ ws)
unfolding completes
past_colon l ends ws all h h2 = grind (arith, false≢true)

past_both : (l c : Lexeme) (a b : Bool) (ns ws all : List Lexeme) → completes AttributeName (drop 2 all) ≡ true → all ≡ l ∷ (if a then [] else ws) → ws ≡ c ∷ (if b then [] else ns) → (b ≡ false) × (drop 2 all ≡ ns)
past_both l c a b ns ws all on first second =
    let one = past_name l a ws all first on in
    let two = past_colon c b ns ws second (ap (completes AttributeName) (sym one.1) ∙ on) in
    (two.0, one.1 ∙ two.1)

name_is : (l : Lexeme) (ws all : List Lexeme) → all ≡ l ∷ ws → name_first all ≡ word_value l.bytes
name_is l ws all first = ap name_first first

-- ---- the variable at a position

put_at : (f : Draft → Result Draft CdlKind) (items : List Variable) (k : ℕ) (w v : Variable) → k < length items → w ≡ get_or items k w → f (draft_of w) ≡ Ok (draft_of v) →
    at_position k f (drafts_of items) ≡ Ok (drafts_of (set items k v))
put_at f [] k w v within is made = absurd (omega (arith, within))
put_at f (x ∷ items) zero w v within is made = ap (λ (y : Variable). f (draft_of y) >>= (λ e. Ok (e ∷ drafts_of items))) (sym is) ∙ ap (λ (r : Result Draft CdlKind). r >>= (λ e. Ok (e ∷ drafts_of items))) made
put_at f (x ∷ items) (suc k) w v within is made = ap (λ (r : Result (List Draft) CdlKind). r >>= (λ es. Ok (draft_of x ∷ es))) (put_at f items k w v (omega (arith, within)) is made)

fault_at : (f : Draft → Result Draft CdlKind) (items : List Variable) (k : ℕ) (w : Variable) (e : CdlKind) → k < length items → w ≡ get_or items k w → f (draft_of w) ≡ Err e → at_position k f (drafts_of items) ≡ Err e
fault_at f [] k w e within is made = absurd (omega (arith, within))
fault_at f (x ∷ items) zero w e within is made = ap (λ (y : Variable). f (draft_of y) >>= (λ d. Ok (d ∷ drafts_of items))) (sym is) ∙ ap (λ (r : Result Draft CdlKind). r >>= (λ d. Ok (d ∷ drafts_of items))) made
fault_at f (x ∷ items) (suc k) w e within is made = ap (λ (r : Result (List Draft) CdlKind). r >>= (λ es. Ok (draft_of x ∷ es))) (fault_at f items k w e (omega (arith, within)) is made)

-- with other attributes
abbrev with_atts : List Att → Variable → Variable
with_atts atts v = record v { atts = atts }

-- no other names
names_kept : (items : List Variable) (k : ℕ) (w : Variable) (atts : List Att) → w ≡ get_or items k w → variable_names (set items k (with_atts atts w)) ≡ variable_names items
names_kept [] k w atts is = refl
names_kept (x ∷ items) zero w atts is = ap (λ (v : Variable). v.name ∷ variable_names items) is
names_kept (x ∷ items) (suc k) w atts is = ap (λ ns. x.name ∷ ns) (names_kept items k w atts is)

changed_at : (name : List ℕ) (cs : List Value) (items : List Variable) (k : ℕ) (w : Variable) (atts : List Att) (r : Result ⊤ ReadError) → k < length items → w ≡ get_or items k w → Leaves atts r (add_att name cs w.atts) →
    Leaves (drafts_of (set items k (with_atts atts w))) r (at_position k (with_att name cs) (drafts_of items))
changed_at name cs items k w atts r h h2 h3 = grind (arith, put_at, fault_at)

-- with the attributes that it had the variable is what it was
unchanged_at : (items : List Variable) (k : ℕ) (w : Variable) (atts : List Att) (drafts : List Draft) (r : Result ⊤ ReadError) → w ≡ get_or items k w → drafts_of items ≡ drafts → OnErr r (atts ≡ w.atts) →
    OnErr r (drafts_of (set items k (with_atts atts w)) ≡ drafts)
unchanged_at items k w atts drafts (Ok u) is view same = tt
unchanged_at items k w atts drafts (Err e) is view same = ap (λ all. drafts_of (set items k (with_atts all w))) same ∙ ap (λ v. drafts_of (set items k v)) is ∙ ap drafts_of (set-get_or items k w) ∙ view

-- ---- the goals

pub advanced-requires-2 : goal.advanced-requires-2
advanced-requires-2 c = c.advanced.ensures.goes (past_name _ _ _ _ c.advanced.ensures.words c.requires.shaped).0

pub read_attribute-requires-clause-more : goal.read_attribute-requires-clause-more
read_attribute-requires-clause-more c = c.advanced-2.ensures.goes (past_both _ _ _ _ _ _ _ c.requires.shaped c.advanced.ensures.words c.advanced-2.ensures.words).0

pub read_attribute-requires-clause-shaped : goal.read_attribute-requires-clause-shaped
read_attribute-requires-clause-shaped c = ap (completes AttributeName) (sym (past_both _ _ _ _ _ _ _ c.requires.shaped c.advanced.ensures.words c.advanced-2.ensures.words).1) ∙ c.requires.shaped

pub invariant_of-self : goal.invariant_of-self
invariant_of-self c =
    let items = c.self.inside.list.items in
    subst (IsIndex c.self.inside.names) (sym (names_kept items c.in_ok-position.position c.index_mut-variable.result.now c.read_attribute.new.attributes c.index_mut-variable.ensures.value)) c.self.invariant

pub returns-clause-reads : goal.returns-clause-reads
returns-clause-reads c =
    let start = c.args.start in
    let name = c.advanced-2.result.0 in
    let items = c.self.inside.list.items in
    let drafts = drafts_of items in
    let at = c.in_ok-position.position in
    let variable = c.index_mut-variable.result.now in
    let atts = c.read_attribute.new.attributes in
    let change = with_att (name_first (words name)) (constants_said (version_of name) (words name)) in
    let within : at < length items = subst (λ (variables : List Variable). at < length variables) c.as_slice.ensures.value c.in_ok-position.ensures.within in
    let put = changed_at (name_first (words name)) (constants_said (version_of name) (words name)) items at variable atts c.read_attribute.result within c.index_mut-variable.ensures.value c.read_attribute.ensures.reads in
    let word = word_value c.lexeme.result.bytes.now in
    let same : change_variable (name_first (words start)) (with_att (name_first (drop 2 (words start))) (constants_said (version_of start) (drop 2 (words start)))) c.args.self.now ≡ at_position at change drafts =
    ap (change_variable (name_first (words start)) (with_att (name_first (drop 2 (words start))) (constants_said (version_of start) (drop 2 (words start))))) (sym c.self.view_is) ∙
    ap (λ n. change_variable n (with_att (name_first (drop 2 (words start))) (constants_said (version_of start) (drop 2 (words start)))) drafts) (name_is (lexeme_of c.lexeme.result) (drop 1 (words start)) (words start) (c.lexeme.ensures.first c.requires.more)) ∙
    ap (λ ws. change_variable word (with_att (name_first ws) (constants_said (version_of start) ws)) drafts) (past_both _ _ _ _ _ _ _ c.requires.shaped c.advanced.ensures.words c.advanced-2.ensures.words).1 ∙
    ap (λ v. change_variable word (with_att (name_first (words name)) (constants_said v (words name))) drafts) (sym (c.advanced-2.ensures.same.version ∙ c.advanced.ensures.same.version)) ∙
    c.in_ok-position.ensures.finds drafts (ap variable_names c.as_slice.ensures.value ∙ names_are items) change in
    subst (Leaves (drafts_of (set items at (with_atts atts variable))) c.read_attribute.result) (sym same) put

pub returns-clause-unchanged : goal.returns-clause-unchanged
returns-clause-unchanged c =
    unchanged_at c.self.inside.list.items c.in_ok-position.position c.index_mut-variable.result.now c.read_attribute.new.attributes c.args.self.now c.read_attribute.result c.index_mut-variable.ensures.value c.self.view_is c.read_attribute.ensures.unchanged

pub variable_position-requires : goal.variable_position-requires
variable_position-requires c = subst (λ (variables : List Variable). IsIndex c.self.inside.names (variable_names variables)) (sym c.as_slice.ensures.value) c.self.invariant

pub returns-in_err-position-clause-reads : goal.returns-in_err-position-clause-reads
returns-in_err-position-clause-reads c =
    let start = c.args.start in
    let items = c.self.inside.list.items in
    let change = with_att (name_first (drop 2 (words start))) (constants_said (version_of start) (drop 2 (words start))) in
    let e = c.in_err-position.field-0.0 in
    let fails : FailsRead e (change_variable (word_value c.lexeme.result.bytes.now) change (drafts_of items)) = c.in_err-position.ensures.finds (drafts_of items) (ap variable_names c.as_slice.ensures.value ∙ names_are items) change in
    let first = name_is (lexeme_of c.lexeme.result) (drop 1 (words start)) (words start) (c.lexeme.ensures.first c.requires.more) in
    let same : change_variable (word_value c.lexeme.result.bytes.now) change (drafts_of items) ≡ change_variable (name_first (words start)) change c.args.self.now = ap (λ n. change_variable n change (drafts_of items)) (sym first) ∙ ap (change_variable (name_first (words start)) change) c.self.view_is in
    let is : c.from_residual.result ≡ Err e = search rules in
    subst (λ (r : Result ⊤ ReadError). Leaves c.args.self.now r (change_variable (name_first (words start)) change c.args.self.now)) (sym is) (subst (FailsRead e) same fails)
