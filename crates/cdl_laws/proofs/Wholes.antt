-- The head of a dump, statement after statement.
use Rattle.cdl_laws.proofs.Prelude.{◌≡◌, ℕ, ◌^◌, ◌<◌, true, false, List, [], ◌∷◌, ◌++◌, map, sym, subst, arith, append_assoc, append-nil, None, Some, Ok, list_any, bytes_eq, concat_parts, Att, Dim, Var, Version, escaped_name, AreDimids, att_line, att_lines, var_lines, IsName, type_word, count_limit, has_type, Section, Variables, trimmed_att, trimmed_var, DeclareVariables, Attribute, State, Draft, act, declaration, EachAfter, type_of, AttributeReadsBack, escaped_owner, Value, add_att, Option, DeclarationReadsBack}
use Rattle.cdl_laws.proofs.Texts.{word}
use Rattle.cdl_laws.proofs.ValueTexts.{turn}
use Rattle.cdl_laws.proofs.Takes.{Takes, says_takes, takes_both}
use Rattle.cdl_laws.proofs.Declarations.{Speaks, owned_says, declaration_says}
use Rattle.cdl_laws.proofs.Acts.{record_once, is_new_att, att_added, no_draft, variable_is, AreDistinctDims, HaveNames, bare_draft, ids_named, var_added}

abbrev pub state : Section → List Dim → List Att → List Draft → State
state section dims gatts drafts = record { section = section; dims = dims; gatts = gatts; drafts = drafts }

-- lines after each of which one thing more stands in the state
pub all_taken : {X Y : Type 0} (v : Version) (line : X → List ℕ) (f : X → Y) (P : List Y → X → Type 0) (now : List Y → State) →
    ((done : List Y) (x : X) → P done x → Takes v (line x) (now done) (now (done ++ f x ∷ []))) →
    (done : List Y) (xs : List X) → EachAfter f P done xs → Takes v (concat_parts (map line xs)) (now done) (now (done ++ map f xs))
unfolding concat_parts
all_taken v line f P now step done [] all = grind (arith, append-nil)
all_taken v line f P now step done (x ∷ xs) all =
    grind (arith, takes_both, append_assoc, all_taken v line f P now step (done ++ f x ∷ []) xs all.1)

-- ---- dimensions

-- dimensions that can stand after these
abbrev pub IsNewDim : Version → List Dim → Dim → Type 0
IsNewDim v done d =
    IsName d.name × (list_any (λ (e : Dim). bytes_eq e.name d.name) done ≡ false) × (d.len < count_limit v) ×
    (d.len < 2 ^ 64) × record_once done d.len

-- ---- attributes

-- attributes whose lines can be read, none of which has the name of one before
abbrev pub AreNewAtts : Version → List Att → Type 0
AreNewAtts v atts = EachAfter trimmed_att (λ before a. Speaks v a × is_new_att before (trimmed_att a)) [] atts

-- the attributes of the dataset, or of a variable: each is read back as one, and as one it comes after those before it
pub atts_taken : (v : Version) (owner : Option (List ℕ)) (now : List Att → State) → ((done : List Att) (a : Att) → Speaks v a → AttributeReadsBack v (now done).section owner a) →
    ((done : List Att) (a : Att) (said : List Value) → add_att a.name said done ≡ Ok (done ++ trimmed_att a ∷ []) → act v (now done) (Attribute owner a.name said) ≡ Ok (now (done ++ trimmed_att a ∷ []))) →
    (atts : List Att) → AreNewAtts v atts → Takes v (concat_parts (map (att_line (escaped_owner owner)) atts)) (now []) (now (map trimmed_att atts))
atts_taken v owner now says acts atts new =
    all_taken v (att_line (escaped_owner owner)) trimmed_att (λ done a. Speaks v a × is_new_att done (trimmed_att a)) now (λ done a h. let r = says done a h.0 in
    says_takes v (att_line (escaped_owner owner) a) (Attribute owner a.name r.constants) (now done) (now (done ++ trimmed_att a ∷ [])) r.statement
    (acts done a r.constants (att_added done (trimmed_att a) r.constants h.0.name h.1 r.ty r.vals))) [] atts new

-- ---- variables

-- what the head of a variable is read back by
pub record IsFit (v : Version) (dims : List Dim) (var : Var) : Type 0 where
  pub name : IsName var.name
  pub shape : AreDimids dims [] var.dimids
  pub ty : has_type v var.ty ≡ true
  pub atts : AreNewAtts v var.atts
  pub bare : var.begin_at ≡ 0

-- more the state has it after its declaration and attributes
abbrev pub draft_of : Var → Draft
draft_of var = record { var = trimmed_var var; listed = None }

pub declared : (v : Version) (dims : List Dim) (var : Var) → IsName var.name → AreDimids dims [] var.dimids → HaveNames dims → AreDistinctDims dims → has_type v var.ty ≡ true → DeclarationReadsBack v dims var
unfolding type_of var_lines concat_parts
declared v dims var name are names distinct known = (let named = ids_named dims [] var.dimids distinct names are in grind (arith, append_assoc, append-nil, declaration_says, name, named.0, named.1, named.2))

pub var_taken : (v : Version) (dims : List Dim) (gatts : List Att) (before : List Draft) (var : Var) → IsFit v dims var → no_draft var.name before → AreDistinctDims dims → HaveNames dims →
    Takes v (var_lines dims var) (state Variables dims gatts before) (state Variables dims gatts (before ++ draft_of var ∷ []))
unfolding act att_lines
var_taken v dims gatts before var fit new distinct names =
    let shown = map (att_line (escaped_name var.name)) var.atts in
    let s = state Variables dims gatts before in
    let now : List Att → State = λ atts. state Variables dims gatts (before ++ bare_draft var.name var.dimids atts var.ty ∷ []) in
    let u = state Variables dims gatts (before ++ draft_of var ∷ []) in
    let r = declared v dims var fit.name fit.shape names distinct fit.ty in
    rw (r.lines) (takes_both v (declaration dims var) (concat_parts shown) s (now []) u
    (says_takes v (declaration dims var) (DeclareVariables (word (type_word var.ty)) (record { name = var.name; dimensions = r.names } ∷ [])) s (now []) r.statement
    (grind (arith, turn, r.ty, var_added dims var.ty before var.name r.names var.dimids fit.name new r.dimids)))
    (subst (λ b. Takes v (concat_parts shown) (now []) (state Variables dims gatts (before ++ record { var = record { name = var.name; dimids = var.dimids; atts = map trimmed_att var.atts; ty = var.ty; begin_at = b }; listed = None } ∷ []))) (sym fit.bare)
    (atts_taken v (Some var.name) now (λ done. owned_says v var.name fit.name) (λ done a said e. grind (arith, variable_is, e)) var.atts fit.atts)))
