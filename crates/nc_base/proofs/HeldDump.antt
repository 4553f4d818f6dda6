-- The dump of a file that holds a dataset is the text of that dataset.
use Rattle.nc_base.proofs.Prelude.{◌≡◌, ℕ, suc, ◌+◌, ◌≤◌, Bool, ◌&&◌, ◌||◌, List, [], ◌∷◌, length, map, refl, sym, ◌∙◌, ap, subst, arith, Option, Some, None, All, not, if◌then◌else◌, slice_index_or, rules, record_count, concat, position, bytes_eq, length-map, All-head, All-tail, All-map, All-weaker, fails_before_first, Header, Var, Dataset, numbers, bare_var, bare, fill_value, Look, look_of, SpellsHeader, stored_bytes, stored_values, ends_after, first_missing, HoldsDataset, Options, Ending, DataText, VariableValues, has_variable, has_values, first_unknown, selection_of, values_in_file, values_in_dataset, with_variable, variables_text, shown_data_text, data_word, dump_text, IsDump, IsText, shown_data, stopped, unknown, shown, is_shown, is_unknown}
use Rattle.std.proofs.Math.Path.{fun_ext}
use Rattle.nc_base.specs.HeadText.{vars_text, var_lines, head_text}
use Rattle.nc_base.proofs.HeaderOutcomes.{one-header, header-fine}
use Rattle.nc_base.proofs.WholeValues.{map-map, numbers-concat, length-whole}

-- ---- whole values

all-whole : (size : ℕ) (b xs : List ℕ) → position (ends_after size (length b)) xs ≡ None → All (λ offset. offset + size ≤ length b) xs
all-whole size b xs none = grind (arith, fails_before_first)

-- the numbers of a variable without a missing value
pub whole-numbers : (h : Header) (b : List ℕ) (var : Var) (n : ℕ) → first_missing h b var n ≡ None → numbers var.ty (concat (stored_bytes h b var n)) ≡ stored_values h b var n
whole-numbers h b var n none = search (rules, numbers-concat, All-map, All-weaker, length-whole, all-whole)

-- ---- a header without its begins

any-bare : (name : List ℕ) (vars : List Var) → has_variable (map bare_var vars) name ≡ has_variable vars name
any-bare name [] = refl
any-bare name (var ∷ vars) = ap (λ (b : Bool). bytes_eq var.name name || b) (any-bare name vars)

variables-bare : (vars : List Var) → has_variable (map bare_var vars) ≡ has_variable vars
variables-bare vars = fun_ext (λ name. any-bare name vars)

-- ---- the values

look-bare : (h : Header) (var : Var) (n width : ℕ) → look_of (bare h n) (bare_var var) n width ≡ look_of h var n width
unfolding look_of fill_value
look-bare h var n width = refl

-- a variable's values, if they are shown, and those after it
abbrev row : Bool → ℕ → Look → VariableValues → DataText → DataText
row shows v look content others = if shows then with_variable look content.values content.missing v others else others

values-held : (h : Header) (bytes : List ℕ) (n width : ℕ) (d : Dataset) (vars : List Var) (v : ℕ) (marks : List Bool)
    → ((k : ℕ) → slice_index_or d.arrays (v + k) [] ≡ slice_index_or (map (λ (var : Var). concat (stored_bytes h bytes var n)) vars) k [])
    → All (λ (var : Var). first_missing h bytes var n ≡ None) vars
    → variables_text (shown_data (bare h n) (values_in_dataset d) n width) v (map bare_var vars) marks ≡ variables_text (shown_data h (values_in_file h bytes n) n width) v vars marks
values-held h bytes n width d (var ∷ vars) v (mark ∷ marks) arrays whole =
    let Whole : Var → Type 0 = λ x. first_missing h bytes x n ≡ None in
    let none : first_missing h bytes var n ≡ None = All-head Whole var vars whole in
    let here : slice_index_or d.arrays v [] ≡ concat (stored_bytes h bytes var n) =
    ap (λ (k : ℕ). slice_index_or d.arrays k []) (let e : v ≡ v + 0 = omega arith in e) ∙ arrays 0 in
    let values : numbers var.ty (slice_index_or d.arrays v []) ≡ stored_values h bytes var n = ap (numbers var.ty) here ∙ whole-numbers h bytes var n none in
    let content : values_in_dataset d v (bare_var var) ≡ values_in_file h bytes n v var =
    grind arith in
    let rest = values-held h bytes n width d vars (v + 1) marks
    (λ k. ap (λ (i : ℕ). slice_index_or d.arrays i []) (let e : v + 1 + k ≡ v + suc k = omega arith in e) ∙ arrays (suc k)) (All-tail Whole var vars whole) in
    let shows : Bool = mark && has_values h.dims n var in
    ap (λ (s : DataText). row shows v (look_of (bare h n) (bare_var var) n width) (values_in_dataset d v (bare_var var)) s) rest
    ∙ ap (λ (c : VariableValues). row shows v (look_of (bare h n) (bare_var var) n width) c (variables_text (shown_data h (values_in_file h bytes n) n width) (v + 1) vars marks)) content
    ∙ ap (λ (l : Look). row shows v l (values_in_file h bytes n v var) (variables_text (shown_data h (values_in_file h bytes n) n width) (v + 1) vars marks)) (look-bare h var n width)
values-held h bytes n width d _ v _ arrays whole = refl

-- ---- the dump

-- the dataset of this header and these bytes
abbrev held : Header → List ℕ → ℕ → Dataset
held h bytes n = record { header = bare h n; arrays = map (λ (var : Var). concat (stored_bytes h bytes var n)) h.vars }

held-is : (bytes : List ℕ) (d : Dataset) (s : HoldsDataset bytes d) → d ≡ held s.header bytes s.records
held-is bytes d s = grind arith

text-held : (h : Header) (o : Options) (n : ℕ) (section : DataText) → dump_text (bare h n) o n section ≡ dump_text h o n section
unfolding head_text vars_text var_lines data_word
text-held h o n section = grind (arith, length-map, map-map)

unknown-bare : (vars : List Var) (chosen : Option (List (List ℕ))) → first_unknown (map bare_var vars) chosen ≡ first_unknown vars chosen
unknown-bare vars None = refl
unknown-bare vars (Some names) = ap (λ (known : List ℕ → Bool). position (λ (name : List ℕ). not (known name)) names) (variables-bare vars)

dump-of-held : (h : Header) (bytes rest : List ℕ) (n : ℕ) (o : Options) (t : List ℕ) (ending : Ending) → SpellsHeader bytes h rest → n ≡ record_count h (length bytes)
    → All (λ (var : Var). first_missing h bytes var n ≡ None) h.vars → IsText (held h bytes n) o t ending → IsDump bytes o t ending
dump-of-held h bytes rest n o t ending spelled counted whole dumped =
    grind (arith, unknown, unknown-bare, map-map, values-held, text-held, shown)

-- the text of the dataset is the dump of each file that holds it
pub held-dump : (bytes : List ℕ) (d : Dataset) (o : Options) (t : List ℕ) (ending : Ending) → HoldsDataset bytes d → IsText d o t ending → IsDump bytes o t ending
held-dump bytes d o t ending s is =
    dump-of-held s.header bytes s.rest s.records o t ending s.spelled s.counted s.whole (subst (λ (x : Dataset). IsText x o t ending) (held-is bytes d s) is)

-- ---- back

one : (bytes : List ℕ) (h k : Header) (rest more : List ℕ) → SpellsHeader bytes h rest → SpellsHeader bytes k more → h ≡ k
one bytes h k rest more s t = (one-header bytes h k rest more s t).0

text-of-dump : (h : Header) (bytes rest : List ℕ) (n : ℕ) (o : Options) (t : List ℕ) (ending : Ending)
    → SpellsHeader bytes h rest → n ≡ record_count h (length bytes)
    → All (λ (var : Var). first_missing h bytes var n ≡ None) h.vars → IsDump bytes o t ending → IsText (held h bytes n) o t ending
text-of-dump h bytes rest n o t ending spelled counted whole (stopped fault end stops) = absurd (header-fine bytes h rest fault end spelled stops)
text-of-dump h bytes rest n o t ending spelled counted whole (unknown k more index s u) =
    is_unknown index (unknown-bare h.vars o.chosen ∙ ap (λ (x : Header). first_unknown x.vars o.chosen) (one bytes h k rest more spelled s) ∙ u)
text-of-dump h bytes rest n o t ending spelled counted whole (shown k more m section s knows count is) =
    let same : k ≡ h = one bytes k h more rest s spelled in
    let m_is : m ≡ n = count ∙ ap (λ (x : Header). record_count x (length bytes)) same ∙ sym counted in
    let all : section ≡ shown_data_text (bare h n) o (values_in_dataset (held h bytes n)) n (selection_of (bare h n) o) =
    grind (arith, map-map, values-held) in
    let words : dump_text k o m section ≡ dump_text (bare h n) o n section =
    ap (λ (x : Header). dump_text x o m section) same ∙ ap (λ (i : ℕ). dump_text h o i section) m_is ∙ sym (text-held h o n section) in
    subst (λ (x : List ℕ). IsText (held h bytes n) o x section.ending) (sym words)
    (is_shown n section (unknown-bare h.vars o.chosen ∙ ap (λ (x : Header). first_unknown x.vars o.chosen) (sym same) ∙ knows) refl all)

pub dump-held : (bytes : List ℕ) (d : Dataset) (o : Options) (t : List ℕ) (ending : Ending)
    → HoldsDataset bytes d → IsDump bytes o t ending → IsText d o t ending
dump-held bytes d o t ending s is =
    grind (arith, held-is bytes d s, text-of-dump s.header bytes s.rest s.records o t ending s.spelled s.counted s.whole is)

-- one header is one dataset
pub one-held : (bytes : List ℕ) (d e : Dataset) → HoldsDataset bytes d → HoldsDataset bytes e → d ≡ e
one-held bytes d e s t = grind (arith, one)
