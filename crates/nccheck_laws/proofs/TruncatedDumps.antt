-- The dump of all values is whole if no variable has a first missing value, and otherwise ends at one.
use Rattle.nccheck_laws.proofs.Prelude.{list_any, not, Header, Var, Bytes, SpellsHeader, ltb-false, first_missing, lacks_values, is_some, false≢true, All-head, All-tail, slab_size, record-whole, ShowsAllValues, ◌≡◌, ℕ, ◌+◌, ◌≤◌, Bool, true, false, List, [], ◌∷◌, map, refl, arith, None, All, if◌then◌else◌}
use Rattle.nc_base.specs.Dump.{Options, Ending, whole, data_truncated, IsDump, stopped, unknown, shown, has_values, shown_data, values_in_file, variables_text}
use Rattle.nc_base.proofs.HeaderOutcomes.{one-header, header-fine}
use Rattle.nccheck_laws.proofs.WholeVariables.{some-values}

-- the slab has at least one byte
abbrev pub HasBytes : Header → Var → Type 0
HasBytes h var = 1 ≤ slab_size h.dims var

-- a variable without values has no missing one
no-values : (h : Header) (bytes : Bytes) (var : Var) (n : ℕ) → HasBytes h var → has_values h.dims n var ≡ false
    → first_missing h bytes var n ≡ None
no-values h bytes var n some none = grind (arith, some-values, record-whole, ltb-false)

-- a dump that ends so has its whole text
abbrev pub is_whole : Ending → Bool
is_whole whole = true
is_whole other = false

-- what tells the two endings apart
abbrev pub TellsEndings : (Ending → Bool) → Type 0
TellsEndings says = (variable value : ℕ) → says (data_truncated variable value) ≡ not (says whole)

-- a data section of all variables is whole if none of them has a missing value, and otherwise ends at one
section-ends : (says : Ending → Bool) → TellsEndings says → (h : Header) (bytes : Bytes) (n width : ℕ) (test : Var → Bool) → ((var : Var) → test var ≡ true)
    → (v : ℕ) (vars : List Var) → All (HasBytes h) vars
    → says (variables_text (shown_data h (values_in_file h bytes n) n width) v vars (map test vars)).ending
    ≡ (if list_any (λ (var : Var). is_some (first_missing h bytes var n)) vars then not (says whole) else says whole)
section-ends says tells h bytes n width test all v [] some = refl
section-ends says tells h bytes n width test all v (var ∷ vars) some = grind (arith, tells, section-ends says tells h bytes n width test all (v + 1) vars (All-tail (HasBytes h) var vars some), no-values, All-head, All-tail, false≢true)

pub dump-ends : (says : Ending → Bool) → TellsEndings says → (h : Header) (bytes rest : Bytes) (o : Options) (text : Bytes) (ending : Ending)
    → SpellsHeader bytes h rest → All (HasBytes h) h.vars → ShowsAllValues o → IsDump bytes o text ending
    → says ending ≡ (if list_any (lacks_values h bytes) h.vars then not (says whole) else says whole)
dump-ends says tells h bytes rest o text ending spelled some all (stopped fault end stops) = absurd (header-fine bytes h rest fault end spelled stops)
dump-ends says tells h bytes rest o text ending spelled some all (unknown k more index s u) = grind arith
dump-ends says tells h bytes rest o text ending spelled some all (shown k more n section s knows count is) = grind (arith, one-header, section-ends says tells)
