use Rattle.cdl_parse.proofs.Prelude.{◌≡◌, ℕ, suc, ◌+◌, ◌<◌, Bool, true, false, List, [], ◌∷◌, length, refl, ap, ◌∙◌, arith, Option, None, Some, Result, Ok, Err, if◌then◌else◌, position_from, bytes_eq, is_name, CdlKind, BadName, UnknownVariable, Draft, change_named, change_variable, unless, FailsRead, names_of, position_of, ReadError, at_position, ◌>>=◌, not_allowed, rules, sym, subst, map, length-map, word_value, stopped}
use Rattle.cdl_parse.proofs.variable_lookup.variable_position.Goals as goal

-- The variable of a name is the one at the name's position.
module _ (name : List ℕ) (f : Draft → Result Draft CdlKind) where
  abbrev place : ℕ → List Draft → Option ℕ
  place i ds = position_from (λ other. bytes_eq other name) i (names_of ds)

  -- what the variable at a position becomes
  abbrev Found : ℕ → List Draft → ℕ → Type 0
  Found i ds k = (j : ℕ) × (k ≡ i + j) × (j < length ds) × (change_named name f ds ≡ at_position j f ds)

  found_at : (i : ℕ) (ds : List Draft) (k : ℕ) → place i ds ≡ Some k → Found i ds k
  found_at i [] k is = cc
  found_at i (d ∷ ds) k is = by (bytes_eq d.var.name name) (found_at (i + 1) ds k) is
    where
      by : (same : Bool) → (place (i + 1) ds ≡ Some k → Found (i + 1) ds k) → (if same then Some i else place (i + 1) ds) ≡ Some k →
          (j : ℕ) × (k ≡ i + j) × (j < suc (length ds)) × ((if same then (f d >>= (λ e. Ok (e ∷ ds))) else (change_named name f ds >>= (λ es. Ok (d ∷ es)))) ≡ at_position j f (d ∷ ds))
      by true more is = (0, (let first : i ≡ k = cc in omega (arith, first)), omega arith, refl)
      by false more is = let found = more is in (suc found.0, omega (arith, found.1), omega (arith, found.2), ap (λ (r : Result (List Draft) CdlKind). r >>= (λ es. Ok (d ∷ es))) found.3)

  not_found : (i : ℕ) (ds : List Draft) → place i ds ≡ None → change_named name f ds ≡ Err UnknownVariable
  not_found i [] is = refl
  not_found i (d ∷ ds) is = by (bytes_eq d.var.name name) (not_found (i + 1) ds) is
    where
      by : (same : Bool) → (place (i + 1) ds ≡ None → change_named name f ds ≡ Err UnknownVariable) → (if same then Some i else place (i + 1) ds) ≡ None →
          (if same then (f d >>= (λ e. Ok (e ∷ ds))) else (change_named name f ds >>= (λ es. Ok (d ∷ es)))) ≡ Err UnknownVariable
      by true more is = cc
      by false more is = ap (λ (r : Result (List Draft) CdlKind). r >>= (λ es. Ok (d ∷ es))) (more is)

  named_as : (ds : List Draft) → is_name name ≡ true → change_variable name f ds ≡ change_named name f ds
  unfolding change_variable
  named_as ds named = rw (named) refl

  pub no_name : (ds : List Draft) (e : ReadError) → FailsRead e (unless (is_name name) BadName) → FailsRead e (change_variable name f ds)
  unfolding change_variable
  no_name ds e h = not_allowed e name (λ named. unless named BadName >>= (λ u. change_named name f ds)) refl h

  pub unknown : (ds : List Draft) → is_name name ≡ true → position_of (names_of ds) name ≡ None → change_variable name f ds ≡ Err UnknownVariable
  unknown ds named is = named_as ds named ∙ not_found 0 ds is

  pub changed : (ds : List Draft) (k : ℕ) → is_name name ≡ true → position_of (names_of ds) name ≡ Some k → change_variable name f ds ≡ at_position k f ds
  changed ds k named is = grind (arith, found_at 0 ds k is, named_as ds named)

within : (name : List ℕ) (names : List (List ℕ)) (k : ℕ) → position_of names name ≡ Some k → k < length names
within name names k is = let h = by 0 names k is in omega (arith, h)
  where
    by : (i : ℕ) (names : List (List ℕ)) (k : ℕ) → position_from (λ other. bytes_eq other name) i names ≡ Some k → k < i + length names
    by i [] k is = cc
    by i (x ∷ names) k is = step (bytes_eq x name) (by (i + 1) names k) is
      where
        step : (same : Bool) → (position_from (λ other. bytes_eq other name) (i + 1) names ≡ Some k → k < i + 1 + length names) →
            (if same then Some i else position_from (λ other. bytes_eq other name) (i + 1) names) ≡ Some k → k < i + suc (length names)
        step true more is = let first : i ≡ k = cc in omega (arith, first)
        step false more is = let later = more is in omega (arith, later)

pub returns-in_err-name-clause-finds : goal.returns-in_err-name-clause-finds
returns-in_err-name-clause-finds g c = λ drafts h change.
    let name = word_value c.args.word.now in
    let e = c.in_err-name.field-0.0 in
    stopped (λ position. at_position position change drafts) c.from_residual.result e (change_variable name change drafts) (search rules)
    (no_name name change drafts e c.in_err-name.ensures.fault)

pub returns-in-Some-clause-finds : goal.returns-in-Some-clause-finds
returns-in-Some-clause-finds g c = λ drafts h change.
    let same = c.as_slice.ensures.value ∙ c.in_ok-name.ensures.name in
    changed (word_value c.args.word.now) change drafts c.in-Some.position c.in_ok-name.ensures.allowed
    (ap (position_of (names_of drafts)) (sym same) ∙ ap (λ names. position_of names c.as_slice.result.now) (sym h) ∙ sym c.find.ensures ∙ c.in-Some.is)

pub returns-in-Some-clause-within : goal.returns-in-Some-clause-within
returns-in-Some-clause-within g c = subst (λ n. c.in-Some.position < n) (length-map c.args.variables.now g.T.Named.name_of) (within c.as_slice.result.now (map g.T.Named.name_of c.args.variables.now) c.in-Some.position (sym c.find.ensures ∙ c.in-Some.is))

pub returns-clause-finds : goal.returns-clause-finds
returns-clause-finds g c = λ drafts h change.
    let same = c.as_slice.ensures.value ∙ c.in_ok-name.ensures.name in
    unknown (word_value c.args.word.now) change drafts c.in_ok-name.ensures.allowed
    (ap (position_of (names_of drafts)) (sym same) ∙ ap (λ names. position_of names c.as_slice.result.now) (sym h) ∙ sym c.find.ensures ∙ c.in-None.is)
