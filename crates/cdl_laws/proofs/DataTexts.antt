-- The data section of a dump, variable after variable.
use Rattle.cdl_laws.proofs.Prelude.{is_some, option_map, ◌≡◌, ℕ, Bool, true, List, ◌∷◌, ◌++◌, length, map, sym, refl, ℤ, if◌then◌else◌, Option, None, Some, Ok, arith, DataText, Att, Dim, Header, Var, Version, VariableValues, with_variable, fill_value, IsName, is_record_var, Look, variable_text, Values, trimmed_var, Value, Listed, State, Draft, act, filled, IsStatement, values_listed}
use Rattle.cdl_laws.proofs.Readings.{filled_whole, Takes, says_takes, takes_both, no_draft, variable_is, state, draft_of}

-- ---- one variable

-- The text of these values gives them back: a value that the text doesn't list is the fill value. Of a record variable the text
-- lists every value.
pub record Gives (v : Version) (dims : List Dim) (look : Look) (var : Var) (values : List ℤ) : Type 0 where
  pub said : List Value
  pub says : IsStatement v Values (variable_text look values) (Listed var.name said)
  pub listed : List ℤ
  pub added : values_listed dims (trimmed_var var) said ≡ Ok listed
  pub full : filled (length values) (fill_value (trimmed_var var)) listed ≡ values
  pub exact : is_record_var dims var ≡ true → listed ≡ values

-- a text that lists all values
pub gives_all : (v : Version) (dims : List Dim) (look : Look) (var : Var) (xs : List ℤ) (said : List Value) → IsStatement v Values (variable_text look xs) (Listed var.name said) → values_listed dims (trimmed_var var) said ≡ Ok xs → Gives v dims look var xs
gives_all v dims look var xs said says added =
    record { said = said; says = says; listed = xs; added = added; full = filled_whole (length xs) (fill_value (trimmed_var var)) xs refl; exact = λ e. refl }

-- ---- all variables

abbrev pub given_draft : Var → Option (List ℤ) → Draft
given_draft var o = record { var = trimmed_var var; listed = o }

abbrev pub all_marked : List Var → List Bool
all_marked vars = map (λ (w : Var). true) vars

-- one variable before others: its text gives back its values, if it has any
pub one_taken : (v : Version) (h : Header) (gatts : List Att) (before after : List Draft) (look : Look) (var : Var) (c : VariableValues) (o : Option (Gives v h.dims look var c.values)) (place : ℕ) (others : DataText) (t : State) (b : Bool) →
    IsName var.name → no_draft var.name before → c.missing ≡ None → is_some o ≡ b →
    Takes v others.text (state Values h.dims gatts (before ++ given_draft var (option_map (λ g. g.listed) o) ∷ after)) t →
    Takes v (if b then with_variable look c.values c.missing place others else others).text (state Values h.dims gatts (before ++ draft_of var ∷ after)) t
unfolding act
one_taken v h gatts before after look var c None place others t b valid new all shown more = rw (sym shown) more
one_taken v h gatts before after look var c (Some g) place others t b valid new all shown more =
    let s = state Values h.dims gatts (before ++ draft_of var ∷ after) in
    let u = state Values h.dims gatts (before ++ given_draft var (Some g.listed) ∷ after) in
    rw (sym shown, all) (takes_both v (variable_text look c.values) others.text s u t (says_takes v (variable_text look c.values) (Listed var.name g.said) s u g.says (grind (arith, variable_is))) more)
