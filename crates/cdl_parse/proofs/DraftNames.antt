-- The names of variables, and their index.
use Rattle.cdl_parse.proofs.Prelude.{◌≡◌, ℕ, List, [], ◌∷◌, map, refl, sym, ap, ◌∙◌, is_some, Var, Draft, any_is, unlisted_drafts, names_of, position_of, var_names, draft_of, drafts_of, is_variable_name, var_of, variable_names, Variable}

-- the names of the variables are those of their drafts
pub names_are : (items : List Variable) → variable_names items ≡ names_of (drafts_of items)
names_are [] = refl
names_are (v ∷ items) = ap (λ ns. v.name ∷ ns) (names_are items)

-- and those of the variables of a header
pub header_names : (items : List Variable) → variable_names items ≡ var_names (map var_of items)
header_names [] = refl
header_names (v ∷ items) = ap (λ ns. v.name ∷ ns) (header_names items)

pub unlisted_names : (vars : List Var) → var_names vars ≡ names_of (unlisted_drafts vars)
unlisted_names [] = refl
unlisted_names (v ∷ vars) = ap (λ ns. v.name ∷ ns) (unlisted_names vars)

-- a name is among those of the variables where it has a position
pub taken_is : (items : List Variable) (name : List ℕ) → is_variable_name name (drafts_of items) ≡ is_some (position_of (variable_names items) name)
taken_is items name = any_is (λ (d : Draft). d.var.name) name (drafts_of items) ∙ ap (λ names. is_some (position_of names name)) (sym (names_are items))

-- the variables of a header are those that are read
pub fresh_is : (items : List Variable) (vars : List Var) (drafts : List Draft) → vars ≡ map var_of items → drafts_of items ≡ drafts → unlisted_drafts vars ≡ drafts
fresh_is items vars drafts are view = ap unlisted_drafts are ∙ each items ∙ view
  where
    each : (items : List Variable) → unlisted_drafts (map var_of items) ≡ drafts_of items
    each [] = refl
    each (v ∷ items) = ap (λ ds. draft_of v ∷ ds) (each items)
