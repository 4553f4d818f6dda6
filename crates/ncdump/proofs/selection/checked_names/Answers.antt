use Rattle.ncdump.proofs.Prelude.{◌≡◌, ℕ, Bool, List, ap, Some, not, position, Var, has_variable, first_unknown, sym, ◌∙◌, holds}
use Rattle.std.proofs.Math.Path.{fun_ext}
use Rattle.ncdump.proofs.selection.checked_names.Goals as goal

-- The first name that no variable has, as a set of names finds it.
first-unknown : (vars : List Var) (names : List (List ℕ)) (known : List ℕ → Bool) → ((name : List ℕ) → has_variable vars name ≡ known name)
    → first_unknown vars (Some names) ≡ position (λ (name : List ℕ). not (known name)) names
first-unknown vars names known same = ap (λ (f : List ℕ → Bool). position (λ (name : List ℕ). not (f name)) names) (fun_ext same)

pub returns-in-Some : goal.returns-in-Some
returns-in-Some c =
    first-unknown c.args.vars.now c.args.names.now (holds c.in_ok-known.known) (λ name. sym (c.in_ok-known.ensures name)) ∙ sym c.first_unknown.ensures ∙ c.in-Some.is

pub returns : goal.returns
returns c = (first-unknown c.args.vars.now c.args.names.now (holds c.in_ok-known.known) (λ name. sym (c.in_ok-known.ensures name)) ∙ sym c.first_unknown.ensures ∙ c.in_default.is, c.in_ok-of.ensures)
