use Rattle.cdl_parse.proofs.Prelude.{◌≡◌, ℕ, zero, suc, ◌≤◌, List, [], ◌∷◌, length, drop, refl, arith, min, Some, Dim, Var, with_all, RecordNeeds, ◌∙◌, sym}
use Rattle.cdl_parse.proofs.records.needs_of.Goals as goal

-- How far what is listed reaches: over all variables, and in records.

-- ---- no variable is left

none_listed : (dims : List Dim) (e : RecordNeeds) (vars : List Var) → with_all dims (Some e) vars [] ≡ Some e
none_listed dims e vars = grind arith

all_done : (dims : List Dim) (e : RecordNeeds) (vars : List Var) (listed : List (List ℕ)) (n : ℕ) → min (length vars) (length listed) ≤ n → with_all dims (Some e) (drop n vars) (drop n listed) ≡ Some e
all_done dims e [] listed zero h = refl
all_done dims e [] listed (suc n) h = refl
all_done dims e (var ∷ vars) [] zero h = refl
all_done dims e (var ∷ vars) [] (suc n) h = none_listed dims e (drop n vars)
all_done dims e (var ∷ vars) (array ∷ listed) zero h = absurd (let g : min (suc (length vars)) (suc (length listed)) ≤ 0 = h in omega (arith, g))
all_done dims e (var ∷ vars) (array ∷ listed) (suc n) h = all_done dims e vars listed n (let g : min (suc (length vars)) (suc (length listed)) ≤ suc n = h in omega (arith, g))

-- ---- the goals

pub returns : goal.returns
returns c = λ some.
    let t = c.loop-at in
    sym (all_done c.args.dims.now t.extent c.args.vars.now c.args.listed.now t.at (omega arith)) ∙ t.invariant some
