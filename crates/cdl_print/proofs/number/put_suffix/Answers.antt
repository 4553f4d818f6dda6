use Rattle.cdl_print.proofs.Prelude.{◌≡◌, ◌<◌, ◌≤◌, ◌++◌, ℕ, List, [], ◌∷◌, length, take, get_or, refl, ap, ◌∙◌, arith}
use Rattle.cdl_print.proofs.number.put_suffix.Goals as goal

one_letter : (xs : List ℕ) → 1 ≤ length xs → length xs < 2 → get_or xs 0 0 ∷ [] ≡ xs
one_letter [] some few = absurd (omega arith)
one_letter (x ∷ []) some few = refl
one_letter (x ∷ y ∷ xs) some few = absurd (omega arith)

pub returns-in-len1-clause-written : goal.returns-in-len1-clause-written
returns-in-len1-clause-written c = c.put_byte.ensures.written ∙ ap (λ letters. take c.args.at c.args.text.now ++ letters) (one_letter c.args.suffix.now c.in-len1.len_at_least c.in-len1.len_below)
