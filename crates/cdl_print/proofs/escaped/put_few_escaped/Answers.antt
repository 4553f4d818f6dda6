use Rattle.cdl_print.proofs.Prelude.{◌≡◌, ◌∙◌, ◌==◌, ℕ, List, true, sym, [], ◌∷◌, refl, length, arith}
use Rattle.cdl_print.proofs.Begun.{appended_none}
use Rattle.cdl_print.proofs.escaped.put_few_escaped.Goals as goal

no_bytes : (bs : List ℕ) → (length bs == 0) ≡ true → bs ≡ []
no_bytes [] h = refl
no_bytes (b ∷ bs) h = grind (arith, h)

pub returns-then-is_empty : goal.returns-then-is_empty
returns-then-is_empty g c = rw (no_bytes c.args.bytes.now (sym c.is_empty.ensures ∙ c.if-is_empty.true)) (appended_none (g.W.Sink.view c.args.sink.now))
