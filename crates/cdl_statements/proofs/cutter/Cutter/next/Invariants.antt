use Rattle.cdl_statements.proofs.Prelude.{length, ◌-◌, ◌≡◌, ◌++◌, ◌∷◌, List, false, offset_of, pieces_left, text_of, Token}
use Rattle.cdl_statements.proofs.cutter.Cutter.next.Given as goal

abbrev pub invariant-piece : goal.invariant-piece
invariant-piece l = record {
  text : text_of l.cutter ≡ text_of l.fn.self;
  same : l.self ≡ l.fn.self;
  goes : l.cutter.done ≡ false;
  so_far : (p : List Token) (ps : List (List Token)) → pieces_left l.cutter ≡ p ∷ ps → pieces_left l.fn.self ≡ (l.into.items ++ p) ∷ ps;
}

abbrev pub decreases-piece : goal.decreases-piece
decreases-piece l = length (text_of l.cutter) - offset_of l.cutter
