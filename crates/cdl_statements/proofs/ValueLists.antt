-- What two cutters have before them that stand at the same place.
use Rattle.cdl_statements.proofs.Prelude.{◌≡◌, List, ap, rules, Token, after, other_pieces, pieces_left, words, IsAtComma, SamePlace, Cutter}

same_pieces : (c d : Cutter) → SamePlace c d → pieces_left c ≡ pieces_left d
unfolding pieces_left
same_pieces c d same = search rules

pub same_words : (c d : Cutter) → SamePlace c d → words c ≡ words d
unfolding words
same_words c d same = search (rules, same_pieces)

pub same_after : (c d : Cutter) → SamePlace c d → after c ≡ after d
unfolding after
same_after c d same = ap (λ (ps : List (List Token)). other_pieces ps) (same_pieces c d same)

pub at_same_comma : (c d : Cutter) → SamePlace c d → IsAtComma d → IsAtComma c
at_same_comma c d same at = search rules
