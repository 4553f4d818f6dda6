-- Suffixes, each letter in either case.
use Rattle.cdl_tokens.proofs.Prelude.{type_of_suffix, Version, Int, ◌≡◌, ℕ, Bool, true, List, [], ◌∷◌, arith, ◌↔◌, map, IsTrue, Some, length, rules}
use Rattle.std.specs.Char.{to_ascii_lowercase}
use Rattle.std.specs.Str.{bytes_eq}
use Rattle.std.specs.Cmp.Lexicographic.{bytes_decides}

same_truth : {P : Type 0} (r w : Bool) → (IsTrue r ↔ P) → (w ≡ true → P) → (P → w ≡ true) → r ≡ w
same_truth r w h h2 h3 = grind arith

pub same_suffix : (a b : List ℕ) (r : Bool) → (IsTrue r ↔ (map to_ascii_lowercase a ≡ map to_ascii_lowercase b)) → r ≡ bytes_eq (map to_ascii_lowercase a) (map to_ascii_lowercase b)
same_suffix a b r h = search (rules, bytes_decides, same_truth)

-- no suffix: int, which every version has
pub no_suffix : (bs : List ℕ) (v : Version) → length bs ≡ 0 → type_of_suffix v bs ≡ Some Int
unfolding type_of_suffix
no_suffix [] v h = grind arith
no_suffix (b ∷ bs) v h = cc
