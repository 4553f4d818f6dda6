-- A valid name may be a name by the lenient rules.
use Rattle.nccheck_laws.proofs.Prelude.{common_steps, Bytes, is_name, may_be_name, list_all, take_while-cons, may_follow_in_name, is_no_control, ◌≡◌, ◌==◌, not, Bool, true, [], ◌∷◌, length, take_while, nat_lt, refl, arith}

abbrev is_printing : Bytes → Bool
is_printing bs = list_all is_no_control bs

all-follow : (bs : Bytes) → list_all may_follow_in_name bs ≡ true → is_printing bs ≡ true
all-follow [] e = refl
all-follow (b ∷ bs) e = grind (arith, all-follow bs)

no-nul : (bs : Bytes) → is_printing bs ≡ true → take_while (λ b. not (b == 0)) bs ≡ bs
no-nul [] e = refl
no-nul (b ∷ bs) e = grind (arith, common_steps, no-nul bs, take_while-cons)

printing-may-be : (name : Bytes) → nat_lt 0 (length name) ≡ true → is_printing name ≡ true → may_be_name name ≡ true
printing-may-be name some e = grind (arith, common_steps, no-nul)

pub name-may-be : (bs : Bytes) → is_name bs ≡ true → may_be_name bs ≡ true
name-may-be [] e = absurd cc
name-may-be (b ∷ bs) e = printing-may-be (b ∷ bs) (grind arith) (grind (arith, all-follow))
