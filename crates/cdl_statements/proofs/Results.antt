-- What holds of what a result has.
use Rattle.cdl_statements.proofs.Prelude.{◌≡◌, Bool, true, false, List, [], ◌∷◌, arith, IfSome, Option, Result, Ok, Err, in_turn, unless, when, ◌>>=◌, ok_or, CdlKind, ⊤}
use Rattle.cdl_statements.proofs.Each.{Each}

abbrev pub OkIs : {A F : Type 0} → (A → Type 0) → Result A F → Type 0
OkIs P (Ok a) = P a
OkIs P (Err e) = Unit {0}

pub ok_then : {A B F : Type 0} (P : A → Type 0) (Q : B → Type 0) (r : Result A F) (f : A → Result B F) → OkIs P r → ((a : A) → P a → OkIs Q (f a)) → OkIs Q (r >>= f)
ok_then P Q r f h h2 = grind arith

pub ok_next : {A B F : Type 0} (Q : B → Type 0) (r : Result A F) (f : A → Result B F) → ((a : A) → OkIs Q (f a)) → OkIs Q (r >>= f)
ok_next Q r f h = grind arith

pub ok_unless : {B : Type 0} (Q : B → Type 0) (b : Bool) (e : CdlKind) (f : ⊤ → Result B CdlKind) → (b ≡ true → OkIs Q (f tt)) → OkIs Q (unless b e >>= f)
ok_unless Q b e f h = grind arith

pub ok_when : {B : Type 0} (Q : B → Type 0) (b : Bool) (e : CdlKind) (f : ⊤ → Result B CdlKind) → (b ≡ false → OkIs Q (f tt)) → OkIs Q (when b e >>= f)
ok_when Q b e f h = grind arith

pub ok_found : {A B : Type 0} (P : A → Type 0) (Q : B → Type 0) (o : Option A) (e : CdlKind) (f : A → Result B CdlKind) → IfSome o P → ((a : A) → P a → OkIs Q (f a)) → OkIs Q (ok_or o e >>= f)
ok_found P Q o e f h h2 = grind arith

-- what keeps P at each step keeps it over all
pub turns : {S A : Type 0} (f : S → A → Result S CdlKind) (P : S → Type 0) (Q : A → Type 0) → ((s : S) (x : A) → P s → Q x → OkIs P (f s x)) →
    (s : S) (xs : List A) → P s → Each Q xs → OkIs P (in_turn f s xs)
turns f P Q step s [] p q = p
turns {S = S} f P Q step s (x ∷ xs) p q = grind (arith, step s x p q.0, (λ (t : S). turns f P Q step t xs))

pub any_each : {X : Type 0} (xs : List X) → Each (λ x. Unit {0}) xs
any_each [] = tt
any_each (x ∷ xs) = (tt, any_each xs)
