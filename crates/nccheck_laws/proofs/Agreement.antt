-- A strict and a lenient reader of a part agree, up to the first field that the strict rules refuse.
use Rattle.nccheck_laws.proofs.Prelude.{option_or, FormatFault, Bytes, Step, Part, done, under, chain, Item, Outcome, and_then, run, Field, fields, each, refusal_in, first_refusal, whole_content, fault_in, common_steps, le-ltb, lt-ltb, leb-true, leb-false, map-append, length-map, ◌≡◌, ℕ, suc, zero, Bool, true, false, leb, List, [], ◌∷◌, ◌++◌, length, map, take, drop, Option, Some, None, Result, Ok, Err, refl, sym, arith}
use Rattle.nccheck_laws.proofs.Leaves.{is_leaf, leaf_size, leaf_cut, judge, read_bytes, leaf-run, leaf-field}

-- ---- outcomes

-- Both went on with the same, seen through f, over the same fields, and no field was refused; or the strict reader stopped where the first
-- field was refused. (The fields are first those of the strict reader.)
abbrev pub Agrees : {A B : Type 0} → (A → B) → Outcome A → Outcome B → List Field → List Field → Type 0
Agrees f (Ok x) (Ok y) fs gs = (y.0 ≡ f x.0) × (y.1 ≡ x.1) × (first_refusal gs ≡ None) × (gs ≡ fs)
Agrees f (Ok x) (Err e) fs gs = ⊥
Agrees f (Err e) o fs gs = first_refusal gs ≡ Some e

-- the strict reader of p and the lenient reader of q do
pub record Agree {A B : Type 0} (f : A → B) (steps : List Step) (p : Part A) (q : Part B) : Type 0 where
  pub at : (from : Bytes) → Agrees f (run p from) (run q from) (fields steps p from) (fields steps q from)

-- ---- one field

-- both judges say the same of a field, seen through f, and it isn't refused; or it is refused as the strict judge says
abbrev pub Judges : {A B : Type 0} → (A → B) → Result A FormatFault → Result B FormatFault → Option FormatFault → Type 0
Judges f (Ok x) (Ok y) refused = (y ≡ f x) × (refused ≡ None)
Judges f (Ok x) (Err e) refused = ⊥
Judges f (Err e) y refused = refused ≡ Some e

-- the fault of an answer
abbrev pub fault_of : {A : Type 0} → Result A FormatFault → Option FormatFault
fault_of (Ok x) = None
fault_of (Err e) = Some e

abbrev field_with : List Step → Bytes → ℕ → Option FormatFault → Field
field_with steps from n fault = record { steps = steps; start = from; size = n; fault = fault }

-- of the field of these bytes, which are there or not
read-agrees : {A B : Type 0} (f : A → B) (steps : List Step) (n : ℕ) (cut : FormatFault) (from : Bytes) (x : Result A FormatFault)
    (y : Result B FormatFault) (b : Bool) → leb n (length from) ≡ b
    → Judges f x y (refusal_in n (whole_content steps n from) steps (fault_of y))
    → let o = read_bytes b (drop n from) cut x in
    let r = read_bytes b (drop n from) cut y in
    Agrees f o r (field_with steps from n (fault_in o) ∷ []) (field_with steps from n (fault_in r) ∷ [])
read-agrees f steps n cut from v5 v6 true e judges = let t = le-ltb _ _ (leb-true _ _ e) in grind arith
read-agrees f steps n cut from x y false e judges = let t = lt-ltb _ _ (leb-false _ _ e) in grind (arith, common_steps)

pub agree-leaf : {A B : Type 0} {f : A → B} {steps : List Step} {p : Part A} {q : Part B}
    → is_leaf p ≡ true → is_leaf q ≡ true → leaf_size q ≡ leaf_size p → leaf_cut q ≡ leaf_cut p
    → ((from : Bytes) → Judges f (judge p (take (leaf_size p) from)) (judge q (take (leaf_size p) from))
    (refusal_in (leaf_size p) (whole_content steps (leaf_size p) from) steps (fault_of (judge q (take (leaf_size p) from)))))
    → Agree f steps p q
agree-leaf {f = f} {steps = steps} {p = p} {q = q} leaf other size cut judges = grind (arith, common_steps, leaf-run, leaf-field, read-agrees)

same-judges : {A : Type 0} (y : Result A FormatFault) (refused : Option FormatFault) → refused ≡ fault_of y → Judges (λ x. x) y y refused
same-judges y refused is = grind arith

-- a field of these steps is refused only if it is wrong
abbrev pub IsPlain : List Step → Type 0
IsPlain steps = (n : ℕ) (start : Bytes) (fault : Option FormatFault) → refusal_in n (whole_content steps n start) steps fault ≡ fault

-- a field that both read alike
pub agree-plain : {A : Type 0} {steps : List Step} {p : Part A} → is_leaf p ≡ true → IsPlain steps → Agree (λ x. x) steps p p
agree-plain leaf plain = agree-leaf leaf leaf refl refl (λ from. same-judges _ _ (plain _ from _))

-- ---- parts that are made of others

pub agree-done : {A B : Type 0} {f : A → B} {steps : List Step} {x : A} {y : B} → y ≡ f x → Agree f steps (done x) (done y)
unfolding run fields
agree-done same = record { at = λ from. (same, refl, refl, refl) }

pub agree-under : {A B : Type 0} {f : A → B} {steps : List Step} {p : Part A} {q : Part B} (step : Step)
    → Agree f (step ∷ steps) p q → Agree f steps (under step p) (under step q)
unfolding run fields
agree-under step a = record { at = λ from. a.at from }

-- the first refusal of a field with this refusal, and others
abbrev pub first_of : Field → Option FormatFault → Option (FormatFault × Bytes) → Option (FormatFault × Bytes)
first_of f o others = elim o [ Some fault ↦ Some (fault, drop f.size f.start) | None ↦ others ]

refused-append : (fs more : List Field) → first_refusal (fs ++ more) ≡ option_or (first_refusal fs) (first_refusal more)
refused-append [] more = refl
refused-append (f ∷ fs) more = grind (arith, refused-append fs more)

-- a part and what follows it, whose fields come after those of the part
then-agrees : {A B C D : Type 0} (f : A → B) (g : C → D) (fs gs : List Field) (o : Outcome A) (r : Outcome B)
    (next : A → Bytes → Outcome C) (other : B → Bytes → Outcome D) (more : A → Bytes → List Field) (also : B → Bytes → List Field)
    → Agrees f o r fs gs
    → ((x : A) (rest : Bytes) → Agrees g (next x rest) (other (f x) rest) (more x rest) (also (f x) rest))
    → Agrees g (and_then o next) (and_then r other) (elim o as (λ o. List Field) [ Ok x ↦ fs ++ more x.0 x.1 | Err e ↦ fs ])
    (elim r as (λ r. List Field) [ Ok y ↦ gs ++ also y.0 y.1 | Err e ↦ gs ])
then-agrees f g fs gs (Ok x) (Ok y) next other more also (same, along, none, fields) go = grind (arith, common_steps, refused-append)
then-agrees f g fs gs (Ok x) (Err e) next other more also never go = absurd never
then-agrees f g fs gs (Err e) (Ok y) next other more also is go = grind (arith, refused-append)
then-agrees f g fs gs (Err e) (Err d) next other more also is go = is

pub agree-chain : {A B C D : Type 0} {f : A → B} {g : C → D} {steps : List Step} {get : C → Option A}
    {also : D → Option B} {p : Part A} {q : Part B} {next : A → Part C} {other : B → Part D}
    → Agree f steps p q → ((x : A) → Agree g steps (next x) (other (f x))) → Agree g steps (chain get p next) (chain also q other)
unfolding run fields
agree-chain {f = f} {g = g} {steps = steps} {p = p} {q = q} {next = next} {other = other} a go = record {
  at = λ from.
      then-agrees f g (fields steps p from) (fields steps q from) (run p from) (run q from) (λ x rest. run (next x) rest)
      (λ y rest. run (other y) rest) (λ x rest. fields steps (next x) rest) (λ y rest. fields steps (other y) rest)
      (a.at from) (λ x rest. (go x).at rest);
}

-- ---- lists

-- g sees a list through f
pub record Extends {A B : Type 0} (f : A → B) (g : List A → List B) : Type 0 where
  pub none : g [] ≡ []
  pub more : (xs : List A) (x : A) → g (xs ++ x ∷ []) ≡ g xs ++ f x ∷ []
  pub len : (xs : List A) → length (g xs) ≡ length xs

pub extends-same : {A : Type 0} → Extends {A = A} (λ x. x) (λ xs. xs)
extends-same = record { none = refl; more = λ xs x. refl; len = λ xs. refl }

pub extends-map : {A B : Type 0} (f : A → B) → Extends f (map f)
extends-map f = record { none = refl; more = λ xs x. map-append f xs (x ∷ []); len = λ xs. length-map xs f }

pub agree-each : {A B : Type 0} {f : A → B} {g : List A → List B} {steps : List Step} (element : List A → Part A) (other : List B → Part B)
    → Extends f g → ((before : List A) (k : ℕ) → Agree f (Item k ∷ steps) (element before) (other (g before)))
    → (n : ℕ) (before : List A) (also : List B) → also ≡ g before → Agree g steps (each element n before) (each other n also)
unfolding each
agree-each element other extends go zero before also is = agree-done is
agree-each {f = f} {g = g} {steps = steps} element other extends go (suc n) before also is = rw (is, extends.len before)
    (agree-chain (agree-under (Item (length before)) (go before (length before)))
    (λ x. agree-each element other extends go n (before ++ x ∷ []) (g before ++ f x ∷ []) (sym (extends.more before x))))
