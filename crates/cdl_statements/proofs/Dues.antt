-- What is said where the table of due tokens says that a statement is whole.
use Rattle.cdl_statements.proofs.Prelude.{◌≡◌, ℕ, Bool, true, false, List, [], ◌∷◌, refl, Option, None, Some, if◌then◌else◌, ◌&&◌, ◌==◌, arith, rules, option_map, option_and_then, Version, token_fault, first_bad, completes, next, next_if, separator, is_name, word_value, Lexeme, is_mark, is_mark_kind, name_of, both, if_so, at_end, after_member, Due}
use Rattle.cdl_statements.specs.declared.due.Due.TheVariants as dues

-- ---- no bad token

pub fine : (v : Version) (l : Lexeme) (ls : List Lexeme) → first_bad v (l ∷ ls) ≡ None → token_fault v l.kind l.bytes ≡ None
fine v l ls h = grind (arith, token_fault v l.kind l.bytes, first_bad v ls)

pub fine_on : (v : Version) (l : Lexeme) (ls : List Lexeme) → first_bad v (l ∷ ls) ≡ None → first_bad v ls ≡ None
fine_on v l ls h = grind (arith, token_fault v l.kind l.bytes, first_bad v ls)

-- ---- marks

pub kind_of_mark : (b : ℕ) (l : Lexeme) → is_mark b l ≡ true → is_mark_kind l.kind ≡ true
kind_of_mark b l h = search rules

-- no byte is two marks
pub one_mark : (b d : ℕ) (l : Lexeme) → (b == d) ≡ false → is_mark b l ≡ true → is_mark d l ≡ false
one_mark b d l e h = search rules

-- ---- the table

pub never_completes : (ls : List Lexeme) → completes dues.Never ls ≡ false
unfolding completes next
never_completes [] = refl
never_completes (l ∷ ls) = never_completes ls

pub nothing_more : (l : Lexeme) (ls : List Lexeme) → completes dues.Nothing (l ∷ ls) ≡ false
unfolding completes next
nothing_more l ls = never_completes ls

pub only_completes : (b : Bool) (due : Due) (ls : List Lexeme) → completes (next_if b due) ls ≡ (b && completes due ls)
only_completes b due ls = grind (arith, never_completes)

-- ---- what is said where it says that the tokens are whole

abbrev pub due_for : {A : Type 0} → Due → List Lexeme → A → Option A
due_for due ls a = if completes due ls then Some a else None

pub never_due : {A : Type 0} (ls : List Lexeme) (a : A) → None ≡ due_for dues.Never ls a
never_due ls a = rw (never_completes ls) refl

pub end_due : {A : Type 0} (ls : List Lexeme) (a : A) → at_end a ls ≡ due_for dues.Nothing ls a
unfolding completes
end_due ls a = grind (arith, nothing_more)

pub map_due : {A B : Type 0} (f : A → B) (due : Due) (ls : List Lexeme) (o : Option A) (a : A) (b : B) → o ≡ due_for due ls a → (completes due ls ≡ true → f a ≡ b) → option_map f o ≡ due_for due ls b
map_due f due ls o a b h same = grind arith

pub only_due : {A : Type 0} (b : Bool) (due : Due) (ls : List Lexeme) (x : Option A) (a : A) → (b ≡ true → x ≡ due_for due ls a) → if_so b x ≡ due_for (next_if b due) ls a
only_due b due ls x a h = grind (arith, never_due)

pub both_ways : {A : Type 0} (b : Bool) (x y : Option A) (d e : Due) (ls : List Lexeme) (s t : A) → (b ≡ true → x ≡ due_for d ls s) → (b ≡ false → y ≡ due_for e ls t) →
    (if b then x else y) ≡ due_for (if b then d else e) ls (if b then s else t)
both_ways b x y d e ls s t h k = grind arith

pub either_due : {A : Type 0} (b : Bool) (x y : Option A) (d e : Due) (ls : List Lexeme) (a : A) → (b ≡ true → x ≡ due_for d ls a) → (b ≡ false → y ≡ due_for e ls a) →
    (if b then x else y) ≡ due_for (if b then d else e) ls a
either_due b x y d e ls a h k = grind arith

pub name_is : (n : Lexeme) → name_of n ≡ (if is_name n then Some (word_value n.bytes) else None)
unfolding name_of
name_is n = refl

pub name_due : {A : Type 0} (n : Lexeme) (f : List ℕ → Option A) (due : Due) (ls : List Lexeme) (a : A) → (is_name n ≡ true → f (word_value n.bytes) ≡ due_for due ls a) →
    option_and_then f (name_of n) ≡ due_for (next_if (is_name n) due) ls a
name_due n f due ls a h = grind (arith, name_is n, never_due ls a)

-- where a is there, what is said of both
pub both_due : {A B C : Type 0} (f : A → B → C) (i : Bool) (x : Option A) (a : A) (due : Due) (ls : List Lexeme) (o : Option B) (b : B) (c : C) →
    x ≡ (if i then Some a else None) → o ≡ due_for due ls b → (i ≡ true → completes due ls ≡ true → f a b ≡ c) → both f x o ≡ due_for (next_if i due) ls c
both_due f i x a due ls o b c h k same = grind (arith, never_due ls c)

-- after a member of a list
pub member_due : {A : Type 0} (due : Due) (others : Option (List A)) (c : Lexeme) (ls : List Lexeme) (xs : List A) → (is_mark 0x2c c ≡ true → others ≡ due_for due ls xs) → (is_mark 0x3b c ≡ true → ls ≡ [] → [] ≡ xs) →
    after_member others c ls ≡ due_for (separator due c) ls xs
unfolding completes
member_due due others c ls xs h k = grind (arith, end_due, never_due)
