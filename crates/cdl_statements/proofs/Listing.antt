-- Lists of constants: the table of due tokens says whether one has its shape, and its values are those of its tokens.
use Rattle.cdl_statements.proofs.Prelude.{◌≡◌, ℕ, Bool, true, false, List, [], ◌∷◌, refl, sym, ap, ◌∙◌, arith, None, Some, if◌then◌else◌, is_none, Version, value_of, values, is_value_of, next, completes, Lexeme, is_mark_kind, parts, number, numeral, token_fault, first_bad, constant_of, constant, constants, after_member, TokenKind, and_false}
use Rattle.cdl_statements.specs.declared.due.Due.TheVariants as dues
use Rattle.cdl_statements.proofs.Dues.{fine, fine_on, kind_of_mark, due_for, both_due, member_due}

constant_by : (v : Version) (takes_fill : Bool) (l : Lexeme) (k : TokenKind) → token_fault v k l.bytes ≡ None → constant_of v takes_fill l k ≡ (if is_value_of takes_fill l k then Some (value_of v l k) else None)
unfolding value_of numeral
constant_by v takes_fill l k h = grind (arith, parts, is_none, number)

pub constant_is : (v : Version) (takes_fill : Bool) (l : Lexeme) → token_fault v l.kind l.bytes ≡ None → constant v takes_fill l ≡ (if is_value_of takes_fill l l.kind then Some (value_of v l l.kind) else None)
constant_is v takes_fill l h = constant_by v takes_fill l l.kind h

mark_value : (takes_fill : Bool) (bytes : List ℕ) (k : TokenKind) → is_value_of takes_fill (record { kind = k; bytes = bytes }) k ≡ true → is_mark_kind k ≡ false
mark_value takes_fill bytes k h = grind (arith, and_false)

pub no_mark_value : (takes_fill : Bool) (l : Lexeme) → is_value_of takes_fill l l.kind ≡ true → is_mark_kind l.kind ≡ false
no_mark_value takes_fill l h = mark_value takes_fill l.bytes l.kind h

pub value_first : (v : Version) (takes_fill : Bool) (l : Lexeme) (ls : List Lexeme) → is_value_of takes_fill l l.kind ≡ true → values v (l ∷ ls) ≡ value_of v l l.kind ∷ values v ls
unfolding values
value_first v takes_fill l ls h = rw (no_mark_value takes_fill l h) refl

pub past_mark : (v : Version) (l : Lexeme) (ls : List Lexeme) → is_mark_kind l.kind ≡ true → values v (l ∷ ls) ≡ values v ls
unfolding values
past_mark v l ls h = rw (h) refl

pub constants_due : (v : Version) (takes_fill : Bool) (ls : List Lexeme) → first_bad v ls ≡ None → constants v takes_fill ls ≡ due_for (dues.Value takes_fill) ls (values v ls)
unfolding completes next values
constants_due v takes_fill (l ∷ c ∷ ls) h =
    both_due (λ x xs. x ∷ xs) (is_value_of takes_fill l l.kind) (constant v takes_fill l) (value_of v l l.kind) (dues.Separator takes_fill) (c ∷ ls) (after_member (constants v takes_fill ls) c ls) (values v (c ∷ ls)) (values v (l ∷ c ∷ ls))
    (constant_is v takes_fill l (fine v l (c ∷ ls) h))
    (member_due (dues.Value takes_fill) (constants v takes_fill ls) c ls (values v (c ∷ ls))
    (λ e. constants_due v takes_fill ls (fine_on v c ls (fine_on v l (c ∷ ls) h)) ∙ ap (λ xs. due_for (dues.Value takes_fill) ls xs) (sym (past_mark v c ls (kind_of_mark 0x2c c e))))
    (λ e k. rw k (sym (past_mark v c [] (kind_of_mark 0x3b c e)))))
    (λ i w. sym (value_first v takes_fill l (c ∷ ls) i))
constants_due v takes_fill _ h = grind arith
