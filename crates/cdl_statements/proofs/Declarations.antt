-- Declarations: the table of due tokens says whether one has its shape, and what it says stands in its tokens.
use Rattle.cdl_statements.proofs.Prelude.{◌≡◌, ℕ, Bool, true, false, List, [], ◌∷◌, refl, sym, ap, ◌∙◌, if◌then◌else◌, ◌&&◌, ◌||◌, not, arith, rules, option_map, Declaration, with_name, declaration_said, next_if, separator, next, completes, is_name, word_value, Lexeme, is_mark, is_mark_kind, Variable, variables, in_parentheses, after_member, if_so}
use Rattle.cdl_statements.specs.declared.due.Due.TheVariants as dues
use Rattle.cdl_statements.proofs.Dues.{never_completes, nothing_more, kind_of_mark, one_mark, due_for, map_due, only_due, either_due, name_due, member_due}

pub name_kind : (n : Lexeme) → is_name n ≡ true → is_mark_kind n.kind ≡ false
name_kind n h = search rules

pub said_mark : (p b c : Bool) (l : Lexeme) (ls : List Lexeme) → is_mark_kind l.kind ≡ true → is_mark 0x28 l ≡ b → is_mark 0x29 l ≡ c → declaration_said p (l ∷ ls) ≡ declaration_said (b || p && not c) ls
unfolding declaration_said
said_mark p b c l ls k hb hc = search rules

pub said_name : (p : Bool) (n : Lexeme) (ls : List Lexeme) → is_name n ≡ true → declaration_said p (n ∷ ls) ≡ with_name p (word_value n.bytes) (declaration_said p ls)
unfolding declaration_said
said_name p n ls h = grind arith

-- where a variable's name is due, no dimension comes before it
pub no_dimensions : (ls : List Lexeme) → completes dues.VariableName ls ≡ true → (declaration_said false ls).dimensions ≡ []
unfolding completes next
no_dimensions [] h = grind (arith, said_name, never_completes)
no_dimensions _ h = grind (arith, said_name, never_completes)

abbrev said : Bool → List Lexeme → Declaration
said parens ls = declaration_said parens ls

comma_said : (p : Bool) (c : Lexeme) (ls : List Lexeme) → is_mark 0x2c c ≡ true → said p (c ∷ ls) ≡ said p ls
comma_said p c ls e = grind (arith, said_mark p false false c ls, kind_of_mark 0x2c c e, one_mark 0x2c 0x28 c refl e, one_mark 0x2c 0x29 c refl e)

semicolon_said : (c : Lexeme) → is_mark 0x3b c ≡ true → said false (c ∷ []) ≡ record { dimensions = []; variables = [] }
unfolding declaration_said
semicolon_said c e = said_mark false false false c [] (kind_of_mark 0x3b c e) (one_mark 0x3b 0x28 c refl e) (one_mark 0x3b 0x29 c refl e)

-- after a variable without dimensions, or with all of them
after_due : (c : Lexeme) (ls : List Lexeme) → variables ls ≡ due_for dues.VariableName ls (said false ls).variables → after_member (variables ls) c ls ≡ due_for (separator dues.VariableName c) ls (said false (c ∷ ls)).variables
after_due c ls h = grind (arith, member_due, comma_said, semicolon_said)

-- and then no further dimension is named
none_named : (c : Lexeme) (ls : List Lexeme) → completes (separator dues.VariableName c) ls ≡ true → (said false (c ∷ ls)).dimensions ≡ []
unfolding completes next
none_named c [] h = grind (arith, comma_said false c [], semicolon_said c, no_dimensions [], never_completes [])
none_named c (l ∷ ls) h = grind (arith, comma_said false c (l ∷ ls), no_dimensions (l ∷ ls), never_completes (l ∷ ls), nothing_more l ls)

abbrev with : List ℕ → List (List ℕ) → Variable
with name ds = record { name = name; dimensions = ds }

-- all of a variable's dimensions, and the variables after it
abbrev onto : (List (List ℕ) → Variable) → Declaration → List Variable
onto f d = f d.dimensions ∷ d.variables

after_name : (name : List ℕ) (c : Lexeme) (ls : List Lexeme) → variables ls ≡ due_for dues.VariableName ls (said false ls).variables → in_parentheses (with name) ls ≡ due_for dues.VariableDimension ls (onto (with name) (said true ls)) →
    (if is_mark 0x28 c then in_parentheses (with name) ls else option_map (λ vs. with name [] ∷ vs) (after_member (variables ls) c ls)) ≡
    due_for (if is_mark 0x28 c then dues.VariableDimension else separator dues.VariableName c) ls (onto (with name) (said false (c ∷ ls)))
after_name name c ls outer inner =
    either_due (is_mark 0x28 c) _ _ dues.VariableDimension (separator dues.VariableName c) ls (onto (with name) (said false (c ∷ ls)))
    (λ e. inner ∙ ap (λ d. due_for dues.VariableDimension ls (onto (with name) d)) (sym (said_mark false true (is_mark 0x29 c) c ls (kind_of_mark 0x28 c e) e refl)))
    (λ e. map_due (λ vs. with name [] ∷ vs) (separator dues.VariableName c) ls (after_member (variables ls) c ls) _ _ (after_due c ls outer)
    (λ w. ap (λ ds. with name ds ∷ (said false (c ∷ ls)).variables) (sym (none_named c ls w))))

after_reference : (f : List (List ℕ) → Variable) (c l : Lexeme) (ls : List Lexeme) → variables ls ≡ due_for dues.VariableName ls (said false ls).variables → in_parentheses f (l ∷ ls) ≡ due_for dues.VariableDimension (l ∷ ls) (onto f (said true (l ∷ ls))) →
    (if is_mark 0x2c c then in_parentheses f (l ∷ ls) else if_so (is_mark 0x29 c) (option_map (λ vs. f [] ∷ vs) (after_member (variables ls) l ls))) ≡
    due_for dues.AfterVariableDimension (c ∷ l ∷ ls) (onto f (said true (c ∷ l ∷ ls)))
unfolding completes next
after_reference f c l ls outer inner =
    either_due (is_mark 0x2c c) _ _ dues.VariableDimension (next_if (is_mark 0x29 c) dues.AfterShape) (l ∷ ls) (onto f (said true (c ∷ l ∷ ls)))
    (λ e. inner ∙ ap (λ d. due_for dues.VariableDimension (l ∷ ls) (onto f d)) (sym (comma_said true c (l ∷ ls) e)))
    (λ e. only_due (is_mark 0x29 c) dues.AfterShape (l ∷ ls) _ _ (λ g. map_due (λ vs. f [] ∷ vs) dues.AfterShape (l ∷ ls) (after_member (variables ls) l ls) _ _ (after_due l ls outer)
    (λ w. ap (λ ds. f ds ∷ (said false (l ∷ ls)).variables) (sym (none_named l ls w)) ∙
    ap (onto f) (sym (said_mark true false true c (l ∷ ls) (kind_of_mark 0x29 c g) (one_mark 0x29 0x28 c refl g) g)))))

mutual
  unfolding completes next declaration_said

  pub variables_due : (ls : List Lexeme) → variables ls ≡ due_for dues.VariableName ls (said false ls).variables
  variables_due [] = refl
  variables_due (n ∷ []) = search rules
  variables_due (n ∷ c ∷ ls) =
      name_due n _ dues.AfterVariable (c ∷ ls) (said false (n ∷ c ∷ ls)).variables (λ e.
      after_name (word_value n.bytes) c ls (variables_due ls) (in_parentheses_due (with (word_value n.bytes)) ls) ∙ ap (λ (d : Declaration). due_for dues.AfterVariable (c ∷ ls) d.variables) (sym (said_name false n (c ∷ ls) e)))

  in_parentheses_due : (f : List (List ℕ) → Variable) (ls : List Lexeme) → in_parentheses f ls ≡ due_for dues.VariableDimension ls (onto f (said true ls))
  in_parentheses_due f [] = refl
  in_parentheses_due f (n ∷ []) = search rules
  in_parentheses_due f (n ∷ c ∷ []) = search (rules, next)
  in_parentheses_due f (n ∷ c ∷ l ∷ ls) =
      name_due n _ dues.AfterVariableDimension (c ∷ l ∷ ls) (onto f (said true (n ∷ c ∷ l ∷ ls))) (λ e.
      after_reference (λ ds. f (word_value n.bytes ∷ ds)) c l ls (variables_due ls) (in_parentheses_due (λ ds. f (word_value n.bytes ∷ ds)) (l ∷ ls)) ∙
      ap (λ (d : Declaration). due_for dues.AfterVariableDimension (c ∷ l ∷ ls) (onto f d)) (sym (said_name true n (c ∷ l ∷ ls) e)))
