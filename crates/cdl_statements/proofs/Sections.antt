-- Statements: the table of due tokens says whether a piece has its shape, and what it says stands in its tokens.
use Rattle.cdl_statements.proofs.Prelude.{◌≡◌, ℕ, Bool, true, false, List, [], ◌∷◌, drop, refl, ap, ◌∙◌, Option, None, Some, if◌then◌else◌, is_some, arith, rules, option_map, is_reserved, Version, values, next_if, next, completes, is_name, is_after, opens_section_after, word_value, Lexeme, is_mark, is_word_kind, is_end, is_opening_kind, name_of, Value, Statement, Attribute, Listed, Close, DeclareDimensions, DeclareVariables, Enter, End, Open, first_bad, constants, dimensions, assigned, section_mark, attribute_or_mark, other_statement, shape, at_end, both, if_so, is_later, section_of, dimensions_said, attribute_said, mark_said, variable_said, statement_said, Due, Section, Unopened, Globals, Dimensions, Variables, Values, Ended, Closed}
use Rattle.cdl_statements.specs.declared.due.Due.TheVariants as dues
use Rattle.cdl_statements.proofs.Dues.{fine_on, never_completes, name_is, due_for, never_due, end_due, map_due, only_due, both_ways}
use Rattle.cdl_statements.proofs.Listing.{constants_due}
use Rattle.cdl_statements.proofs.Dimensions.{dimensions_due}
use Rattle.cdl_statements.proofs.Declarations.{variables_due}

-- ---- attributes and lists of values

equals_due : (v : Version) (takes_fill : Bool) (f : List ℕ → List Value → Statement) (n e : Lexeme) (ls : List Lexeme) → first_bad v ls ≡ None →
    if_so (is_mark 0x3d e) (both f (name_of n) (constants v takes_fill ls)) ≡ due_for (next_if (is_name n) (dues.Equals takes_fill)) (e ∷ ls) (f (word_value n.bytes) (values v ls))
unfolding completes next
equals_due v takes_fill f n e ls good = grind (arith, name_is n, constants_due v takes_fill ls good, never_completes ls)

pub assigned_due : (v : Version) (takes_fill : Bool) (f : List ℕ → List Value → Statement) (n : Lexeme) (ls : List Lexeme) → first_bad v ls ≡ None →
    assigned v takes_fill f (n ∷ ls) ≡ due_for (next_if (is_name n) (dues.Equals takes_fill)) ls (f (word_value n.bytes) (values v (drop 1 ls)))
unfolding completes
assigned_due v takes_fill f n ls good = grind (arith, equals_due)

attribute_due : (v : Version) (owner : Option (List ℕ)) (ls : List Lexeme) → first_bad v ls ≡ None → assigned v false (Attribute owner) ls ≡ due_for dues.AttributeName ls (attribute_said v owner ls)
unfolding completes next
attribute_due v owner ls good = grind (arith, assigned_due)

-- ---- section marks

mark_due : (before : Section) (l : Lexeme) (ls : List Lexeme) → section_mark before l ls ≡ due_for (next_if (opens_section_after before l) dues.Colon) ls (mark_said (section_of l))
unfolding completes next
mark_due before l ls = grind (arith, never_completes)

pub section_no_name : (l : Lexeme) → is_some (section_of l) ≡ true → is_name l ≡ false
unfolding is_reserved
section_no_name l h = search rules

dimensions_said_due : (v : Version) (l : Lexeme) (ls : List Lexeme) → first_bad v (l ∷ ls) ≡ None →
    other_statement v Dimensions l ls ≡ due_for (if opens_section_after Dimensions l then dues.Colon else next_if (is_name l) dues.LengthEquals) ls
    (if opens_section_after Dimensions l then mark_said (section_of l) else DeclareDimensions (dimensions_said v (l ∷ ls)))
unfolding completes next
dimensions_said_due v l ls good = by (section_of l) refl
  where
    by : (o : Option Section) → section_of l ≡ o →
        (if is_some o then section_mark Dimensions l ls else option_map DeclareDimensions (dimensions v (l ∷ ls))) ≡
        due_for (if is_after Dimensions o then dues.Colon else next_if (is_name l) dues.LengthEquals) ls (if is_after Dimensions o then mark_said o else DeclareDimensions (dimensions_said v (l ∷ ls)))
    by None e = map_due DeclareDimensions dues.DimensionName (l ∷ ls) _ _ _ (dimensions_due v (l ∷ ls) good) (λ w. refl)
    by (Some s) e =
        mark_due Dimensions l ls ∙ ap (λ o. due_for (next_if (is_after Dimensions o) dues.Colon) ls (mark_said o)) e ∙
        later (is_later Dimensions s) (section_no_name l (ap (λ o. is_some o) e))
      where
        later : (b : Bool) → is_name l ≡ false → due_for (next_if b dues.Colon) ls (Enter s) ≡
            due_for (if b then dues.Colon else next_if (is_name l) dues.LengthEquals) ls (if b then Enter s else DeclareDimensions (dimensions_said v (l ∷ ls)))
        later b off = grind (arith, never_due ls (Enter s), never_due ls (DeclareDimensions (dimensions_said v (l ∷ ls))))

variables_said_due : (v : Version) (l : Lexeme) (ls : List Lexeme) → first_bad v ls ≡ None →
    other_statement v Variables l ls ≡ due_for (next_if (is_word_kind l.kind) (dues.AfterWord (is_name l) (opens_section_after Variables l))) ls (variable_said v l ls)
unfolding completes next
variables_said_due v l [] good = search rules
variables_said_due v l (c ∷ ls) good =
    only_due (is_word_kind l.kind) (dues.AfterWord (is_name l) (opens_section_after Variables l)) (c ∷ ls) _ _ (λ word.
    both_ways (is_mark 0x3a c) _ _ _ _ ls _ _
    (λ colon. ap (λ o. attribute_or_mark v l o (c ∷ ls)) (name_is l) ∙ by (is_name l) colon)
    (λ e. map_due (DeclareVariables l) dues.VariableName (c ∷ ls) _ _ _ (variables_due (c ∷ ls)) (λ w. refl)))
  where
    goes : (g : Bool) → is_mark 0x3a c ≡ true → due_for (next_if g dues.Colon) (c ∷ ls) (mark_said (section_of l)) ≡ due_for (next_if g dues.Nothing) ls (mark_said (section_of l))
    goes g colon = grind arith

    by : (b : Bool) → is_mark 0x3a c ≡ true → attribute_or_mark v l (if b then Some (word_value l.bytes) else None) (c ∷ ls) ≡
        due_for (if b then dues.AttributeName else next_if (opens_section_after Variables l) dues.Nothing) ls (if b then attribute_said v (Some (word_value l.bytes)) ls else mark_said (section_of l))
    by true colon = attribute_due v (Some (word_value l.bytes)) ls (fine_on v c ls good)
    by false colon = mark_due Variables l (c ∷ ls) ∙ goes (opens_section_after Variables l) colon

-- ---- statements

open_due : (v : Version) (section : Section) (l : Lexeme) (ls : List Lexeme) (due : Due) (s : Statement) → first_bad v ls ≡ None → other_statement v section l ls ≡ due_for due ls s →
    (if is_mark 0x7d l then at_end Close ls else (if is_mark 0x3a l then assigned v false (Attribute None) ls else other_statement v section l ls)) ≡
    due_for (if is_mark 0x7d l then dues.Nothing else (if is_mark 0x3a l then dues.AttributeName else due)) ls (if is_mark 0x7d l then Close else (if is_mark 0x3a l then attribute_said v None ls else s))
open_due v section l ls due s good h = search (rules, both_ways, end_due, attribute_due)

-- the data section has no attributes
abbrev pub data_said : Version → Lexeme → List Lexeme → Statement
data_said v l ls = if is_mark 0x7d l then Close else Listed (word_value l.bytes) (values v (drop 1 ls))

pub data_is : (v : Version) (l : Lexeme) (ls : List Lexeme) → first_bad v ls ≡ None → shape v Values (l ∷ ls) ≡ due_for (dues.First Values) (l ∷ ls) (data_said v l ls)
unfolding shape completes next
data_is v l ls good = both_ways (is_mark 0x7d l) _ _ _ _ ls _ _ (λ e. end_due ls Close) (λ e. assigned_due v true Listed l ls good)

no_attribute : (v : Version) (l : Lexeme) (ls : List Lexeme) → due_for (dues.First Values) (l ∷ ls) (data_said v l ls) ≡ due_for (dues.First Values) (l ∷ ls) (statement_said v Values (l ∷ ls))
unfolding completes next statement_said
no_attribute v l ls = grind (arith, never_completes ls)

pub shape_is : (v : Version) (section : Section) (ls : List Lexeme) → first_bad v ls ≡ None → shape v section ls ≡ due_for (dues.First section) ls (statement_said v section ls)
unfolding shape completes next statement_said
shape_is v Unopened [] good = refl
shape_is v Globals [] good = refl
shape_is v Dimensions [] good = refl
shape_is v Variables [] good = refl
shape_is v Values [] good = refl
shape_is v Closed [] good = refl
shape_is v Ended [] good = refl
shape_is v Unopened (l ∷ ls) good = only_due (is_opening_kind l.kind) dues.Nothing ls _ _ (λ e. end_due ls Open)
shape_is v Closed (l ∷ ls) good = only_due (is_end l.kind) dues.Nothing ls _ _ (λ e. end_due ls End)
shape_is v Ended (l ∷ ls) good = never_due ls End
shape_is v Globals (l ∷ ls) good = open_due v Globals l ls _ _ (fine_on v l ls good) (mark_due Globals l ls)
shape_is v Dimensions (l ∷ ls) good = open_due v Dimensions l ls _ _ (fine_on v l ls good) (dimensions_said_due v l ls good)
shape_is v Variables (l ∷ ls) good = open_due v Variables l ls _ _ (fine_on v l ls good) (variables_said_due v l ls (fine_on v l ls good))
shape_is v Values (l ∷ ls) good = data_is v l ls (fine_on v l ls good) ∙ no_attribute v l ls

-- whether a piece has its shape
pub piece_completes : (v : Version) (section : Section) (ls : List Lexeme) → first_bad v ls ≡ None → is_some (shape v section ls) ≡ completes (dues.First section) ls
piece_completes v section ls good = rw (shape_is v section ls good) (grind arith)

-- a whole piece says this
pub said_is : (v : Version) (section : Section) (ls : List Lexeme) → first_bad v ls ≡ None → completes (dues.First section) ls ≡ true → shape v section ls ≡ Some (statement_said v section ls)
said_is v section ls good whole = shape_is v section ls good ∙ rw whole refl
