-- What the statements before the data section make of the state.
use Rattle.cdl_parse.proofs.Prelude.{◌≡◌, Bool, true, false, List, [], ◌∷◌, drop, refl, sym, ap, ◌∙◌, Option, None, Some, is_some, Result, Ok, Err, if◌then◌else◌, arith, rules, false≢true, Att, Dim, Version, attribute_said, dimensions_said, mark_said, other_said, statement_said, variable_said, is_done, next_token, text_of, version_of, words, Cutter, completes, opens_section_after, is_whole, next, next_if, word_value, Lexeme, lexeme, is_mark, is_word_kind, Close, End, Statement, first_bad, section_of, shape, Due, CdlKind, Syntax, Section, Unopened, Globals, Dimensions, Variables, Closed, Ended, piece_read, checked, shaped, State, Draft, act, add_att, add_dim, change_variable, in_turn, with_att, Leaves, name_first, ReadError, OutOfMemory, Fault, constants_said, declared, Makes, after_mark, is_defining, is_over, state_of, ◌>>=◌, ⊤}
use Rattle.cdl_statements.specs.code.DueTokens.{is_name}
use Rattle.cdl_statements.specs.declared.due.Due.TheVariants as dues
use Rattle.cdl_parse.proofs.StatementWords.{begins, goes_past}
use Rattle.cdl_parse.specs.declared.definitions.Definitions.{Definitions}

pub opens : (v : Version) (s : State) (l : Lexeme) (ls ws : List Lexeme) → ws ≡ l ∷ ls → act v s (statement_said v Unopened ws) ≡ Ok (record s { section = Globals })
unfolding act statement_said
opens v s l ls ws is = rw (is) refl

said_brace : (v : Version) (section : Section) (l : Lexeme) (ls : List Lexeme) → is_defining section ≡ true → is_mark 0x7d l ≡ true → statement_said v section (l ∷ ls) ≡ Close
unfolding statement_said
said_brace v section l ls h h2 = grind arith

pub closes : (v : Version) (s : State) (l : Lexeme) (ls ws : List Lexeme) → is_defining s.section ≡ true → is_mark 0x7d l ≡ true → ws ≡ l ∷ ls → act v s (statement_said v s.section ws) ≡ Ok (record s { section = Closed })
unfolding act
closes v s l ls ws inside on is = ap (λ all. act v s (statement_said v s.section all)) is ∙ ap (act v s) (said_brace v s.section l ls inside on)

said_global : (v : Version) (section : Section) (l : Lexeme) (ls : List Lexeme) → is_defining section ≡ true → is_mark 0x7d l ≡ false → is_mark 0x3a l ≡ true → statement_said v section (l ∷ ls) ≡ attribute_said v None ls
unfolding statement_said
said_global v section l ls h h2 h3 = grind arith

next_global : (section : Section) (l : Lexeme) → is_defining section ≡ true → is_mark 0x7d l ≡ false → is_mark 0x3a l ≡ true → next (dues.First section) l ≡ dues.AttributeName
unfolding next
next_global section l h h2 h3 = grind arith

-- a statement that has its shape goes on after a token after which another one is due
pub goes_to_due : (due following : Due) (l : Lexeme) (ends : Bool) (ws all : List Lexeme) → next due l ≡ following → is_whole following ≡ false → all ≡ l ∷ (if ends then [] else ws) → completes due all ≡ true → (ends ≡ false) × (completes following ws ≡ true)
unfolding completes
goes_to_due due following l ends ws all is unfinished first on = search (rules, false≢true)

pub goes_global : (section : Section) (l : Lexeme) (ends : Bool) (ws all : List Lexeme) → is_defining section ≡ true → is_mark 0x7d l ≡ false → is_mark 0x3a l ≡ true → all ≡ l ∷ (if ends then [] else ws) → completes (dues.First section) all ≡ true →
    (ends ≡ false) × (completes dues.AttributeName ws ≡ true)
goes_global section l ends ws all inside off on first whole = goes_to_due (dues.First section) dues.AttributeName l ends ws all (next_global section l inside off on) refl first whole

-- an attribute of the dataset
global_acts : (v : Version) (s : State) (ls : List Lexeme) → completes dues.AttributeName ls ≡ true → act v s (attribute_said v None ls) ≡ (add_att (name_first ls) (constants_said v ls) s.gatts >>= (λ atts. Ok (record s { gatts = atts })))
unfolding act completes
global_acts v s ls h = grind arith

pub makes_then : {A : Type 0} (after : A) (made : State) (f : A → Result State CdlKind) (r : Result ⊤ ReadError) (read : Result A CdlKind) → f after ≡ Ok made → Leaves after r read → Makes made r (read >>= f)
makes_then {A = A} after made f (Ok u) read is h = ap (λ (q : Result A CdlKind). q >>= f) h ∙ is
makes_then after made f (Err OutOfMemory) read is h = tt
makes_then {A = A} after made f (Err (Fault k)) read is h = ap (λ (q : Result A CdlKind). q >>= f) h

pub makes_global : (v : Version) (s : State) (l : Lexeme) (ends : Bool) (ls ws : List Lexeme) (gatts : List Att) (r : Result ⊤ ReadError) →
    is_defining s.section ≡ true → is_mark 0x7d l ≡ false → is_mark 0x3a l ≡ true → ws ≡ l ∷ (if ends then [] else ls) → completes (dues.First s.section) ws ≡ true →
    Leaves gatts r (add_att (name_first ls) (constants_said v ls) s.gatts) → Makes (record s { gatts = gatts }) r (act v s (statement_said v s.section ws))
makes_global v s l ends ls ws gatts r inside off on first whole h =
    grind (arith, goes_global s.section l ends ls ws inside off on first whole, said_global v s.section l ls inside off on, global_acts v s ls, name_first ls, makes_then)

pub said_other : (v : Version) (section : Section) (l : Lexeme) (ls : List Lexeme) → is_defining section ≡ true → is_mark 0x7d l ≡ false → is_mark 0x3a l ≡ false → statement_said v section (l ∷ ls) ≡ other_said v section l ls
unfolding statement_said
said_other v section l ls h h2 h3 = grind arith

-- the mark of a section
mark_acts : (v : Version) (s : State) (o : Option Section) → act v s (mark_said o) ≡ Ok (record s { section = after_mark o })
unfolding act
mark_acts v s o = grind arith

pub makes_first_mark : (v : Version) (s : State) (l : Lexeme) (ls ws : List Lexeme) → s.section ≡ Globals → is_mark 0x7d l ≡ false → is_mark 0x3a l ≡ false → ws ≡ l ∷ ls →
    act v s (statement_said v s.section ws) ≡ Ok (record s { section = after_mark (section_of l) })
makes_first_mark v s l ls ws section off other is = search (rules, said_other, mark_acts)

-- ---- the section of the dimensions

pub makes_dimension_mark : (v : Version) (s : State) (l : Lexeme) (ls ws : List Lexeme) → is_mark 0x7d l ≡ false → is_mark 0x3a l ≡ false → opens_section_after Dimensions l ≡ true → ws ≡ l ∷ ls →
    act v s (statement_said v Dimensions ws) ≡ Ok (record s { section = after_mark (section_of l) })
makes_dimension_mark v s l ls ws off other on is = search (rules, said_other, mark_acts)

pub goes_dimensions : (l : Lexeme) (ls ws : List Lexeme) → is_mark 0x7d l ≡ false → is_mark 0x3a l ≡ false → opens_section_after Dimensions l ≡ false → ws ≡ l ∷ ls → completes (dues.First Dimensions) ws ≡ true → completes dues.DimensionName ws ≡ true
unfolding completes next
goes_dimensions l ls ws off other no-mark is whole = search rules

pub makes_dimensions : (v : Version) (s : State) (l : Lexeme) (ls ws : List Lexeme) (dims : List Dim) (r : Result ⊤ ReadError) → is_mark 0x7d l ≡ false → is_mark 0x3a l ≡ false → opens_section_after Dimensions l ≡ false → ws ≡ l ∷ ls →
    Leaves dims r (in_turn (add_dim v) s.dims (dimensions_said v ws)) → Makes (record s { dims = dims }) r (act v s (statement_said v Dimensions ws))
unfolding act
makes_dimensions v s l ls ws dims r off other no-mark is h = search (rules, said_other, makes_then)

-- ---- the section of the variables

next_variables : (l : Lexeme) → is_mark 0x7d l ≡ false → is_mark 0x3a l ≡ false → next (dues.First Variables) l ≡ next_if (is_word_kind l.kind) (dues.AfterWord (is_name l) (opens_section_after Variables l))
unfolding next
next_variables l off other = rw (off) (rw (other) refl)

pub goes_word : (l : Lexeme) (ends : Bool) (ls ws : List Lexeme) → is_mark 0x7d l ≡ false → is_mark 0x3a l ≡ false → ws ≡ l ∷ (if ends then [] else ls) → completes (dues.First Variables) ws ≡ true →
    (ends ≡ false) × (is_word_kind l.kind ≡ true) × (completes (dues.AfterWord (is_name l) (opens_section_after Variables l)) ls ≡ true)
goes_word l ends ls ws off other first whole =
    goes_past (dues.First Variables) (dues.AfterWord (is_name l) (opens_section_after Variables l)) l (is_word_kind l.kind) ends ls ws (next_variables l off other) refl first whole

-- no colon comes second
pub goes_declaration : (named section : Bool) (c : Lexeme) (rest ls : List Lexeme) → is_mark 0x3a c ≡ false → ls ≡ c ∷ rest → completes (dues.AfterWord named section) ls ≡ true → completes dues.VariableName ls ≡ true
unfolding completes next
goes_declaration named section c rest ls off is whole = search (rules, next)

pub makes_declaration : (v : Version) (s : State) (l c : Lexeme) (rest ls ws : List Lexeme) (drafts : List Draft) (r : Result ⊤ ReadError) →
    is_mark 0x7d l ≡ false → is_mark 0x3a l ≡ false → is_mark 0x3a c ≡ false → ls ≡ c ∷ rest → ws ≡ l ∷ ls →
    Leaves drafts r (declared v s.dims s.drafts ws) → Makes (record s { drafts = drafts }) r (act v s (statement_said v Variables ws))
unfolding act
makes_declaration v s l c rest ls ws drafts r off other no-colon second first h = search (rules, makes_then, said_other)

-- a colon comes second
next_colon : (named section : Bool) (c : Lexeme) → is_mark 0x3a c ≡ true → named ≡ true → next (dues.AfterWord named section) c ≡ dues.AttributeName
unfolding next
next_colon named section c on is = rw (on) (rw (is) refl)

said_attribute : (v : Version) (s : State) (l c : Lexeme) (ls : List Lexeme) → is_mark 0x3a c ≡ true → is_name l ≡ true → completes dues.AttributeName ls ≡ true →
    act v s (variable_said v l (c ∷ ls)) ≡ (change_variable (word_value l.bytes) (with_att (name_first ls) (constants_said v ls)) s.drafts >>= (λ drafts. Ok (record s { drafts = drafts })))
unfolding act completes
said_attribute v s l c ls h h2 h3 = grind arith

pub goes_attribute : (l c : Lexeme) (ls rest : List Lexeme) → is_mark 0x3a c ≡ true → is_name l ≡ true → ls ≡ c ∷ rest → completes (dues.AfterWord (is_name l) (opens_section_after Variables l)) ls ≡ true → completes dues.AttributeName rest ≡ true
unfolding completes
goes_attribute l c ls rest on named second whole = ap (λ d. completes d rest) (sym (next_colon (is_name l) (opens_section_after Variables l) c on named)) ∙ sym (ap (completes (dues.AfterWord (is_name l) (opens_section_after Variables l))) second) ∙ whole

pub makes_attribute : (v : Version) (s : State) (l c : Lexeme) (rest ls ws : List Lexeme) (drafts : List Draft) (r : Result ⊤ ReadError) →
    is_mark 0x7d l ≡ false → is_mark 0x3a l ≡ false → is_mark 0x3a c ≡ true → is_name l ≡ true → ls ≡ c ∷ rest → ws ≡ l ∷ ls → completes (dues.AfterWord (is_name l) (opens_section_after Variables l)) ls ≡ true →
    Leaves drafts r (change_variable (name_first ws) (with_att (name_first (drop 2 ws)) (constants_said v (drop 2 ws))) s.drafts) → Makes (record s { drafts = drafts }) r (act v s (statement_said v Variables ws))
makes_attribute v s l c rest ls ws drafts r off other on named second first whole h =
    search (rules, name_first, said_attribute, goes_attribute, makes_then, said_other)

pub makes_variable_mark : (v : Version) (s : State) (l c : Lexeme) (rest ls ws : List Lexeme) →
    is_mark 0x7d l ≡ false → is_mark 0x3a l ≡ false → is_mark 0x3a c ≡ true → is_name l ≡ false → ls ≡ c ∷ rest → ws ≡ l ∷ ls →
    act v s (statement_said v Variables ws) ≡ Ok (record s { section = after_mark (section_of l) })
makes_variable_mark v s l c rest ls ws off other on nameless second first = search (rules, mark_acts, said_other)

-- another section, and the rest as it was
pub gone : (old new : Definitions) (o : Option Section) → new.section ≡ after_mark o → new.dims ≡ old.dims → new.gatts ≡ old.gatts → new.variables ≡ old.variables → record (state_of old) { section = after_mark o } ≡ state_of new
gone old new o section dims gatts variables = rw (section) (rw (dims) (rw (gatts) (rw (variables) refl)))

-- what follows the first word of a statement in the section of the variables
pub record SecondOn (start next : Cutter) : Type 0 where
  pub rest : List Lexeme
  pub first : words start ≡ lexeme (text_of start) (next_token start) ∷ words next
  pub second : words next ≡ lexeme (text_of next) (next_token next) ∷ rest
  pub due : completes (dues.AfterWord (is_name (lexeme (text_of start) (next_token start))) (opens_section_after Variables (lexeme (text_of start) (next_token start)))) (words next) ≡ true

pub second_on : (start second : Cutter) (ends : Bool) → is_mark 0x7d (lexeme (text_of start) (next_token start)) ≡ false → is_mark 0x3a (lexeme (text_of start) (next_token start)) ≡ false →
    completes (dues.First Variables) (words start) ≡ true → words start ≡ lexeme (text_of start) (next_token start) ∷ (if ends then [] else words second) → (ends ≡ false → is_done second ≡ false) → SecondOn start second
second_on start second ends brace colon whole first more =
    let past = goes_word (lexeme (text_of start) (next_token start)) ends (words second) (words start) brace colon first whole in
    let begun = begins second (more past.0) in
    record { rest = begun.0; first = first ∙ rw (past.0) refl; second = begun.1; due = past.2 }

pub only_globals : (section : Section) → is_defining section ≡ true → (section ≡ Dimensions → ⊥) → (section ≡ Variables → ⊥) → section ≡ Globals
only_globals section h h2 h3 = grind arith

-- after the closing brace
said_past : (v : Version) (section : Section) (l : Lexeme) (ls : List Lexeme) → is_over section ≡ true → statement_said v section (l ∷ ls) ≡ End
unfolding statement_said
said_past v section l ls h = grind arith

pub ends : (v : Version) (s : State) (l : Lexeme) (ls ws : List Lexeme) → is_over s.section ≡ true → ws ≡ l ∷ ls → act v s (statement_said v s.section ws) ≡ Ok (record s { section = Ended })
unfolding act
ends v s l ls ws past is = ap (λ all. act v s (statement_said v s.section all)) is ∙ ap (act v s) (said_past v s.section l ls past)
