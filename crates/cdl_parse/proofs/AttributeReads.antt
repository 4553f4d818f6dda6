-- What the tokens of an attribute's statement make of the attributes.
use Rattle.cdl_parse.proofs.Prelude.{◌≡◌, ℕ, Bool, true, false, List, [], ◌∷◌, ◌++◌, refl, sym, ap, ◌∙◌, Result, Ok, Err, if◌then◌else◌, arith, rules, Att, NcType, Version, value_of, values, completes, is_value_of, next, is_done, next_token, text_of, version_of, words, Cutter, word_value, Lexeme, is_mark, lexeme, Value, AttributeName, Equals, Separator, CdlKind, BadName, DuplicateName, value_first, add_att, add_constant, first_type, in_turn, type_said, unless, when, FailsRead, Leaves, ReadError, has_attribute, att_read, att_said, ◌>>=◌, ⊤, is_name as is_format_name}
use Rattle.cdl_statements.specs.code.DueTokens.{is_name}
use Rattle.cdl_statements.specs.declared.due.Due.TheVariants.{Value as DueValue}
use Rattle.cdl_parse.proofs.TakenNames.{named}
use Rattle.cdl_parse.proofs.StatementWords.{begins, goes_past}

-- the attributes with one more, whose values these are, if they have no fault
abbrev pub with_values : List Att → List ℕ → NcType → Result (List ℕ) CdlKind → Result (List Att) CdlKind
with_values atts name ty read = read >>= (λ vals. Ok (atts ++ record { name = name; ty = ty; vals = vals } ∷ []))

-- the same, after the checks of the name
abbrev checked : List Att → List ℕ → NcType → Result (List ℕ) CdlKind → Result (List Att) CdlKind
checked atts name ty read = unless (is_format_name name) BadName >>= (λ u. when (has_attribute name atts) DuplicateName >>= (λ w. with_values atts name ty read))

name_first_checked : (name : List ℕ) (cs : List Value) (atts : List Att) →
    add_att name cs atts ≡ (unless (is_format_name name) BadName >>= (λ u. when (has_attribute name atts) DuplicateName >>= (λ w. with_values atts name (first_type cs) (in_turn (add_constant (first_type cs)) [] cs))))
unfolding add_att
name_first_checked name cs atts = refl

-- the first token after `=` is a constant
pub goes_name : (l : Lexeme) (ends : Bool) (ws all : List Lexeme) → all ≡ l ∷ (if ends then [] else ws) → completes AttributeName all ≡ true → (ends ≡ false) × (is_name l ≡ true) × (completes (Equals false) ws ≡ true)
unfolding next
goes_name l ends ws all first on = goes_past AttributeName (Equals false) l (is_name l) ends ws all refl refl first on

pub goes_equals : (l : Lexeme) (ends : Bool) (ws all : List Lexeme) → all ≡ l ∷ (if ends then [] else ws) → completes (Equals false) all ≡ true → (ends ≡ false) × (is_mark 0x3d l ≡ true) × (completes (DueValue false) ws ≡ true)
unfolding next
goes_equals l ends ws all first on = goes_past (Equals false) (DueValue false) l (is_mark 0x3d l) ends ws all refl refl first on

value_begins : (l : Lexeme) (ws all : List Lexeme) → all ≡ l ∷ ws → completes (DueValue false) all ≡ true → is_value_of false l l.kind ≡ true
unfolding next
value_begins l ws all first on = (goes_past (DueValue false) (Separator false) l (is_value_of false l l.kind) false ws all refl refl first on).1

pub said : (v : Version) (ws es cs rest : List Lexeme) (n e l : Lexeme) (a b : Bool) (ty : NcType) (atts : List Att) →
    ws ≡ n ∷ (if a then [] else es) → es ≡ e ∷ (if b then [] else cs) → cs ≡ l ∷ rest → completes AttributeName ws ≡ true → ty ≡ type_said (value_of v l l.kind) →
    att_said v ws atts ≡ checked atts (word_value n.bytes) ty (in_turn (add_constant ty) [] (values v cs))
said v ws es cs rest n e l a b ty atts first second third on is =
    let one = goes_name n a es ws first on in
    let two = goes_equals e b cs es second one.2 in
    let here : ws ≡ n ∷ e ∷ cs = first ∙ rw (one.0) (rw (second) (rw (two.0) refl)) in
    let begun : values v cs ≡ value_of v l l.kind ∷ values v rest = ap (values v) third ∙ value_first v false l rest (value_begins l rest cs third two.2) in
    let typed : first_type (values v cs) ≡ ty = ap first_type begun ∙ sym is in
    ap (λ all. att_said v all atts) here ∙ name_first_checked (word_value n.bytes) (values v cs) atts ∙ ap (λ t. checked atts (word_value n.bytes) t (in_turn (add_constant t) [] (values v cs))) typed

pub fails_then : {A B : Type 0} (e : ReadError) (r : Result A CdlKind) (f : A → Result B CdlKind) → FailsRead e r → FailsRead e (r >>= f)
fails_then e r f h = grind arith

pub name_fails : (e : ReadError) (n : Lexeme) (rest ws : List Lexeme) (v : Version) (atts : List Att) → ws ≡ n ∷ rest → FailsRead e (unless (is_format_name (word_value n.bytes)) BadName) → FailsRead e (att_said v ws atts)
name_fails e n rest ws v atts first h = search (rules, name_first_checked, fails_then)

pub refused : {A : Type 0} (after : A) (r : Result ⊤ ReadError) (e : ReadError) (read : Result A CdlKind) → r ≡ Err e → FailsRead e read → Leaves after r read
refused after r e read h h2 = grind arith

-- the same, as a cutter reads it
pub read_as : (start equals first : Cutter) (a b : Bool) (n l : Lexeme) (ty : NcType) (v : Version) (atts : List Att) (name : List ℕ) →
    words start ≡ lexeme (text_of start) (next_token start) ∷ (if a then [] else words equals) → words equals ≡ lexeme (text_of equals) (next_token equals) ∷ (if b then [] else words first) →
    (b ≡ false → is_done first ≡ false) → completes AttributeName (words start) ≡ true → n ≡ lexeme (text_of start) (next_token start) → l ≡ lexeme (text_of first) (next_token first) →
    v ≡ version_of first → version_of first ≡ version_of start → ty ≡ type_said (value_of v l l.kind) → name ≡ word_value n.bytes → is_format_name (word_value n.bytes) ≡ true →
    att_read start atts ≡ (when (has_attribute name atts) DuplicateName >>= (λ w. with_values atts name ty (in_turn (add_constant ty) [] (values (version_of first) (words first)))))
read_as start equals first a b n l ty v atts name one two more on n-is l-is v-is same ty-is name-is allowed =
    let begun = begins first (more (goes_equals _ b (words first) (words equals) two (goes_name _ a (words equals) (words start) one on).2).0) in
    let typed : ty ≡ type_said (value_of (version_of start) (lexeme (text_of first) (next_token first)) (lexeme (text_of first) (next_token first)).kind) =
    ty-is ∙ ap (λ w. type_said (value_of w l l.kind)) (v-is ∙ same) ∙ ap (λ (m : Lexeme). type_said (value_of (version_of start) m m.kind)) l-is in
    let read = in_turn (add_constant ty) [] (values (version_of start) (words first)) in
    said (version_of start) (words start) (words equals) (words first) begun.0 (lexeme (text_of start) (next_token start)) (lexeme (text_of equals) (next_token equals)) (lexeme (text_of first) (next_token first)) a b ty atts one two begun.1 on typed ∙
    ap (λ (m : Lexeme). checked atts (word_value m.bytes) ty read) (sym n-is) ∙ named (is_format_name (word_value n.bytes)) _ allowed ∙
    ap (λ (m : List ℕ). when (has_attribute m atts) DuplicateName >>= (λ w. with_values atts m ty read)) (sym name-is) ∙
    ap (λ w. when (has_attribute name atts) DuplicateName >>= (λ u. with_values atts name ty (in_turn (add_constant ty) [] (values w (words first))))) (sym same)
