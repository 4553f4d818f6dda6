-- The statements of a head, and what they say.
use Rattle.cdl_laws.proofs.Prelude.{Option, escaped_owner, role, ◌≡◌, ℕ, zero, suc, ◌^◌, ◌<◌, true, false, List, [], ◌∷◌, ◌++◌, map, sym, ◌∙◌, ap, refl, arith, append_assoc, append-nil, ℤ, pos, decimal, ◌==◌, not, if◌then◌else◌, None, Some, Ok, codes, rules, length, subst, signed_decimal, flat_map, list_all, list_all-append, all_mono, concat_parts, Att, Dim, NcType, Version, escaped_name, escaped_in_string, joined, dim_len_text, dim_line, unlimited_word, currently_word, att_line, att_text, broken_text, string_break, IsName, number_suffix, Section, Dimensions, Variables, is_digit, Lexeme, said_dim, IsBeforeData, globals, dimensions, variables, Value, Number, DeclareDimensions, Attribute, both, constants, assigned, shape, and_left, and_right, and_both, Each, escaped_text, type_word, DeclareVariables, Variable, in_parentheses, any_each, each_map, not_none, IsStatement, AttributeReadsBack, first_type, in_turn, add_constant, trimmed_att, Var, declaration, dim_name, shape_text, lexemes_at}
use Rattle.cdl_laws.proofs.Texts.{Closed, Reads, mark, word, number, name_word, name_stands, marks_closed, number_reads, mark_read, stops, reading}
use Rattle.cdl_laws.proofs.Numerals.{value_again, decimal_digits, value_is}
use Rattle.cdl_laws.proofs.Strings.{string}
use Rattle.cdl_laws.proofs.ValueTexts.{commas}
use Rattle.cdl_laws.proofs.Characters.{later_string, strings_read}
use Rattle.cdl_laws.proofs.Takes.{statement_says, semicolon, is_fine, is_starter, word_fine, all_fine}
use Rattle.cdl_laws.proofs.Heads.{name_starts, bare_word, comment_closed, joined_reads, fine_commas, type_reads, type_starts, free_word}

-- ---- dimensions

-- the comment after the record dimension
records_read : (n : ℕ) → Closed (codes "// (" ++ (decimal n ++ codes " currently)\n")) []
records_read n rest =
    let one_line = list_all-append (λ b. not (b == 10)) (decimal n) (codes " currently)") ∙ and_both (list_all (λ b. not (b == 10)) (decimal n)) true (all_mono is_digit (λ b. not (b == 10)) (λ b is. grind arith) (decimal n) (decimal_digits n)) refl in
    simp append_assoc (simp append_assoc at (comment_closed (codes " (" ++ (decimal n ++ codes " currently)")) one_line rest))

-- the length as a lexeme
abbrev pub extent_lexeme : ℕ → Lexeme
extent_lexeme len = if len == 0 then word (codes "UNLIMITED") else number (decimal len)

extent_closed : (n len : ℕ) → len < 2 ^ 64 → Closed (dim_len_text n len) (extent_lexeme len ∷ semicolon ∷ [])
unfolding dim_len_text concat_parts unlimited_word currently_word
extent_closed n zero h rest = simp (reading, bare_word (codes "UNLIMITED") refl refl, simp append_assoc at (records_read n rest))
extent_closed n (suc k) h rest = simp (not_none k, reading, number_reads (decimal (suc k)) (value_is (pos (suc k)) h))

pub dim_says : (v : Version) (n : ℕ) (dim : Dim) → IsName dim.name → dim.len < 2 ^ 64 → IsStatement v Dimensions (dim_line n dim) (DeclareDimensions (said_dim dim ∷ []))
unfolding shape dim_line concat_parts
dim_says v n dim name h =
    let again = value_again v (pos dim.len) h in
    statement_says v Dimensions (dim_line n dim) (word (escaped_name dim.name)) (mark 61 ∷ extent_lexeme dim.len ∷ []) (DeclareDimensions (said_dim dim ∷ []))
    (λ rest. simp (reading, extent_closed)) (name_starts dim.name name) (grind (arith, and_both, word, word_fine, codes "UNLIMITED", decimal dim.len, again, pos dim.len, number))
    (rw ((free_word (escaped_name dim.name) (name_word dim.name name).free).1)
    (grind (arith, word (escaped_name dim.name), codes "UNLIMITED", decimal dim.len, pos dim.len, name_word dim.name name, again, number)))

-- ---- constants

-- the lexemes of an attribute's values, and what they say
abbrev pub suffixed : NcType → ℤ → List ℕ
suffixed ty n = signed_decimal n ++ number_suffix ty

abbrev pub numbers_said : NcType → List ℤ → List Value
numbers_said ty xs = map (λ x. Number (record { value = x; ty = ty })) xs

-- ---- strings that are broken after line feeds

pub first : List ℕ → List ℕ
first [] = []
first (b ∷ []) = b ∷ []
first (b ∷ c ∷ bytes) = if b == 10 then b ∷ [] else b ∷ first (c ∷ bytes)

pub others : List ℕ → List (List ℕ)
others (b ∷ c ∷ bytes) = if b == 10 then first (c ∷ bytes) ∷ others (c ∷ bytes) else others (c ∷ bytes)
others _ = []

pub all_bytes : (bytes : List ℕ) → first bytes ++ flat_map (λ (b : List ℕ). b) (others bytes) ≡ bytes
unfolding first others
all_bytes (b ∷ c ∷ bytes) = grind (arith, first, others, all_bytes (c ∷ bytes))
all_bytes _ = refl

broken_is : (bytes : List ℕ) → broken_text bytes ≡ escaped_text (first bytes) ++ flat_map (later_string (codes ",\n\t\t\t")) (others bytes)
unfolding first others string_break escaped_text
broken_is [] = refl
broken_is (b ∷ []) = sym (append-nil (escaped_in_string b ++ []) ∙ append-nil (escaped_in_string b))
broken_is (b ∷ c ∷ bytes) = grind (arith, first, others, append_assoc, append-nil, broken_is (c ∷ bytes))

pub broken_read : (bytes : List ℕ) → Closed (34 ∷ (broken_text bytes ++ 34 ∷ [])) (string (first bytes) ∷ commas (map string (others bytes)))
broken_read bytes rest = simp (broken_is, append_assoc, strings_read (codes ",\n\t\t\t") (marks_closed (codes ",\n\t\t\t") refl) (first bytes) (others bytes))

-- ---- attributes

-- the values of an attribute are read back from a list of constants
pub record Speaks (v : Version) (att : Att) : Type 0 where
  pub name : IsName att.name
  pub l : Lexeme
  pub ls : List Lexeme
  pub reads : Reads (att_text att.ty att.vals) (l ∷ commas ls)
  pub fine : list_all (is_fine v) (l ∷ ls) ≡ true
  pub said : List Value
  pub says : constants v false (l ∷ commas ls ++ semicolon ∷ []) ≡ Some said
  pub type : first_type said ≡ att.ty
  pub are : in_turn (add_constant att.ty) [] said ≡ Ok (trimmed_att att).vals

att_fine : (v : Version) (att : Att) (s : Speaks v att) → list_all (is_fine v) (mark 58 ∷ word (escaped_name att.name) ∷ mark 61 ∷ s.l ∷ commas s.ls) ≡ true
att_fine v att s = grind (arith, and_both, word, word_fine, and_left, fine_commas, and_right)

assigned_is : {A : Type 0} (v : Version) (f : List ℕ → List Value → A) (att : Att) (s : Speaks v att) →
    assigned v false f (word (escaped_name att.name) ∷ mark 61 ∷ s.l ∷ commas s.ls ++ semicolon ∷ []) ≡ Some (f att.name s.said)
assigned_is v f att s = rw ((name_word att.name s.name).stands) (ap (both f (Some att.name)) s.says)

-- of the whole dataset, in a section before the data
global_in : (v : Version) (section : Section) (ls : List Lexeme) → IsBeforeData section → shape v section (mark 58 ∷ ls) ≡ assigned v false (Attribute None) ls
unfolding shape
global_in v section ls globals = refl
global_in v section ls dimensions = refl
global_in v section ls variables = refl

att_says : (v : Version) (section : Section) (owner : Option (List ℕ)) (att : Att) (s : Speaks v att) (a : Lexeme) (p : List Lexeme) → Closed (att_line (escaped_owner owner) att) (a ∷ p ++ semicolon ∷ []) →
    is_starter (role a) ≡ true → list_all (is_fine v) (a ∷ p) ≡ true → shape v section (a ∷ p ++ semicolon ∷ []) ≡ Some (Attribute owner att.name s.said) → AttributeReadsBack v section owner att
att_says v section owner att s a p closed starts fine is =
    record { constants = s.said; statement = statement_says v section (att_line (escaped_owner owner) att) a p (Attribute owner att.name s.said) closed starts fine is; ty = s.type; vals = s.are }

pub global_says : (v : Version) (section : Section) → IsBeforeData section → (att : Att) → Speaks v att → AttributeReadsBack v section None att
unfolding att_line concat_parts
global_says v section before att s =
    let ls = word (escaped_name att.name) ∷ mark 61 ∷ s.l ∷ commas s.ls in
    let is = global_in v section (ls ++ semicolon ∷ []) before ∙ assigned_is v (Attribute None) att s in
    att_says v section None att s (mark 58) ls (λ rest. simp (reading, s.name, s.reads)) refl (att_fine v att s) is

-- of a variable
pub owned_says : (v : Version) (owner : List ℕ) → IsName owner → (att : Att) → Speaks v att → AttributeReadsBack v Variables (Some owner) att
unfolding att_line concat_parts shape
owned_says v owner own att s =
    let l = word (escaped_name owner) in
    let ls = mark 58 ∷ word (escaped_name att.name) ∷ mark 61 ∷ s.l ∷ commas s.ls in
    let fine : list_all (is_fine v) (l ∷ ls) ≡ true = and_both _ _ (word_fine v (escaped_name owner)) (att_fine v att s) in
    let is : shape v Variables (l ∷ ls ++ semicolon ∷ []) ≡ Some (Attribute (Some owner) att.name s.said) = rw ((name_word owner own).stands) (assigned_is v (Attribute (Some owner)) att s) in
    att_says v Variables (Some owner) att s l ls (λ rest. simp (reading, s.name, s.reads)) (name_starts owner own) fine is

-- ---- the declaration of a variable

abbrev pub name_lexemes : List (List ℕ) → List Lexeme
name_lexemes names = map (λ name. word (escaped_name name)) names

abbrev shape_lexemes : List (List ℕ) → List Lexeme
shape_lexemes [] = []
shape_lexemes (n ∷ ns) = mark 40 ∷ word (escaped_name n) ∷ commas (name_lexemes ns) ++ mark 41 ∷ []

names_fine : (v : Version) (names : List (List ℕ)) → list_all (is_fine v) (shape_lexemes names) ≡ true
names_fine v [] = refl
names_fine v (n ∷ ns) =
    let others = all_fine v (λ m. word (escaped_name m)) (λ m. Unit {0}) (λ m u. word_fine v (escaped_name m)) ns (any_each ns) in
    search (rules, list_all-append, all_mono, and_both, word_fine, fine_commas, others)

-- ---- a declaration

shape_closed : (dims : List Dim) (ids : List ℕ) (names : List (List ℕ)) → map (dim_name dims) ids ≡ map escaped_name names → Each IsName names →
    Closed (shape_text dims ids) (shape_lexemes names)
unfolding shape_text concat_parts
shape_closed dims [] [] same all rest = refl
shape_closed dims (k ∷ ids) (n ∷ ns) same all rest =
    rw (not_none (length ids)) (subst (λ ms. lexemes_at false 0 ((40 ∷ (joined ms ++ 41 ∷ [])) ++ rest) ≡ (shape_lexemes (n ∷ ns)) ++ lexemes_at false 0 rest) (sym same)
    (simp (append_assoc, mark_read, joined_reads escaped_name (λ m. word (escaped_name m)) n ns (each_map IsName (λ m. Reads (escaped_name m) (word (escaped_name m) ∷ [])) (n ∷ ns) (λ m valid. (name_word m valid).reads) all))))
shape_closed dims _ _ same all rest = absurd (cc)

shape_stops : (dims : List Dim) (ids rest : List ℕ) → stops (shape_text dims ids ++ 32 ∷ rest) ≡ true
unfolding shape_text concat_parts
shape_stops dims [] rest = refl
shape_stops dims (k ∷ ids) rest = rw (not_none (length ids))

names_in : (f : List (List ℕ) → Variable) (n : List ℕ) (ns : List (List ℕ)) → Each IsName (n ∷ ns) →
    in_parentheses f (word (escaped_name n) ∷ (commas (name_lexemes ns) ++ mark 41 ∷ []) ++ semicolon ∷ []) ≡ Some (f (n ∷ ns) ∷ [])
names_in f n [] h = rw ((name_word n h.0).stands) refl
names_in f n (m ∷ ns) h = rw ((name_word n h.0).stands) (names_in (λ ds. f (n ∷ ds)) m ns h.1)

line_is : (v : Version) (ty : NcType) (name : List ℕ) (names : List (List ℕ)) → IsName name → Each IsName names →
    shape v Variables (word (type_word ty) ∷ word (escaped_name name) ∷ (shape_lexemes names ++ semicolon ∷ [])) ≡ Some
    (DeclareVariables (word (type_word ty)) (record { name = name; dimensions = names } ∷ []))
unfolding shape
line_is v ty name [] h all = simp name_stands
line_is v ty name (n ∷ ns) h all = simp (name_stands, names_in (λ ds. record { name = name; dimensions = ds }) n ns all)

pub declaration_says : (v : Version) (dims : List Dim) (var : Var) (names : List (List ℕ)) → map (dim_name dims) var.dimids ≡ map escaped_name names → IsName var.name → Each IsName names →
    IsStatement v Variables (declaration dims var) (DeclareVariables (word (type_word var.ty)) (record { name = var.name; dimensions = names } ∷ []))
unfolding concat_parts
declaration_says v dims var names same h all =
    statement_says v Variables (declaration dims var) (word (type_word var.ty)) (word (escaped_name var.name) ∷ shape_lexemes names)
    (DeclareVariables (word (type_word var.ty)) (record { name = var.name; dimensions = names } ∷ []))
    (λ rest. simp (reading, type_reads var.ty, shape_closed dims var.dimids names same all, shape_stops))
    (type_starts var.ty) (simp (word_fine, names_fine)) (line_is v var.ty var.name names h all)
