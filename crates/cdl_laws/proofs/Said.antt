-- What the statements of a text of bytes say: the characters of their constants are bytes, and the types of their numbers are the version's.
use Rattle.cdl_laws.proofs.Prelude.{◌≡◌, Bool, true, arith, ◌&&◌, find, and_left, and_right, NcType, Int, ok_or, is_word, type_word, type_of, CdlKind, OkIs, has_type, to_ascii_lowercase, type_of_suffix, Parts, TypedNumber, in_base, with_sign, parts, numeral, Number, Underscore, if◌then◌else◌, Option, None, Some, ℕ, ◌-◌, false, List, [], ◌∷◌, zero, suc, drop, map, rules, option_map, both, if_so, Version, character, unescape_at, or_zero, Lexeme, name_of, Value, Characters, at_end, after_member, constant, constants, Each, each_drop, each_take, IsByte, lexeme, Statement, Attribute, Listed, attribute_or_mark, assigned, other_statement, section_mark, shape, Section, Unopened, Globals, Dimensions, Variables, Values, Closed, Ended, Token}
use Rattle.nc_types.specs.Types.{all_types}
use Rattle.cdl_tokens.specs.Numerals.{has_suffix}

abbrev pub SomeIs : {A : Type 0} → (A → Type 0) → Option A → Type 0
SomeIs P None = Unit {0}
SomeIs P (Some a) = P a

pub some_any : {A : Type 0} (o : Option A) → SomeIs (λ a. Unit {0}) o
some_any o = grind arith

pub some_map : {A B : Type 0} (P : B → Type 0) (f : A → B) (o : Option A) → SomeIs (λ a. P (f a)) o → SomeIs P (option_map f o)
some_map P f o h = grind arith

pub some_both : {A B C : Type 0} (P : A → Type 0) (Q : B → Type 0) (R : C → Type 0) (f : A → B → C) (a : Option A) (b : Option B) → SomeIs P a → SomeIs Q b → ((x : A) (y : B) → P x → Q y → R (f x y)) → SomeIs R (both f a b)
some_both P Q R f a b h h2 h3 = grind arith

pub some_given : {A : Type 0} (P : A → Type 0) (b : Bool) (o : Option A) → (b ≡ true → SomeIs P o) → SomeIs P (if_so b o)
some_given P b o h = grind arith

pub in_if : {A : Type 0} (P : A → Type 0) (b : Bool) (x y : A) → P x → P y → P (if b then x else y)
in_if P b x y h h2 = grind arith

-- the token's bytes are bytes
abbrev pub HasBytes : Lexeme → Type 0
HasBytes l = Each IsByte l.bytes

member_some : {A : Type 0} (P : List A → Type 0) (others : Option (List A)) (c : Lexeme) (ls : List Lexeme) → P [] → SomeIs P others → SomeIs P (after_member others c ls)
member_some P others c ls none h = grind arith

-- ---- types

-- the version has the type
abbrev pub HasType : Version → NcType → Type 0
HasType v ty = has_type v ty ≡ true

found_type : (v : Version) (p : NcType → Bool) (tys : List NcType) → ((ty : NcType) → p ty ≡ true → HasType v ty) → SomeIs (HasType v) (find p tys)
found_type v p [] h = tt
found_type v p (ty ∷ tys) h = grind (arith, h ty, found_type v p tys h)

int_type : (v : Version) → HasType v Int
int_type v = grind arith

ok_found : {A F : Type 0} (P : A → Type 0) (o : Option A) (e : F) → SomeIs P o → OkIs P (ok_or o e)
ok_found P o e h = grind arith

suffix_type : (v : Version) (bs : List ℕ) → SomeIs (HasType v) (type_of_suffix v bs)
unfolding type_of_suffix
suffix_type v bs =
    found_type v (λ ty. has_suffix (map to_ascii_lowercase bs) ty && has_type v ty) all_types (λ ty h. and_right (has_suffix (map to_ascii_lowercase bs) ty) (has_type v ty) h)

abbrev IsOfVersion : Version → Parts → Type 0
IsOfVersion v p = HasType v p.ty

based_type : (v : Version) (minus : Bool) (base n : ℕ) (bs : List ℕ) → SomeIs (IsOfVersion v) (in_base v minus base n bs)
based_type v minus base n bs = grind (arith, suffix_type v (drop n bs))

signed_type : (v : Version) (minus : Bool) (bs : List ℕ) → SomeIs (IsOfVersion v) (with_sign v minus bs)
signed_type v minus bs = search (rules, in_if (SomeIs (IsOfVersion v)), based_type)

-- the type that a number says
numeral_type : (v : Version) (bs : List ℕ) → SomeIs (λ (n : TypedNumber). HasType v n.ty) (numeral v bs)
unfolding numeral parts
numeral_type v bs = search (rules, some_map, in_if (SomeIs (IsOfVersion v)), signed_type)

-- the type that a declaration says
pub word_type : (v : Version) (word : Lexeme) → OkIs {F = CdlKind} (HasType v) (type_of v word)
unfolding type_of
word_type v word = grind (arith, in_if (OkIs {F = CdlKind} (HasType v)), int_type, ok_found, found_type v (λ ty. has_type v ty && is_word (type_word ty) word) all_types (λ ty h. and_left (has_type v ty) (is_word (type_word ty) word) h))

-- ---- constants

stands_fine : (more : ℕ) (bs : List ℕ) → Each IsByte bs → Each IsByte (map or_zero (unescape_at more bs))
unfolding unescape_at character
stands_fine more [] h = tt
stands_fine (suc more) (b ∷ bs) h = stands_fine more bs h.1
stands_fine zero (b ∷ bs) h = grind (arith, stands_fine ((character (b ∷ bs)).len - 1) bs h.1)

abbrev pub IsFineValue : Version → Value → Type 0
IsFineValue v (Number n) = HasType v n.ty
IsFineValue v (Characters bytes) = Each IsByte bytes
IsFineValue v Underscore = Unit {0}

one_good : (v : Version) (takes_fill : Bool) (l : Lexeme) → HasBytes l → SomeIs (IsFineValue v) (constant v takes_fill l)
one_good v takes_fill l h = grind (arith, some_map, stands_fine, each_take, each_drop, numeral_type v l.bytes)

constants_good : (v : Version) (takes_fill : Bool) (ls : List Lexeme) → Each HasBytes ls → SomeIs (Each (IsFineValue v)) (constants v takes_fill ls)
constants_good v takes_fill (l ∷ c ∷ ls) h = search (rules, some_both (IsFineValue v) (Each (IsFineValue v)) (Each (IsFineValue v)), one_good v takes_fill l h.0, member_some, constants_good v takes_fill ls h.1.1)
constants_good v takes_fill _ h = tt

-- ---- statements

-- of what a statement says, the constants of an attribute are kept as they are
abbrev pub IsSaid : Version → Statement → Type 0
IsSaid v (Attribute o name cs) = Each (IsFineValue v) cs
IsSaid v _ = Unit {0}

ended : (v : Version) (st : Statement) (ls : List Lexeme) → IsSaid v st → SomeIs (IsSaid v) (at_end st ls)
ended v st ls h = grind arith

assigned_says : (v : Version) (takes_fill : Bool) (f : List ℕ → List Value → Statement) (ls : List Lexeme) → Each HasBytes ls →
    ((name : List ℕ) (cs : List Value) → Each (IsFineValue v) cs → IsSaid v (f name cs)) → SomeIs (IsSaid v) (assigned v takes_fill f ls)
assigned_says v takes_fill f (n ∷ e ∷ ls) h g = search (rules, some_given, some_both (λ (name : List ℕ). Unit {0}) (Each (IsFineValue v)) (IsSaid v), some_any, constants_good v takes_fill ls h.1.1, g)
assigned_says v takes_fill f _ h g = tt

marks_say : (v : Version) (before : Section) (l : Lexeme) (ls : List Lexeme) → SomeIs (IsSaid v) (section_mark before l ls)
marks_say v before l (c ∷ []) = grind arith
marks_say v before l _ = grind arith

owned_says : (v : Version) (l : Lexeme) (o : Option (List ℕ)) (c : Lexeme) (ls : List Lexeme) → Each HasBytes ls → SomeIs (IsSaid v) (attribute_or_mark v l o (c ∷ ls))
owned_says v l o c ls h = grind (arith, assigned_says v false (Attribute o) ls h (λ name cs fine. fine), marks_say v Variables l (c ∷ ls))

other_says : (v : Version) (section : Section) (l : Lexeme) (ls : List Lexeme) → Each HasBytes ls → SomeIs (IsSaid v) (other_statement v section l ls)
other_says v Globals l ls h = marks_say v Globals l ls
other_says v Dimensions l ls h = search (rules, in_if (SomeIs (IsSaid v)), marks_say v Dimensions l ls, some_map, some_any)
other_says v Variables l (c ∷ ls) h = search (rules, some_given, in_if (SomeIs (IsSaid v)), owned_says v l (name_of l) c ls h.1, some_map, some_any)
other_says v _ l _ h = tt

pub shape_says : (v : Version) (section : Section) (ls : List Lexeme) → Each HasBytes ls → SomeIs (IsSaid v) (shape v section ls)
unfolding shape
shape_says v section [] h = tt
shape_says v Unopened (l ∷ ls) h = search (rules, some_given, ended)
shape_says v Closed (l ∷ ls) h = search (rules, some_given, ended)
shape_says v Ended (l ∷ ls) h = tt
shape_says v Values (l ∷ ls) h = search (rules, in_if (SomeIs (IsSaid v)), ended, assigned_says v true Listed (l ∷ ls) h (λ name cs fine. tt))
shape_says v section (l ∷ ls) h = search (rules, in_if (SomeIs (IsSaid v)), ended, assigned_says v false (Attribute None) ls h.1 (λ name cs fine. fine), other_says v section l ls h.1)

pub piece_bytes : (text : List ℕ) (p : List Token) → Each IsByte text → Each HasBytes (map (lexeme text) p)
piece_bytes text [] h = tt
piece_bytes text (t ∷ p) h = (each_take IsByte (t.past - t.first) (drop t.first text) (each_drop IsByte t.first text h), piece_bytes text p h)
