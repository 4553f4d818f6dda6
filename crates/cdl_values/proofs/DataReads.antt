-- What a statement of the data section means, case by case.
use Rattle.cdl_values.proofs.Prelude.{false≢true, Version, word_value, Lexeme, is_mark, is_word_kind, is_mark_kind, first_bad, token_fault, completes, next, next_if, is_whole, only_completes, values, Due, DataName, Equals, CdlKind, Syntax, good_on, TokenKind, packed, FailsRead, data_read, bytes_assigned, packed_for, target_of, Target, ReadError, and_left, and_right, ◌≡◌, ℕ, true, false, List, [], ◌∷◌, refl, sym, ◌∙◌, Bool, None, Some, Result, Ok, Err, ◌==◌, not, slice_index, if◌then◌else◌, arith}
use Rattle.cdl_statements.specs.code.DueTokens.{is_name}
use Rattle.nc_types.specs.Escapes.{is_reserved}
use Rattle.std.specs.Option.{option_or}
use Rattle.cdl_statements.specs.declared.due.Due.TheVariants.{Value}

-- the fault of its shape is that of the statement
pub fault_read : (version : Version) (names : List (List ℕ)) (targets : List Target) (ws : List Lexeme) (k : CdlKind) → option_or (first_bad version ws) (if completes DataName ws then None else Some Syntax) ≡ Some k → data_read version names targets ws ≡ Err k
unfolding data_read
fault_read version names targets ws k h = grind arith

good_read : (version : Version) (names : List (List ℕ)) (targets : List Target) (ws : List Lexeme) → first_bad version ws ≡ None → completes DataName ws ≡ true → data_read version names targets ws ≡ bytes_assigned version names targets ws
unfolding data_read
good_read version names targets ws bad on = rw (bad) (rw (on) refl)

lone : (b : Bool) (due : Due) → is_whole due ≡ false → completes (next_if b due) [] ≡ true → ⊥
unfolding completes
lone b due h h2 = grind (arith, false≢true)

-- the statement goes on after its name, and after its `=`
pub name_goes : (l : Lexeme) (ws all : List Lexeme) (ends : Bool) → all ≡ l ∷ (if ends then [] else ws) → completes DataName all ≡ true → ends ≡ false
unfolding completes next
name_goes l ws all ends h h2 = grind (arith, lone)

pub name_on : (l : Lexeme) (ws all : List Lexeme) (ends : Bool) → all ≡ l ∷ (if ends then [] else ws) → completes DataName all ≡ true → completes (Equals true) ws ≡ true
unfolding completes next
name_on l ws all ends h h2 = grind (arith, lone, and_right, only_completes)

pub equals_goes : (l : Lexeme) (ws all : List Lexeme) (ends : Bool) → all ≡ l ∷ (if ends then [] else ws) → completes (Equals true) all ≡ true → ends ≡ false
unfolding completes next
equals_goes l ws all ends h h2 = grind (arith, lone)

-- a good statement
pub read_on : (version : Version) (names : List (List ℕ)) (targets : List Target) (ws es vs : List Lexeme) (n e : Lexeme) (a b : Bool) →
    ws ≡ n ∷ (if a then [] else es) → es ≡ e ∷ (if b then [] else vs) → first_bad version ws ≡ None → completes DataName ws ≡ true →
    data_read version names targets ws ≡ packed_for version vs (target_of names targets (word_value n.bytes))
read_on version names targets ws es vs n e a b first second bad on =
    grind (arith, name_goes n es ws a first on, equals_goes e vs es b second (name_on n es ws a first on), name_on n es ws a first on, good_read version names targets ws bad on)

pub filled_ok : (version : Version) (vs : List Lexeme) (r : Result Target CdlKind) (t : Target) → r ≡ Ok t → packed_for version vs r ≡ packed t.form t.capacity (values version vs)
filled_ok version vs r t is = rw (is) refl

pub filled_err : (version : Version) (vs : List Lexeme) (r : Result Target CdlKind) (e : ReadError) → FailsRead e r → FailsRead e (packed_for version vs r)
filled_err version vs r e h = grind arith

good_word : (version : Version) (l : Lexeme) (k : TokenKind) → is_word_kind k ≡ true → token_fault version k l.bytes ≡ None
good_word version l k h = grind arith

good_mark : (version : Version) (l : Lexeme) (k : TokenKind) → is_mark_kind k ≡ true → token_fault version k l.bytes ≡ None
good_mark version l k h = grind arith

name_good : (version : Version) (l : Lexeme) (ls : List Lexeme) → completes DataName (l ∷ ls) ≡ true → token_fault version l.kind l.bytes ≡ None
unfolding completes next
name_good version l ls h = good_word version l l.kind (and_left (is_word_kind l.kind) (not (is_reserved l.bytes)) (and_left (is_name l) (completes (Equals true) ls) (sym (only_completes (is_name l) (Equals true) ls) ∙ h)))

equals_good : (version : Version) (l : Lexeme) (ls : List Lexeme) → completes (Equals true) (l ∷ ls) ≡ true → token_fault version l.kind l.bytes ≡ None
unfolding completes next
equals_good version l ls h = good_mark version l l.kind (and_left (is_mark_kind l.kind) (slice_index l.bytes 0 == 0x3d) (and_left (is_mark 0x3d l) (completes (Value true) ls) (sym (only_completes (is_mark 0x3d l) (Value true) ls) ∙ h)))

-- nothing is bad before good values
pub quick_good : (version : Version) (ws es vs : List Lexeme) (n e : Lexeme) (a b : Bool) →
    ws ≡ n ∷ (if a then [] else es) → es ≡ e ∷ (if b then [] else vs) → a ≡ false → b ≡ false → completes DataName ws ≡ true → first_bad version vs ≡ None → first_bad version ws ≡ None
quick_good version ws es vs n e a b first second a-off b-off on good =
    grind (arith, name_on n es ws a first on, good_on version n es, name_good version n es, good_on version e vs, equals_good version e vs, next)
