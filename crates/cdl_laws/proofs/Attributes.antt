-- The values of an attribute are read back.
use Rattle.cdl_laws.proofs.Prelude.{nothing, bytes_each, are_bytes, IsByte, each_take, ◌≡◌, ℕ, zero, suc, ◌+◌, ◌*◌, ◌/◌, ◌^◌, ◌<◌, true, false, List, [], ◌∷◌, length, drop, take, map, sym, ◌∙◌, ap, refl, subst, arith, length-take, length-drop, ℤ, rules, pos, unsigned_abs, Ok, flat_map, mul-div_cancel, ints, take-append-drop, get_or-drop, AreBytes, Att, NcType, Char, Version, numbers, numbers_from, bytes_of_number, IsInRange, size_of, IsSoundAtt, att_text, numbers_text, joined, without_trailing_nuls, IsName, is_char, has_type, trimmed_att, HasSomeNumber, Characters, has_number, some_size, is_had, number_suffix, length-numbers_from, Each, each_map, Lexeme, chars_text, concat_parts}
use Rattle.nc_base.proofs.NumberBytes.{bytes_read_back, numbers_in_range}
use Rattle.cdl_laws.proofs.Readings.{numbers_added, chars_added, Speaks, broken_read, numbers_said, suffixed, first, others, all_bytes, strings_said, joined_reads, strings_fine, numeral_again, number_is, on_suffix, string, all_fine, Reads, number, number_reads, commas, constants_say}

pub small_is : (ty : NcType) (z : ℤ) → IsInRange ty z → unsigned_abs z < 2 ^ 64
small_is ty z h = grind (arith, pos, ints)

-- ---- the numbers that stand in bytes

pub take_bytes : (n : ℕ) (bytes : List ℕ) → AreBytes bytes → AreBytes (take n bytes)
take_bytes n bytes h = are_bytes (take n bytes) (each_take IsByte n bytes (bytes_each bytes h))

from_bytes : (ty : NcType) (n : ℕ) (bytes : List ℕ) → AreBytes bytes → length bytes ≡ n * size_of ty →
    (flat_map (bytes_of_number ty) (numbers_from ty n bytes) ≡ bytes) × Each (IsInRange ty) (numbers_from ty n bytes)
from_bytes ty zero bytes small h = (sym (nothing bytes 0 (size_of ty) h refl), tt)
from_bytes ty (suc n) bytes small h =
    let a = take (size_of ty) bytes in
    let bytes_first = take_bytes (size_of ty) bytes small in
    let len : length a ≡ size_of ty = grind (arith, length-take (size_of ty) bytes) in
    let first = bytes_read_back ty a bytes_first len in
    let others = from_bytes ty n (drop (size_of ty) bytes) (λ i. subst (λ b. b < 256) (sym (get_or-drop (size_of ty) bytes i 0)) (small (size_of ty + i))) (grind (arith, length-drop (size_of ty) bytes)) in
    (cc (first, others.0, take-append-drop (size_of ty) bytes), (numbers_in_range ty a bytes_first len, others.1))

pub all_fit : (ty : NcType) (xs : List ℤ) → Each (IsInRange ty) xs → Each (λ x. has_number ty x ≡ true) xs
all_fit ty xs h = each_map (IsInRange ty) (λ x. has_number ty x ≡ true) xs (is_had ty) h

pub all_small : (ty : NcType) (xs : List ℤ) → Each (IsInRange ty) xs → Each (λ x. unsigned_abs x < 2 ^ 64) xs
all_small ty xs h = each_map (IsInRange ty) (λ x. unsigned_abs x < 2 ^ 64) xs (small_is ty) h

-- the number of values in a list of whole values
pub count_is : (ty : NcType) (n : ℕ) (bytes : List ℕ) → length bytes ≡ n * size_of ty → numbers ty bytes ≡ numbers_from ty n bytes
unfolding numbers
count_is ty n bytes h = ap (λ k. numbers_from ty k bytes) (ap (λ m. m / size_of ty) h ∙ mul-div_cancel n (some_size ty))

-- the numbers of whole values: they give back the bytes, are in the range of their type, and there are so many
abbrev pub AreNumbersOf : NcType → List ℕ → ℕ → Type 0
AreNumbersOf ty bytes n = (flat_map (bytes_of_number ty) (numbers ty bytes) ≡ bytes) × Each (IsInRange ty) (numbers ty bytes) × (length (numbers ty bytes) ≡ n)

pub numbers_are : (ty : NcType) (n : ℕ) (bytes : List ℕ) → AreBytes bytes → length bytes ≡ n * size_of ty → AreNumbersOf ty bytes n
numbers_are ty n bytes small h = let from = from_bytes ty n bytes small h in rw (count_is ty n bytes h) (from.0, from.1, length-numbers_from ty n bytes)

-- ---- attributes

char_speaks : (v : Version) (name vals : List ℕ) → IsName name → Speaks v (record { name = name; ty = Char; vals = vals })
unfolding chars_text concat_parts
char_speaks v name vals valid =
    let bytes = without_trailing_nuls vals in
    record {
      name = valid;
      l = string (first bytes);
      ls = map string (others bytes);
      reads = λ rest h. broken_read bytes rest;
      fine = strings_fine v (first bytes ∷ others bytes);
      said = map Characters (first bytes ∷ others bytes);
      says = strings_said v false (first bytes) (others bytes);
      type = refl;
      are = chars_added [] (first bytes ∷ others bytes) ∙ ap Ok (all_bytes bytes);
    }

values_text : (ty : NcType) (vals : List ℕ) → is_char ty ≡ false → att_text ty vals ≡ joined (map (suffixed ty) (numbers ty vals))
unfolding numbers_text
values_text ty vals h = grind arith

some_speak : (v : Version) (att : Att) (x : ℤ) (xs : List ℤ) → numbers att.ty att.vals ≡ x ∷ xs → is_char att.ty ≡ false → has_type v att.ty ≡ true → Each (IsInRange att.ty) (x ∷ xs) → flat_map (bytes_of_number att.ty) (x ∷ xs) ≡ att.vals → IsName att.name → Speaks v att
some_speak v att x xs are other known range back name =
    let small = all_small att.ty (x ∷ xs) range in
    let lexeme : ℤ → Lexeme = λ y. number (suffixed att.ty y) in
    let reads_each = each_map (λ y. unsigned_abs y < 2 ^ 64) (λ y. Reads (suffixed att.ty y) (lexeme y ∷ [])) (x ∷ xs) (λ y h. number_reads (suffixed att.ty y) (number_is y (number_suffix att.ty) h (on_suffix att.ty))) small in
    let text = values_text att.ty att.vals other ∙ ap (λ ys. joined (map (suffixed att.ty) ys)) are in
    let whole : att.vals ≡ (trimmed_att att).vals = rw (other) refl in
    record {
      name = name;
      l = lexeme x;
      ls = map lexeme xs;
      reads = subst (λ bs. Reads bs (lexeme x ∷ commas (map lexeme xs))) (sym text) (joined_reads (suffixed att.ty) lexeme x xs reads_each);
      fine = grind (arith, all_fine, numeral_again);
      said = numbers_said att.ty (x ∷ xs);
      says = search (rules, constants_say, numeral_again);
      type = refl;
      are = numbers_added att.ty [] (x ∷ xs) (all_fit att.ty (x ∷ xs) range) ∙ ap Ok (back ∙ whole);
    }

pub speaks : (v : Version) (att : Att) → IsSoundAtt v att → AreBytes att.vals → HasSomeNumber att → IsName att.name → Speaks v att
speaks v att sound small some name =
    elim (is_char att.ty) as (λ b. is_char att.ty ≡ b → Speaks v att) [
      | true ↦ (λ e. let char : Char ≡ att.ty = grind arith in subst (λ ty. Speaks v (record att { ty = ty })) char (char_speaks v att.name att.vals name))
      | false ↦ (λ e. counted e sound.values.count sound.values.whole)
    ] refl
  where
    counted : is_char att.ty ≡ false → (n : ℕ) → length att.vals ≡ n * size_of att.ty → Speaks v att
    counted e zero len = absurd (let s = some e in omega (arith, s, len))
    counted e (suc n) len =
        let from = from_bytes att.ty (suc n) att.vals small len in grind (arith, count_is att.ty (suc n) att.vals len, from.0, from.1, some_speak v att, sound.ty)
