-- The bytes of an attribute's constants.
use Rattle.cdl_values.proofs.Prelude.{bytes_of_number, NcType, Char, Version, value_of, values, Lexeme, TokenKind, character, inner, string_value, unescape_at, or_zero, word, held, Parts, number, Value, Number, Characters, CdlKind, NumberRange, add_constant, has_number, in_turn, same_type, type_said, unless, Adds, ContinuesRead, Leaves, char_bytes, held_bytes, joined, number_bytes, text_bytes, ReadError, OutOfMemory, Fault, Unlimited, ◌≡◌, ℕ, zero, suc, ◌-◌, ◌<◌, true, List, [], ◌∷◌, ◌++◌, length, take, drop, refl, ap, ◌∙◌, append_assoc, arith, pos, Result, Ok, Err, slice_index, map, rules, ⊤}
use Rattle.cdl_tokens.specs.declared.token.TokenKind.TheVariants as kinds
use Rattle.cdl_tokens.specs.declared.numeral.Numeral.{Numeral}
use Rattle.cdl_statements.specs.State.{◌>>=◌}
use Rattle.cdl_values.proofs.PackedTokens.{one_char}
use Rattle.cdl_values.proofs.Ranges.{held_is}

-- ---- one constant, and those after it

pub turn_on : {S A : Type 0} (f : S → A → Result S CdlKind) (s t : S) (x : A) (xs : List A) (r : Result ⊤ ReadError) → Leaves t r (f s x) → ContinuesRead (λ u. in_turn f t xs) r (in_turn f s (x ∷ xs))
turn_on {S = S} f s t x xs (Ok u) h = ap (λ (r : Result S CdlKind). elim r as (λ _. Result S CdlKind) [ Ok w ↦ in_turn f w xs | Err e ↦ Err e ]) h
turn_on f s t x xs (Err OutOfMemory) h = tt
turn_on {S = S} f s t x xs (Err (Fault k)) h = ap (λ (r : Result S CdlKind). elim r as (λ _. Result S CdlKind) [ Ok w ↦ in_turn f w xs | Err e ↦ Err e ]) h

pub none_left : (f : List ℕ → Value → Result (List ℕ) CdlKind) (bytes : List ℕ) (v : Version) → in_turn f bytes (values v []) ≡ Ok bytes
unfolding values
none_left f bytes v = refl

-- ---- numbers

range_first : (ty : NcType) (before : List ℕ) (p : Parts) →
    (unless (has_number ty (number p).value) NumberRange >>= (λ u. Ok (before ++ bytes_of_number ty (number p).value))) ≡ joined (Ok before) (number_bytes ty (number p).value)
range_first ty before p = grind (arith, has_number ty (number p).value, number p, joined)

pub number_of_type : (ty : NcType) (before : List ℕ) (p : Parts) → same_type p.ty ty ≡ true → add_constant ty before (Number (number p)) ≡ joined (Ok before) (held_bytes ty p.minus (word p.magnitude))
number_of_type ty before p same = rw (same) (range_first ty before p ∙ ap (joined (Ok before)) (held_is ty p))

pub number_left : (ty : NcType) (before after : List ℕ) (p : Parts) (n : Numeral) (r : Result ⊤ ReadError) → n ≡ held p → same_type n.ty ty ≡ true →
    Adds before after r (held_bytes ty n.minus n.magnitude) → Leaves after r (add_constant ty before (Number (number p)))
number_left ty before after p n r is same h = search (rules, number, number_of_type, joined)

-- a token that is no number says characters, if anything
pub no_number : (v : Version) (l : Lexeme) (kind : TokenKind) → (kind ≡ kinds.Number → ⊥) → type_said (value_of v l kind) ≡ Char
unfolding value_of
no_number v l kind h = grind arith

-- ---- the characters of a string are bytes

abbrev pub AreBytes : List ℕ → Type 0
AreBytes bs = (k : ℕ) → slice_index bs k < 256

after_first : (b : ℕ) (bs : List ℕ) → AreBytes (b ∷ bs) → AreBytes bs
after_first b bs h = λ k. h (suc k)

without_first : (bs : List ℕ) → AreBytes bs → AreBytes (drop 1 bs)
without_first [] h = h
without_first (b ∷ bs) h = after_first b bs h

first_ones : (n : ℕ) (bs : List ℕ) → AreBytes bs → AreBytes (take n bs)
first_ones zero bs h = λ k. omega arith
first_ones (suc n) [] h = h
first_ones (suc n) (b ∷ bs) h = by (first_ones n bs (after_first b bs h))
  where
    by : AreBytes (take n bs) → (k : ℕ) → slice_index (b ∷ take n bs) k < 256
    by rest zero = h 0
    by rest (suc k) = rest k

-- bytes that stand for themselves
pub bytes_stay : (bs : List ℕ) → AreBytes bs → char_bytes bs ≡ bs
bytes_stay [] h = refl
bytes_stay (b ∷ bs) h = one_char b bs (h 0) ∙ ap (λ xs. b ∷ xs) (bytes_stay bs (after_first b bs h))

chars_joined : (xs ys : List ℕ) → char_bytes (xs ++ ys) ≡ char_bytes xs ++ char_bytes ys
chars_joined [] ys = refl
chars_joined (x ∷ xs) ys = search (rules, pos, append_assoc, chars_joined xs ys)

pub put_on : (before after first rest whole : List ℕ) → after ≡ before ++ char_bytes first → whole ≡ first ++ rest → after ++ char_bytes rest ≡ before ++ char_bytes whole
put_on before after first rest whole is cut = search (rules, append_assoc, chars_joined)

character_small : (bs : List ℕ) → AreBytes bs → or_zero (character bs).value < 256
unfolding character
character_small bs h = search (rules, without_first)

stand_at : (more : ℕ) (bs : List ℕ) → AreBytes bs → char_bytes (map or_zero (unescape_at more bs)) ≡ map or_zero (unescape_at more bs)
unfolding unescape_at
stand_at more [] h = refl
stand_at (suc more) (b ∷ bs) h = stand_at more bs (after_first b bs h)
stand_at zero (b ∷ bs) h = search (rules, one_char, character_small, after_first, stand_at ((character (b ∷ bs)).len - 1) bs (after_first b bs h))

pub stand : (bytes : List ℕ) → AreBytes bytes → char_bytes (string_value (inner bytes)) ≡ string_value (inner bytes)
stand bytes h = stand_at 0 (inner bytes) (first_ones (length bytes - 2) (drop 1 bytes) (without_first bytes h))

pub characters_left : (ty : NcType) (before after bytes : List ℕ) (r : Result ⊤ ReadError) → same_type Char ty ≡ true → AreBytes bytes →
    Adds before after r (text_bytes Unlimited (Characters (string_value (inner bytes)))) → Leaves after r (add_constant ty before (Characters (string_value (inner bytes))))
characters_left ty before after bytes r same small h = search (rules, string_value, stand)
