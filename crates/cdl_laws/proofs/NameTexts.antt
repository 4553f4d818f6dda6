-- A valid name, escaped, is one word that stands for it.
use Rattle.cdl_laws.proofs.Prelude.{◌≡◌, ℕ, Bool, true, false, List, [], ◌∷◌, ◌++◌, length, get_or, ◌∙◌, refl, arith, if◌then◌else◌, ap, flat_map, list_all, bytes_eq, bytes_eq-Decides, is_plain, escaped_in_name, escaped_name, is_reserved, reserved_words, may_begin_name, may_follow_in_name, is_escape, is_escapable, goes_on_word, may_begin_word, word_len, word_value, and_left, and_right, word_at_start, value_at_start, list_any, or_left, or_right}

-- ---- bytes

pub no_escape : (b c : ℕ) → goes_on_word b ≡ true → is_escape b c ≡ false
no_escape b c h = grind arith

pub escapable : (b : ℕ) → may_follow_in_name b ≡ true → is_escapable b ≡ true
escapable b h = grind arith

pub begins_goes_on : (b : ℕ) → may_begin_word b ≡ true → goes_on_word b ≡ true
begins_goes_on b h = grind arith

-- ---- the bytes after the first

abbrev pub rest_of : List ℕ → List ℕ
rest_of name = flat_map escaped_in_name name

pub rest_len : (name rest : List ℕ) → list_all may_follow_in_name name ≡ true → word_len rest ≡ 0 → word_len (rest_of name ++ rest) ≡ length (rest_of name)
rest_len [] rest h e = e
rest_len (b ∷ name) rest h e =
    let ih = rest_len name rest (and_right (may_follow_in_name b) (list_all may_follow_in_name name) h) e in
    grind (arith, word_at_start, no_escape, escapable, is_plain, and_left, ih)

pub rest_value : (name : List ℕ) → list_all may_follow_in_name name ≡ true → word_value (rest_of name) ≡ name
unfolding word_value
rest_value [] h = refl
rest_value (b ∷ name) h =
    let more = and_right (may_follow_in_name b) (list_all may_follow_in_name name) h in
    let one : is_escapable b ≡ true = escapable b (and_left (may_follow_in_name b) (list_all may_follow_in_name name) h) in
    let ih = rest_value name more in
    elim (is_plain b) as (λ w. is_plain b ≡ w → word_value ((if w then b ∷ [] else 0x5c ∷ b ∷ []) ++ rest_of name) ≡ b ∷ name) [
      | true ↦ (λ g. value_at_start b (rest_of name) ∙ rw (no_escape b (get_or (rest_of name) 0 0) g) (ap (λ xs. b ∷ xs) ih))
      | false ↦ (λ g. value_at_start 0x5c (b ∷ rest_of name) ∙ rw (one) (ap (λ xs. b ∷ xs) ih))
    ] refl

-- ---- the first byte

-- how the escaped name begins: with a backslash, or with a byte that begins a word
pub data Begins (b : ℕ) (bs : List ℕ) : Type 0 where
  marked : is_escapable b ≡ true → escaped_name (b ∷ bs) ≡ 0x5c ∷ b ∷ rest_of bs → Begins b bs
  bare : may_begin_word b ≡ true → is_reserved (b ∷ bs) ≡ false → escaped_name (b ∷ bs) ≡ b ∷ rest_of bs → Begins b bs

pub begins : (b : ℕ) (bs : List ℕ) → may_begin_name b ≡ true → Begins b bs
unfolding escaped_name
begins b bs h = grind (arith, escapable, is_plain, or_left, or_right, h)

-- ---- names

pub name_len : (b : ℕ) (bs rest : List ℕ) → Begins b bs → list_all may_follow_in_name bs ≡ true → word_len rest ≡ 0 → word_len (escaped_name (b ∷ bs) ++ rest) ≡ length (escaped_name (b ∷ bs))
name_len b bs rest h h2 h3 = grind (arith, rest_len, word_at_start, no_escape, begins_goes_on)

pub name_value : (b : ℕ) (bs : List ℕ) → Begins b bs → list_all may_follow_in_name bs ≡ true → word_value (escaped_name (b ∷ bs)) ≡ b ∷ bs
name_value b bs h h2 = grind (arith, value_at_start, rest_value, no_escape, begins_goes_on)

-- what holds of each word of a list holds of one that is in the list
of_any : (p : List ℕ → Bool) (word : List ℕ) (words : List (List ℕ)) → list_all p words ≡ true → list_any (bytes_eq word) words ≡ true →
    p word ≡ true
of_any p word [] all any = cc
of_any p word (w ∷ words) all any = grind (arith, bytes_eq-Decides, and_left, and_right, of_any p word words (and_right (p w) (list_all p words) all))

-- a reserved word stands for itself
reserved_stand : (word : List ℕ) → is_reserved word ≡ true → word_value word ≡ word
unfolding is_reserved word_value
reserved_stand word h = (bytes_eq-Decides (word_value word) word).0 (of_any (λ w. bytes_eq (word_value w) w) word reserved_words refl h)

marked_free : (bs : List ℕ) → is_reserved (0x5c ∷ bs) ≡ false
unfolding is_reserved
marked_free bs = refl

pub name_free : (b : ℕ) (bs : List ℕ) → Begins b bs → list_all may_follow_in_name bs ≡ true → is_reserved (escaped_name (b ∷ bs)) ≡ false
name_free b bs (marked one is) h = rw (is) (marked_free (b ∷ rest_of bs))
name_free b bs (bare one free is) h = grind (arith, reserved_stand (escaped_name (b ∷ bs)), value_at_start, rest_value, no_escape, begins_goes_on)
