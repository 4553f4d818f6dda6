-- A word and a quoted text, one byte or escape on.
use Rattle.cdl_tokens.proofs.Prelude.{prefix_len, is_ordinary, false≢true, cases_lt, at_drop_more, at_drop_all, drop-drop, get_or-drop, get_or_past, is_escape, goes_on_word, may_begin_word, word_len, len_until, word_value, ◌≡◌, ℕ, ◌+◌, ◌<◌, ◌≤◌, Bool, true, false, List, [], ◌∷◌, length, get_or, drop, sym, ◌∙◌, ap, refl, arith, length-drop, ◌&&◌, ◌||◌, ◌==◌, if◌then◌else◌, nat_lt, ⊎_elim, append_assoc, ◌++◌, rules}
use Rattle.cdl_tokens.proofs.Steps.{drop_one_more}

pub and_false : (a : Bool) → (a && false) ≡ false
and_false a = elim a as (λ v. (v && false) ≡ false) [ true ↦ refl | false ↦ refl ]

-- the definition without its cases
pub word_at_start : (b : ℕ) (rest : List ℕ) →
    word_len (b ∷ rest) ≡ (if is_escape b (get_or rest 0 0) then 2 + word_len (drop 1 rest) else (if goes_on_word b then 1 + word_len rest else 0))
unfolding word_len
word_at_start b rest = grind (arith, and_false)

-- at a state of the text
pub word_at : (text : List ℕ) (at : ℕ) → at < length text →
    word_len (drop at text) ≡
    (if is_escape (get_or text at 0) (get_or text (at + 1) 0) then 2 + word_len (drop (at + 2) text) else (if goes_on_word (get_or text at 0) then 1 + word_len (drop (at + 1) text) else 0))
word_at text at h = grind (arith, at_drop_more word_len text at 0 h, word_at_start (get_or text at 0) (drop (at + 1) text), get_or-drop (at + 1) text 0 0, drop-drop 1 (at + 1) text)

pub word_past : (text : List ℕ) (at : ℕ) → length text ≤ at → word_len (drop at text) ≡ 0
unfolding word_len
word_past text at h = at_drop_all word_len text at h

-- an escape's second byte is in the text
pub escape_inside : (text : List ℕ) (at b : ℕ) → is_escape b (get_or text at 0) ≡ true → at < length text
escape_inside text at b h = ⊎_elim (λ lt. lt) (λ ge. absurd (false≢true (sym (and_false (b == 0x5c)) ∙ rw (get_or_past text at 0 ge) at h))) (cases_lt at (length text))

pub and_yes : (a b : Bool) → b ≡ true → (a && b) ≡ a
and_yes a b e = rw (e) (elim a as (λ v. (v && true) ≡ v) [ true ↦ refl | false ↦ refl ])

pub until_at_start : (close b : ℕ) (rest : List ℕ) →
    len_until close (b ∷ rest) ≡ (if b == 0x5c && nat_lt 0 (length rest) then 2 + len_until close (drop 1 rest) else (if b == close then 0 else 1 + len_until close rest))
unfolding len_until
until_at_start close b rest = grind (arith, and_false, and_yes)

is_more : (text : List ℕ) (at : ℕ) → at < length text → nat_lt 0 (length (drop (at + 1) text)) ≡ nat_lt (at + 1) (length text)
is_more text at h = rw (length-drop (at + 1) text) (grind arith)

pub until_at : (close : ℕ) (text : List ℕ) (at : ℕ) → at < length text →
    len_until close (drop at text) ≡
    (if get_or text at 0 == 0x5c && nat_lt (at + 1) (length text) then 2 + len_until close (drop (at + 2) text) else (if get_or text at 0 == close then 0 else 1 + len_until close (drop (at + 1) text)))
until_at close text at h = grind (arith, at_drop_more (len_until close) text at 0 h, until_at_start close (get_or text at 0) (drop (at + 1) text), is_more text at h, drop-drop 1 (at + 1) text)

pub until_past : (close : ℕ) (text : List ℕ) (at : ℕ) → length text ≤ at → len_until close (drop at text) ≡ 0
unfolding len_until
until_past close text at h = at_drop_all (len_until close) text at h

pub until_byte : (close : ℕ) (text : List ℕ) (at : ℕ) → at < length text → (e : Bool) → e ≡ (get_or text at 0 == 0x5c && nat_lt (at + 1) (length text)) → e ≡ false →
    (get_or text at 0 == close) ≡ false → len_until close (drop at text) ≡ 1 + len_until close (drop (at + 1) text)
until_byte close text at h e is off other = until_at close text at h ∙ rw (← is) (rw (off) (rw (other) refl))

-- up to the first byte that escapes or closes
until_ordinary : (close : ℕ) (bytes : List ℕ) → len_until close bytes ≡ prefix_len (is_ordinary close) bytes + len_until close (drop (prefix_len (is_ordinary close) bytes) bytes)
until_ordinary close [] = omega arith
until_ordinary close (b ∷ bytes) = search (rules, until_at_start, drop_one_more, until_ordinary close bytes)

pub until_run : (close : ℕ) (text : List ℕ) (at n : ℕ) → n ≡ prefix_len (is_ordinary close) (drop at text) → len_until close (drop at text) ≡ n + len_until close (drop (at + n) text)
until_run close text at n is = grind (arith, until_ordinary close (drop at text), drop-drop n at text)

-- a word has a byte
pub word_some : (bytes : List ℕ) → 0 < length bytes → (may_begin_word (get_or bytes 0 0) || is_escape (get_or bytes 0 0) (get_or bytes 1 0)) ≡ true → 0 < word_len bytes
word_some bytes h k = grind (arith, word_at bytes 0 h, k)

-- what a word stands for, one byte or escape on
pub value_at_start : (b : ℕ) (rest : List ℕ) →
    word_value (b ∷ rest) ≡ (if is_escape b (get_or rest 0 0) then get_or rest 0 0 ∷ word_value (drop 1 rest) else b ∷ word_value rest)
unfolding word_value
value_at_start b rest = grind (arith, and_false)

pub value_at : (text : List ℕ) (at : ℕ) → at < length text →
    word_value (drop at text) ≡
    (if is_escape (get_or text at 0) (get_or text (at + 1) 0) then get_or text (at + 1) 0 ∷ word_value (drop (at + 2) text) else get_or text at 0 ∷ word_value (drop (at + 1) text))
value_at text at h = grind (arith, at_drop_more word_value text at 0 h, value_at_start (get_or text at 0) (drop (at + 1) text), get_or-drop (at + 1) text 0 0, drop-drop 1 (at + 1) text)

pub value_past : (text : List ℕ) (at : ℕ) → length text ≤ at → word_value (drop at text) ≡ []
unfolding word_value
value_past text at h = at_drop_all word_value text at h

pub value_escape : (text : List ℕ) (at next : ℕ) → at < length text → next ≡ get_or text (at + 1) 0 → is_escape (get_or text at 0) next ≡ true → word_value (drop at text) ≡ next ∷ word_value (drop (at + 2) text)
value_escape text at next h is on = value_at text at h ∙ rw (← is) (rw (on) refl)

pub value_byte : (text : List ℕ) (at next : ℕ) → at < length text → next ≡ get_or text (at + 1) 0 → is_escape (get_or text at 0) next ≡ false → word_value (drop at text) ≡ get_or text at 0 ∷ word_value (drop (at + 1) text)
value_byte text at next h is off = value_at text at h ∙ rw (← is) (rw (off) refl)

-- what was read, and a byte more
pub so_far : (items new before after all : List ℕ) (b : ℕ) → new ≡ items ++ b ∷ [] → before ≡ b ∷ after → items ++ before ≡ all → new ++ after ≡ all
so_far items new before after all b e is h = rw (e) (append_assoc items (b ∷ []) after ∙ ap (λ xs. items ++ xs) (sym is) ∙ h)

pub ruleset word_values = (escape_inside, value_past, value_escape, value_byte, so_far)
