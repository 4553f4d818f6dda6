-- Names and strings that are written a few bytes at a time, and the lines of a string.
use Rattle.cdl_print.proofs.Prelude.{◌≡◌, ℕ, ◌+◌, ◌<◌, ◌≤◌, ◌==◌, Bool, true, false, cond, List, [], ◌∷◌, ◌++◌, length, take, drop, refl, sym, ap, ◌∙◌, arith, rules, suc, min, append_assoc, if◌then◌else◌, ap₂, ◌&&◌, not, nat_lt, position, Some, None, get_or, common_steps, flat_map-append, prefix_len-le-length, append-nil, take-append-drop, concat_parts, broken_text, string_break, nat_tests, flat_map, list_all, position_or_len, escaped_name, is_reserved, escaped_text, escaped_in_string, is_literal, escaped_in, stands_for_itself, line_len, line_text, take-add, take-append_seam, list_all-append}
use Rattle.nc_types.specs.declared.escape.Quoting.{Quoting}

pub flat_map_parts : (f : ℕ → List ℕ) (n : ℕ) (xs prefix back : List ℕ) → prefix ≡ take n xs → back ≡ drop n xs → flat_map f xs ≡ flat_map f prefix ++ flat_map f back
flat_map_parts f n xs prefix back e d =
    rw (e, d) (ap (flat_map f) (sym (take-append-drop n xs)) ∙ flat_map-append f (take n xs) (drop n xs))

pub flat_map_itself : (p : ℕ → Bool) (f : ℕ → List ℕ) → ((b : ℕ) → p b ≡ true → f b ≡ b ∷ []) → (piece : List ℕ) → list_all p piece ≡ true → flat_map f piece ≡ piece
flat_map_itself p f at [] h = refl
flat_map_itself p f at (b ∷ piece) h = search (rules, flat_map_itself p f at piece)

-- a prefix that passes a test goes on with some more that pass
pub plain_more : (p : ℕ → Bool) (bytes others few : List ℕ) (len m : ℕ) → others ≡ drop len bytes → few ≡ take m others → list_all p (take len bytes) ≡ true → list_all p few ≡ true
    → list_all p (take (len + length few) bytes) ≡ true
plain_more p bytes others few len m back front so_far more =
    let whole : few ++ drop m others ≡ others = ap (λ (xs : List ℕ). xs ++ drop m others) front ∙ take-append-drop m others in
    let next : take (length few) (drop len bytes) ≡ few = ap (take (length few)) (sym (whole ∙ back)) ∙ take-append_seam few (drop m others) in
    ap (list_all p) (take-add len (length few) bytes ∙ ap (λ (xs : List ℕ). take len bytes ++ xs) next) ∙ list_all-append p (take len bytes) few
    ∙ ap₂ (λ (a b : Bool). a && b) so_far more

-- a run of bytes that stand for themselves is put
pub run_put : (p : ℕ → Bool) (f : ℕ → List ℕ) → ((b : ℕ) → p b ≡ true → f b ≡ b ∷ []) → (before after bytes others : List ℕ) (run : ℕ)
    → after ≡ before ++ take run bytes → list_all p (take run bytes) ≡ true → others ≡ drop run bytes → after ++ flat_map f others ≡ before ++ flat_map f bytes
run_put p f at before after bytes others run put all rest =
    ap (λ (xs : List ℕ). xs ++ flat_map f others) put ∙ append_assoc before (take run bytes) (flat_map f others)
    ∙ ap (λ (xs : List ℕ). before ++ (xs ++ flat_map f others)) (sym (flat_map_itself p f at (take run bytes) all))
    ∙ ap (λ (xs : List ℕ). before ++ xs) (sym (flat_map_parts f run bytes (take run bytes) others refl rest))

-- the next byte is put with its escape
pub escape_put : (f : ℕ → List ℕ) (before after bytes others : List ℕ) → after ≡ before ++ f (get_or bytes 0 0) → 0 < length bytes → others ≡ drop 1 bytes
    → after ++ flat_map f others ≡ before ++ flat_map f bytes
escape_put f before after [] others put some rest = absurd (omega arith)
escape_put f before after (b ∷ bytes) others put some rest = rw (put, rest) (append_assoc before (f b) (flat_map f bytes))

-- the name of no variable
pub escaped_name-none : escaped_name [] ≡ []
unfolding escaped_name is_reserved
escaped_name-none = refl

pub ruleset nameless = (escaped_name-none)

-- ---- lines

pub line_len-position : (xs : List ℕ) → line_len xs ≡ min (position_or_len (λ b. b == 10) xs + 1) (length xs)
line_len-position [] = refl
line_len-position (b ∷ xs) = let e = line_len-position xs in grind (arith, common_steps)

found_at : (k n at : ℕ) (t : Bool) → nat_lt k n ≡ t → cond t (Some k) None ≡ Some at → at + 1 ≡ min (k + 1) n
found_at k n at t h h2 = grind (arith, nat_tests)

found_none : (k n : ℕ) (t : Bool) → nat_lt k n ≡ t → k ≤ n → cond t (Some k) None ≡ None → n ≡ min (k + 1) n
found_none k n t h h2 h3 = grind (arith, nat_tests)

pub line_len-found : (xs : List ℕ) (at : ℕ) → position (λ b. b == 10) xs ≡ Some at → at + 1 ≡ line_len xs
line_len-found xs at e = rw (line_len-position xs) (found_at (position_or_len (λ b. b == 10) xs) (length xs) at _ refl e)

pub line_len-not_found : (xs : List ℕ) → position (λ b. b == 10) xs ≡ None → length xs ≡ line_len xs
line_len-not_found xs e = rw (line_len-position xs) (found_none (position_or_len (λ b. b == 10) xs) (length xs) _ refl (prefix_len-le-length (λ b. not (b == 10)) xs) e)

pub ruleset lines = (line_len-found, line_len-not_found)

pub line_len-le : (xs : List ℕ) → line_len xs ≤ length xs
line_len-le xs = omega (arith, line_len-position xs)

pub line_len-some : (xs : List ℕ) → 0 < length xs → 0 < line_len xs
line_len-some xs some = omega (arith, line_len-position xs)

-- a byte that stands for itself in a string
pub literal_itself : (b : ℕ) → is_literal b ≡ true → escaped_in_string b ≡ b ∷ []
literal_itself b h = grind (arith, nat_tests)

pub plain_itself : (quoting : Quoting) (b : ℕ) → stands_for_itself quoting b ≡ true → escaped_in quoting b ≡ b ∷ []
plain_itself quoting b h = grind (arith, literal_itself)

line_text-cons : (b : ℕ) (line : List ℕ) (is_last : Bool) → line_text (b ∷ line) is_last ≡ escaped_in_string b ++ line_text line is_last
unfolding line_text escaped_text concat_parts
line_text-cons b line is_last = append_assoc (escaped_in_string b) (flat_map escaped_in_string line) ((if is_last then [] else string_break) ++ [])

line_text-none : (is_last : Bool) → line_text [] is_last ≡ (if is_last then [] else string_break)
unfolding line_text escaped_text concat_parts
line_text-none is_last = append-nil (if is_last then [] else string_break)

last_line : (b : ℕ) → escaped_in_string b ≡ line_text (b ∷ []) true ++ []
last_line b = rw (line_text-cons b [] true, line_text-none true) (sym (append-nil (escaped_in_string b ++ []) ∙ append-nil (escaped_in_string b)))

feed_line : (b : ℕ) (is_last : Bool) (others : List ℕ) → is_last ≡ false → escaped_in_string b ++ (string_break ++ others) ≡ line_text (b ∷ []) is_last ++ others
feed_line b is_last others e = rw (e, line_text-cons b [] false, line_text-none false) (sym (append_assoc (escaped_in_string b) string_break others))

-- the first line, and the lines after it
broken_text-line : (xs : List ℕ) → 0 < length xs → broken_text xs ≡ line_text (take (line_len xs) xs) (length (drop (line_len xs) xs) == 0) ++ broken_text (drop (line_len xs) xs)
broken_text-line [] h = elim h [ ]
broken_text-line (b ∷ []) h = grind (arith, last_line b)
broken_text-line (b ∷ c ∷ bytes) h =
    let later = broken_text-line (c ∷ bytes) (search rules) in
    elim (b == 10) as (λ t. (b == 10) ≡ t → escaped_in_string b ++ ((if t then string_break else []) ++ broken_text (c ∷ bytes)) ≡ line_text (take (if t then 1 else suc (line_len (c ∷ bytes))) (b ∷ c ∷ bytes)) (length (drop (if t then 1 else suc (line_len (c ∷ bytes))) (b ∷ c ∷ bytes)) == 0) ++ broken_text (drop (if t then 1 else suc (line_len (c ∷ bytes))) (b ∷ c ∷ bytes))) [
      | true ↦ λ e. feed_line b (length (c ∷ bytes) == 0) (broken_text (c ∷ bytes)) (grind (arith, nat_tests))
      | false ↦ λ e.
          let n = line_len (c ∷ bytes) in
          let last = length (drop n (c ∷ bytes)) == 0 in
          ap (λ (x : List ℕ). escaped_in_string b ++ x) later
          ∙ sym (append_assoc (escaped_in_string b) (line_text (take n (c ∷ bytes)) last) (broken_text (drop n (c ∷ bytes))))
          ∙ ap (λ (x : List ℕ). x ++ broken_text (drop n (c ∷ bytes))) (sym (line_text-cons b (take n (c ∷ bytes)) last))
    ] refl

pub broken_text-parts : (n : ℕ) (xs prefix back : List ℕ) (is_last : Bool) → 0 < length xs → n ≡ line_len xs → prefix ≡ take n xs → back ≡ drop n xs → is_last ≡ (length back == 0) → broken_text xs ≡ line_text prefix is_last ++ broken_text back
broken_text-parts n xs prefix back is_last some is e d last = rw (last, e, d, is) (broken_text-line xs some)
