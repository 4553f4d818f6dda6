-- What a string has between its quotes, one escape on.
use Rattle.cdl_tokens.proofs.Prelude.{list_all, prefix_len, take_while, character, unescape, unescape_at, is_octal, is_hex, is_ordinary, len_until, number_escape, plain_escape, ◌≡◌, ℕ, zero, suc, ◌+◌, ◌<◌, Bool, true, false, List, [], ◌∷◌, length, take, drop, min, refl, ap, ◌∙◌, arith, ◌==◌, ◌&&◌, Some, is_some, slice_index, if◌then◌else◌}
use Rattle.cdl_tokens.specs.declared.scan.Character.{Character}
use Rattle.std.proofs.lemmas.List.Sums.{take_while-cons}
use Rattle.cdl_tokens.proofs.Steps.{drop_one_more, take_one_more}
use Rattle.cdl_tokens.proofs.Strings.{unescape_at_start, unescape_unescaped}
use Rattle.cdl_tokens.proofs.Words.{until_at_start, until_run}
use Rattle.std.proofs.lemmas.List.{drop_min}

-- the bytes before the closing quote
abbrev pub contents : List ℕ → List ℕ
contents bs = take (len_until 0x22 bs) bs

-- each character stands for a byte
abbrev pub are_good : List ℕ → Bool
are_good bs = list_all is_some (unescape bs)

-- ---- up to the first escape or the closing quote

until_ordinary : (b : ℕ) (bs : List ℕ) → is_ordinary 0x22 b ≡ true → len_until 0x22 (b ∷ bs) ≡ 1 + len_until 0x22 bs
until_ordinary b bs h = grind (arith, until_at_start 0x22 b bs)

ordinary_first : (b : ℕ) (bs : List ℕ) → is_ordinary 0x22 b ≡ true → contents (b ∷ bs) ≡ b ∷ contents bs
ordinary_first b bs h = ap (λ n. take n (b ∷ bs)) (until_ordinary b bs h) ∙ take_one_more b (len_until 0x22 bs) bs

ordinary_good : (b : ℕ) (bs : List ℕ) → is_ordinary 0x22 b ≡ true → are_good (contents (b ∷ bs)) ≡ are_good (contents bs)
ordinary_good b bs h = grind (arith, h, ordinary_first b bs, unescape_unescaped b (contents bs))

run_good : (bs : List ℕ) → are_good (contents bs) ≡ are_good (contents (drop (prefix_len (is_ordinary 0x22) bs) bs))
run_good [] = refl
run_good (b ∷ bs) = grind (arith, run_good bs, ordinary_good b bs, drop_one_more b (prefix_len (is_ordinary 0x22) bs) bs)

-- ---- an escape

no_contents : contents [] ≡ []
unfolding len_until
no_contents = refl

-- none of the first bytes passes where the first of all doesn't
none_taken : (p : ℕ → Bool) (k n b : ℕ) (bs : List ℕ) → p b ≡ false → take_while p (take k (take n (b ∷ bs))) ≡ []
none_taken p zero n b bs off = refl
none_taken p (suc k) zero b bs off = refl
none_taken p (suc k) (suc n) b bs off = take_while-cons p b (take k (take n bs)) ∙ rw (off) refl

-- the digits of an escape stand before the closing quote
digits_inside : (p : ℕ → Bool) (k : ℕ) (bs : List ℕ) → ((b : ℕ) → p b ≡ true → is_ordinary 0x22 b ≡ true) → take_while p (take k (contents bs)) ≡ take_while p (take k bs)
digits_inside p zero bs h = refl
digits_inside p (suc k) [] h = ap (λ xs. take_while p (take (suc k) xs)) no_contents
digits_inside p (suc k) (b ∷ bs) h =
    grind (arith, digits_inside p k bs h, h b, ordinary_first b bs, take_while-cons p b (take k bs), take_while-cons p b (take k (contents bs)), none_taken p (suc k) (len_until 0x22 (b ∷ bs)) b bs)

-- digits are good
digits_good : (p : ℕ → Bool) (k : ℕ) (bs : List ℕ) → ((b : ℕ) → p b ≡ true → (b == 0x5c) ≡ false) → are_good (drop (length (take_while p (take k bs))) bs) ≡ are_good bs
digits_good p zero bs h = refl
digits_good p (suc k) [] h = refl
digits_good p (suc k) (b ∷ bs) h = grind (arith, take_while-cons p b (take k bs), digits_good p k bs h, h b, unescape_unescaped b bs)

-- the escape that a byte and these digits make
abbrev escape_of : ℕ → List ℕ → List ℕ → Character
escape_of c octal hex =
    if is_octal c then number_escape 1 8 (if is_octal c then c ∷ octal else []) else if c == 0x78 then number_escape 2 16 hex else record { value = Some (plain_escape c); len = 2 }

escape_is : (c : ℕ) (xs : List ℕ) → character (0x5c ∷ c ∷ xs) ≡ escape_of c (take_while is_octal (take 2 xs)) (take_while is_hex (take 2 xs))
unfolding character
escape_is c xs =
    ap (λ digits. if is_octal c then number_escape 1 8 digits else if c == 0x78 then number_escape 2 16 (take_while is_hex (take 2 xs)) else record { value = Some (plain_escape c); len = 2 }) (take_while-cons is_octal c (take 2 xs))

octal_ordinary : (b : ℕ) → is_octal b ≡ true → is_ordinary 0x22 b ≡ true
octal_ordinary b h = grind (arith, h)

hex_ordinary : (b : ℕ) → is_hex b ≡ true → is_ordinary 0x22 b ≡ true
hex_ordinary b h = grind (arith, h)

not_escaping : (b : ℕ) → is_ordinary 0x22 b ≡ true → (b == 0x5c) ≡ false
not_escaping b h = grind (arith, h)

same_character : (c : ℕ) (xs : List ℕ) → character (0x5c ∷ c ∷ contents xs) ≡ character (0x5c ∷ c ∷ xs)
same_character c xs = grind (arith, escape_is c, digits_inside is_octal 2 xs octal_ordinary, digits_inside is_hex 2 xs hex_ordinary)

two_past : (n k a c : ℕ) (xs : List ℕ) → n ≡ 2 + k → drop n (a ∷ c ∷ xs) ≡ drop k xs
two_past n k a c xs is = ap (λ m. drop m (a ∷ c ∷ xs)) (let e : n ≡ suc (suc k) = omega (arith, is) in e)

digits_past : (c : ℕ) (octal hex xs : List ℕ) → are_good (drop (length octal) xs) ≡ are_good xs → are_good (drop (length hex) xs) ≡ are_good xs → are_good (drop (escape_of c octal hex).len (0x5c ∷ c ∷ xs)) ≡ are_good xs
digits_past c octal hex xs o h = grind (arith, o, h, two_past (escape_of c octal hex).len (length octal) 0x5c c xs, two_past (escape_of c octal hex).len (length hex) 0x5c c xs, two_past (escape_of c octal hex).len 0 0x5c c xs)

some_bytes : (c : ℕ) (octal hex : List ℕ) → 0 < (escape_of c octal hex).len
some_bytes c octal hex = grind arith

escaped_good : (c : ℕ) (xs : List ℕ) → are_good (0x5c ∷ c ∷ xs) ≡ (is_some (character (0x5c ∷ c ∷ xs)).value && are_good xs)
escaped_good c xs =
    let octal = take_while is_octal (take 2 xs) in
    let hex = take_while is_hex (take 2 xs) in
    let past = digits_past c octal hex xs (digits_good is_octal 2 xs (λ b h. not_escaping b (octal_ordinary b h))) (digits_good is_hex 2 xs (λ b h. not_escaping b (hex_ordinary b h))) in
    grind (arith, past, escape_is c xs, unescape_at_start 0x5c (c ∷ xs) (escape_of c octal hex), some_bytes c octal hex)

-- a backslash without a byte after it stands for a 0
lone_good : are_good (contents (0x5c ∷ [])) ≡ (is_some (character (0x5c ∷ [])).value && are_good (contents (drop 2 (0x5c ∷ []))))
unfolding character unescape_at len_until
lone_good = refl

two_more : (a b n : ℕ) (xs : List ℕ) → take (2 + n) (a ∷ b ∷ xs) ≡ a ∷ b ∷ take n xs
two_more a b n xs = ap (λ m. take m (a ∷ b ∷ xs)) (let e : 2 + n ≡ suc (suc n) = omega arith in e)

until_escape : (c : ℕ) (xs : List ℕ) → len_until 0x22 (0x5c ∷ c ∷ xs) ≡ 2 + len_until 0x22 xs
unfolding len_until
until_escape c xs = refl

escape_good : (bs : List ℕ) → slice_index bs 0 ≡ 0x5c → are_good (contents bs) ≡ (is_some (character bs).value && are_good (contents (drop 2 bs)))
escape_good [] h = cc
escape_good (b ∷ []) h = rw h lone_good
escape_good (b ∷ c ∷ xs) h = rw h (grind (arith, until_escape c xs, two_more 0x5c c (len_until 0x22 xs) xs, escaped_good c (contents xs), same_character c xs))

escape_len : (bs : List ℕ) → slice_index bs 0 ≡ 0x5c → len_until 0x22 bs ≡ min (length bs) 2 + len_until 0x22 (drop 2 bs)
unfolding len_until
escape_len [] h = cc
escape_len (b ∷ []) h = rw h refl
escape_len (b ∷ c ∷ xs) h = rw h (omega arith)

past_two : (bs : List ℕ) → drop (min (length bs) 2) bs ≡ drop 2 bs
past_two bs = grind (arith, drop_min 2 bs)

-- ---- a turn of the loop

stopped : (p : ℕ → Bool) (bs : List ℕ) → prefix_len p (drop (prefix_len p bs) bs) ≡ 0
stopped p [] = refl
stopped p (b ∷ bs) = grind (arith, stopped p bs, drop_one_more b (prefix_len p bs) bs)

-- n bytes on, all is as before but for a test of what was passed
pub record Goes (test : Bool) (n : ℕ) (bs rest : List ℕ) : Type 0 where
  pub len : len_until 0x22 bs ≡ n + len_until 0x22 rest
  pub good : are_good (contents bs) ≡ (test && are_good (contents rest))

pub past_run : (bs rest : List ℕ) (n : ℕ) → n ≡ prefix_len (is_ordinary 0x22) bs → rest ≡ drop n bs → Goes true n bs rest
past_run bs rest n is after = grind (arith, until_run 0x22 bs 0 n, run_good bs)

pub past_escape : (bs rest : List ℕ) (n : ℕ) → slice_index bs 0 ≡ 0x5c → n ≡ min (length bs) 2 → rest ≡ drop n bs → Goes (is_some (character bs).value) n bs rest
past_escape bs rest n slash two after = grind (arith, past_two bs, escape_len bs slash, escape_good bs slash)

no_more : (bs : List ℕ) → prefix_len (is_ordinary 0x22) bs ≡ 0 → (slice_index bs 0 == 0x5c) ≡ false → len_until 0x22 bs ≡ 0
unfolding len_until
no_more [] h off = refl
no_more (b ∷ bs) h off = grind (arith, until_at_start 0x22 b bs)

-- no escape comes after a run
pub ends : (bs rest : List ℕ) (n : ℕ) → n ≡ prefix_len (is_ordinary 0x22) bs → rest ≡ drop n bs → (slice_index rest 0 == 0x5c) ≡ false → len_until 0x22 rest ≡ 0
ends bs rest n is after off = no_more rest (ap (prefix_len (is_ordinary 0x22)) (after ∙ ap (λ m. drop m bs) is) ∙ stopped (is_ordinary 0x22) bs) off

pub none_good : are_good [] ≡ true
unfolding unescape_at
none_good = refl
