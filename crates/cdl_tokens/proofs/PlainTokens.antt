-- Marks and numbers at the start of bytes: they are no other token, and have no line feed.
use Rattle.cdl_tokens.proofs.Prelude.{prefix_len, Number, Mark, may_begin_word, goes_on_number, is_mark_byte, is_blank, is_digit, is_sign, scan, token, gap, begins_number, begins_opening, ends_value, get_or-drop, sum_by-append, false≢true, TokenKind, is_token, followed, tokens_at, line_at, ◌≡◌, ℕ, ◌+◌, ◌<◌, ◌≤◌, Bool, true, false, cond, List, [], ◌∷◌, length, get_or, drop, take, sym, ◌∙◌, ap, refl, arith, subst, ◌==◌, ◌||◌, count_by, Some, length-drop, rules}
use Rattle.cdl_tokens.proofs.Scans.{step_gap, step_token, line_more}
use Rattle.cdl_tokens.proofs.Steps.{take_one_more}
use Rattle.cdl_tokens.proofs.Words.{and_false}

pub no_opening : (bs : List ℕ) → (get_or bs 0 0 == 0x6e) ≡ false → begins_opening bs ≡ false
no_opening bs h = grind arith

or_split : {P : Type 0} (a b : Bool) → (a || b) ≡ true → (a ≡ true → P) → (b ≡ true → P) → P
or_split a b h h2 h3 = grind arith

at_byte : (P : ℕ → Type 0) (k b : ℕ) → P k → (b == k) ≡ true → P b
at_byte P k b p h = subst P (let e : k ≡ b = grind (arith, h) in e) p

-- what each mark has
each_mark : (P : ℕ → Type 0) (b : ℕ) → P 0x3a → P 0x3b → P 0x3d → P 0x2c → P 0x28 → P 0x29 → P 0x7d → is_mark_byte b ≡ true → P b
each_mark P b colon semicolon equals comma left right brace h = search (rules, or_split, at_byte)

-- the classes of bytes that no mark belongs to
abbrev MarkClasses : ℕ → Type 0
MarkClasses b = ((b == 0x6e) ≡ false) × (may_begin_word b ≡ false) × ((b == 0x5c) ≡ false) × (is_digit b ≡ false) × ((b == 0x2e) ≡ false) × (is_sign b ≡ false) × (is_blank b ≡ false) × ((b == 0x2f) ≡ false) × ((b == 0x22) ≡ false) × ((b == 0x0a) ≡ false)

mark_classes : (b : ℕ) → is_mark_byte b ≡ true → MarkClasses b
mark_classes b h = search (rules, each_mark)

-- a comma or white space
pub ended_low : (b : ℕ) → ends_value b ≡ true → (b ≤ 0x2c) × ((b == 0x2b) ≡ false)
ended_low b h = search (rules, or_split, at_byte)

-- a mark
pub scan_mark : (at_start : Bool) (bs : List ℕ) → is_mark_byte (get_or bs 0 0) ≡ true → scan at_start bs ≡ token Mark 1
unfolding scan
scan_mark at_start bs h = grind (arith, no_opening bs, and_false at_start, mark_classes)

-- the first byte of a number
number_low : (bs : List ℕ) → begins_number bs ≡ true → (get_or bs 0 0 ≤ 0x39) × (0x2b ≤ get_or bs 0 0)
number_low bs h = search rules

-- a digit begins a number
pub digit_number : (bs : List ℕ) → is_digit (get_or bs 0 0) ≡ true → begins_number bs ≡ true
digit_number bs h = rw (h) refl

-- a number
pub scan_number : (at_start : Bool) (bs : List ℕ) → begins_number bs ≡ true → scan at_start bs ≡ token Number (1 + prefix_len goes_on_number (drop 1 bs))
unfolding scan
scan_number at_start bs h =
    let low = number_low bs h in
    let netcdf : (get_or bs 0 0 == 0x6e) ≡ false = grind (arith, low) in
    let word : may_begin_word (get_or bs 0 0) ≡ false = grind (arith, low) in
    let escape : (get_or bs 0 0 == 0x5c) ≡ false = grind (arith, low) in
    rw (no_opening bs netcdf) (rw (and_false at_start) (rw (word) (rw (escape) (rw (h) refl))))

-- a byte of white space
pub scan_blank : (at_start : Bool) (bs : List ℕ) → is_blank (get_or bs 0 0) ≡ true → scan at_start bs ≡ gap 1
unfolding scan
scan_blank at_start bs h =
    let low : get_or bs 0 0 ≤ 0x20 = grind (arith, h) in
    let netcdf : (get_or bs 0 0 == 0x6e) ≡ false = grind (arith, low) in
    let word : may_begin_word (get_or bs 0 0) ≡ false = grind (arith, low) in
    let escape : (get_or bs 0 0 == 0x5c) ≡ false = grind (arith, low) in
    let digit : is_digit (get_or bs 0 0) ≡ false = grind (arith, low) in
    let point : (get_or bs 0 0 == 0x2e) ≡ false = grind (arith, low) in
    let sign : is_sign (get_or bs 0 0) ≡ false = grind (arith, low) in
    rw (no_opening bs netcdf) (rw (and_false at_start) (rw (word) (rw (escape) (rw (digit) (rw (point) (rw (sign) (rw (h) refl)))))))

-- no byte of a number is a line feed
pub feeds_on : (b : ℕ) (xs : List ℕ) → (b == 0x0a) ≡ false → count_by (λ b. b == 0x0a) (b ∷ xs) ≡ count_by (λ b. b == 0x0a) xs
feeds_on b xs h = sum_by-append (λ b. cond (b == 0x0a) 1 0) (b ∷ []) xs ∙ ap (λ c. 0 + cond c 1 0 + count_by (λ b. b == 0x0a) xs) h ∙ (let e : 0 + 0 + count_by (λ b. b == 0x0a) xs ≡ count_by (λ b. b == 0x0a) xs = omega arith in e)

-- a run of bytes of a class that it is not in has none
pub run_flat : (p : ℕ → Bool) → ((b : ℕ) → p b ≡ true → (b == 0x0a) ≡ false) → (bs : List ℕ) → count_by (λ b. b == 0x0a) (take (prefix_len p bs) bs) ≡ 0
run_flat p other [] = refl
run_flat p other (b ∷ bs) = grind (arith, run_flat p other bs, other b, take_one_more b (prefix_len p bs) bs, feeds_on b)

digits_flat : (bs : List ℕ) → count_by (λ b. b == 0x0a) (take (prefix_len goes_on_number bs) bs) ≡ 0
digits_flat bs = run_flat goes_on_number (λ b h. grind (arith, h)) bs

pub number_flat : (bs : List ℕ) → begins_number bs ≡ true → count_by (λ b. b == 0x0a) (take (1 + prefix_len goes_on_number (drop 1 bs)) bs) ≡ 0
number_flat bs h = grind (arith, false≢true, number_low, feeds_on, digits_flat)

-- at a place of a text
pub blank_at : (text : List ℕ) (at_start : Bool) (at : ℕ) → is_blank (get_or text at 0) ≡ true → scan at_start (drop at text) ≡ gap 1
blank_at text at_start at h = grind (arith, get_or-drop at text 0 0, scan_blank at_start (drop at text))

pub comma_at : (text : List ℕ) (at_start : Bool) (at : ℕ) → get_or text at 0 ≡ 0x2c → scan at_start (drop at text) ≡ token Mark 1
comma_at text at_start at h = grind (arith, get_or-drop at text 0 0, scan_mark at_start (drop at text))

pub past_blank : (text : List ℕ) (at_start : Bool) (at : ℕ) → at < length text → is_blank (get_or text at 0) ≡ true → tokens_at text at_start at 0 (drop at text) ≡ tokens_at text at_start (at + 1) 0 (drop (at + 1) text)
past_blank text at_start at inside h =
    step_gap text at_start at (gap 1) inside (sym (blank_at text at_start at h)) (omega arith) (rw (length-drop at text) (omega (arith, inside))) refl

pub past_token : (text : List ℕ) (at_start : Bool) (at line len : ℕ) (kind : TokenKind) → scan at_start (drop at text) ≡ token kind len → 0 < len → at + len ≤ length text → is_token (Some kind) ≡ true → line ≡ line_at text at →
    tokens_at text at_start at 0 (drop at text) ≡ followed (record { kind = kind; line = line; first = at; past = at + len }) kind (tokens_at text false (at + len) 0 (drop (at + len) text))
past_token text at_start at line len kind here some within is on =
    step_token text at_start at line (token kind len) kind (omega (arith, some, within)) (sym here) some (rw (length-drop at text) (omega (arith, some, within))) is refl on

-- no line feed stands before the place after a token without one
pub same_line : (text : List ℕ) (at line len : ℕ) → line ≡ line_at text at → count_by (λ b. b == 0x0a) (take len (drop at text)) ≡ 0 → line ≡ line_at text (at + len)
same_line text at line len on flat = omega (arith, on, flat, line_more text at len)
