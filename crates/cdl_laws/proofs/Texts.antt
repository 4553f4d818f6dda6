-- Texts that are put together are read apart again, token by token.
use Rattle.cdl_laws.proofs.Prelude.{◌≡◌, ℕ, suc, Bool, true, false, List, [], ◌∷◌, ◌++◌, length, drop, ap, refl, arith, append_assoc, append-nil, ◌&&◌, ◌||◌, ◌==◌, not, Option, Some, is_none, ◌+◌, None, if◌then◌else◌, prefix_len, list_all, false≢true, drop-append_seam, take-append_seam, escaped_name, is_reserved, IsName, has_name_bytes, ends_with_space, is_utf8, goes_on_word, goes_on_number, word_len, scan, begins_a_word, token, Lexeme, name_of, lexemes_at, with_lexeme, TokenKind, and_left, and_right, is_off, word_at_start, is_mark_byte, is_blank, flat_map, or_second, prefix_all, begins_number, AreToken}
use Rattle.cdl_tokens.specs.declared.token.TokenKind.TheVariants as kinds
use Rattle.cdl_laws.proofs.NameTexts.{rest_of, Begins, marked, bare, begins, name_len, name_value, name_free}
use Rattle.cdl_tokens.proofs.PlainTokens.{scan_blank, scan_mark, scan_number}

-- ---- one token, whatever follows

pub lexemes_skip : (fresh : Bool) (more : ℕ) (bytes : List ℕ) → lexemes_at fresh more bytes ≡ lexemes_at fresh 0 (drop more bytes)
unfolding lexemes_at
lexemes_skip fresh (suc more) (b ∷ bytes) = lexemes_skip fresh more bytes
lexemes_skip fresh _ _ = refl

pub prefix_again : (fresh : Bool) (k : Option TokenKind) (b : ℕ) (w rest : List ℕ) → scan fresh ((b ∷ w) ++ rest) ≡ record { kind = k; len = length (b ∷ w) } →
    lexemes_at fresh 0 ((b ∷ w) ++ rest) ≡ with_lexeme k (b ∷ w) (lexemes_at (fresh && is_none k) 0 rest)
unfolding lexemes_at
prefix_again fresh kind b w rest h =
    grind (arith, take-append_seam (b ∷ w) rest, lexemes_skip (fresh && is_none kind) (length w) (w ++ rest), drop-append_seam w rest, is_none)

-- ---- texts

-- no byte that goes on a word, a number or an escape
abbrev pub is_stop : ℕ → Bool
is_stop b = not (goes_on_word b) && not (b == 0x5c)

abbrev pub stops : List ℕ → Bool
stops [] = true
stops (b ∷ bytes) = is_stop b

-- these bytes are these lexemes, whatever follows
abbrev pub Closed : List ℕ → List Lexeme → Type 0
Closed bytes ls = (rest : List ℕ) → lexemes_at false 0 (bytes ++ rest) ≡ ls ++ lexemes_at false 0 rest

-- where what follows can't go on a word or a number
abbrev pub Reads : List ℕ → List Lexeme → Type 0
Reads bytes ls = (rest : List ℕ) → stops rest ≡ true → lexemes_at false 0 (bytes ++ rest) ≡ ls ++ lexemes_at false 0 rest

-- ---- marks

abbrev pub mark : ℕ → Lexeme
mark b = record { kind = kinds.Mark; bytes = b ∷ [] }

abbrev pub mark_of : ℕ → List Lexeme
mark_of b = if is_mark_byte b then mark b ∷ [] else []

pub mark_read : (b : ℕ) (rest : List ℕ) → (is_mark_byte b || is_blank b) ≡ true →
    lexemes_at false 0 (b ∷ rest) ≡ mark_of b ++ lexemes_at false 0 rest
mark_read b rest h =
    let marks = prefix_again false (Some kinds.Mark) b [] rest in
    let blanks = prefix_again false None b [] rest in
    grind (arith, or_second, scan_mark false (b ∷ rest), scan_blank false (b ∷ rest), marks, blanks)

-- marks and white space are read as marks
pub marks_closed : (bytes : List ℕ) → list_all (λ b. is_mark_byte b || is_blank b) bytes ≡ true → Closed bytes (flat_map mark_of bytes)
marks_closed [] h = λ rest. refl
marks_closed (b ∷ bytes) h =
    grind (arith, mark_read, and_right, marks_closed bytes)

-- ---- what stops a word or a number

pub stop_word : (rest : List ℕ) → stops rest ≡ true → word_len rest ≡ 0
unfolding word_len
stop_word rest h = grind (arith, word_at_start, is_off, and_left)

pub stop_number : (rest : List ℕ) → stops rest ≡ true → prefix_len goes_on_number rest ≡ 0
stop_number rest h = grind (arith, is_off, and_left)

-- ---- names

abbrev pub word : List ℕ → Lexeme
word bytes = record { kind = kinds.Word; bytes = bytes }

pub word_reads : (b : ℕ) (w : List ℕ) → ((rest : List ℕ) → begins_a_word ((b ∷ w) ++ rest) ≡ true) → ((rest : List ℕ) → stops rest ≡ true → word_len ((b ∷ w) ++ rest) ≡ length (b ∷ w)) →
    Reads (b ∷ w) (word (b ∷ w) ∷ [])
unfolding scan
word_reads b w some len rest h = grind (arith, prefix_again false (Some kinds.Word) b w rest (rw (some rest) (ap (token kinds.Word) (len rest h))))

pub some_name : (name : List ℕ) → IsName name → has_name_bytes name ≡ true
some_name name h = and_left (has_name_bytes name) (not (ends_with_space name)) (and_left (has_name_bytes name && not (ends_with_space name)) (is_utf8 name) h)

-- a name reads as one word, which stands for it
pub record IsWordOf (name : List ℕ) : Type 0 where
  pub reads : Reads (escaped_name name) (word (escaped_name name) ∷ [])
  pub stands : name_of (word (escaped_name name)) ≡ Some name
  pub free : is_reserved (escaped_name name) ≡ false

begun_word : (b : ℕ) (bs : List ℕ) → Begins b bs → ((rest : List ℕ) → begins_a_word (escaped_name (b ∷ bs) ++ rest) ≡ true) →
    ((rest : List ℕ) → stops rest ≡ true → word_len (escaped_name (b ∷ bs) ++ rest) ≡ length (escaped_name (b ∷ bs))) → Reads (escaped_name (b ∷ bs)) (word (escaped_name (b ∷ bs)) ∷ [])
begun_word b bs (marked one is) some len = rw (is) (word_reads 0x5c (b ∷ rest_of bs) (rw is at some) (rw is at len))
begun_word b bs (bare one free is) some len = rw (is) (word_reads b (rest_of bs) (rw is at some) (rw is at len))

pub name_word : (name : List ℕ) → IsName name → IsWordOf name
unfolding name_of
name_word name h = grind (arith, false≢true, some_name, and_left, and_right, begins, begun_word, name_len, stop_word, name_free, name_value)

pub name_read : (name rest : List ℕ) → IsName name → stops rest ≡ true →
    lexemes_at false 0 (escaped_name name ++ rest) ≡ word (escaped_name name) ∷ lexemes_at false 0 rest
name_read name rest h = (name_word name h).reads rest

pub name_stands : (name : List ℕ) → IsName name → name_of (word (escaped_name name)) ≡ Some name
name_stands name h = (name_word name h).stands

-- what reads a text byte by byte and name by name
pub ruleset reading = (append_assoc, append-nil, mark_read, name_read)

-- ---- numbers

abbrev pub number : List ℕ → Lexeme
number bytes = record { kind = kinds.Number; bytes = bytes }

-- these bytes are one number, where what follows goes on no number
abbrev pub IsNumber : List ℕ → Type 0
IsNumber bytes = (rest : List ℕ) → prefix_len goes_on_number rest ≡ 0 →
    AreToken kinds.Number bytes rest × (lexemes_at false 0 (bytes ++ rest) ≡ number bytes ∷ lexemes_at false 0 rest)

pub number_reads : (bytes : List ℕ) → IsNumber bytes → Reads bytes (number bytes ∷ [])
number_reads bytes is rest stop = (is rest (stop_number rest stop)).1

-- what begins a number, and bytes that go on it
pub begun_number : (b : ℕ) (w : List ℕ) → ((rest : List ℕ) → begins_number (b ∷ (w ++ rest)) ≡ true) → list_all goes_on_number w ≡ true →
    IsNumber (b ∷ w)
begun_number b w at_start all rest stop =
    let len : 1 + prefix_len goes_on_number (w ++ rest) ≡ length (b ∷ w) = (let e = prefix_all goes_on_number w rest all stop in omega (arith, e)) in
    let one : AreToken kinds.Number (b ∷ w) rest = λ fresh. grind (arith, scan_number) in
    (one, prefix_again false (Some kinds.Number) b w rest (one false))
