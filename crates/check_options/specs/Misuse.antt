-- Definition. Why words are no command line, and which word of them is wrong.
use Rattle.std.specs.Prelude.{ℕ, ◌==◌, ◌+◌, ◌&&◌, ◌||◌, not, Bool, false, nat_lt, if◌then◌else◌, List, [], ◌∷◌, codes, Option, Some, None, find}
use Rattle.std.specs.List.{list_any}
use Rattle.std.specs.Str.{byte, bytes_eq}
use Rattle.nc_types.specs.Bytes.{Bytes}

pub data Misuse : Type 0 where
  -- a word that begins with a minus, and is no option
  NoOption : Bytes → Misuse
  -- an option of this letter
  GivenTwice : ℕ → Misuse
  -- an option without the value that belongs to it
  NoValue : Misuse
  -- `-p` beside an option that asks for another output, and `-k` beside any option but `-0`
  NotWithPaths : Misuse
  NotWithFormats : Misuse
  -- the value of `-l`, and a part of that of `-i`
  NoLevel : Bytes → Misuse
  NoKind : Bytes → Misuse
  NoFile : Misuse

-- ---- the words that a parse refuses

-- the letters of options; the last two have a value
abbrev pub option_letters : Bytes
option_letters = codes "qsjpk0li"

abbrev pub is_option : ℕ → Bool
is_option letter = list_any (λ b. b == letter) option_letters

abbrev pub has_value : ℕ → Bool
has_value letter = (letter == byte "l") || (letter == byte "i")

-- the letters after the minus of a word such as `-sl`
abbrev pub letters_of : Bytes → Bytes
letters_of [] = []
letters_of (b ∷ letters) = if b == byte "-" then letters else []

-- one of these letters is no option's; after a letter that has a value, the value follows
abbrev pub has_other : Bytes → Bool
has_other [] = false
has_other (letter ∷ letters) = not (is_option letter) || (not (has_value letter) && has_other letters)

-- the first of the words before `--` that is no option
abbrev pub first_no_option : List Bytes → Option Bytes
first_no_option [] = None
first_no_option (word ∷ words) =
    if bytes_eq word (codes "--") then None
    else if has_other (letters_of word) then Some word
    else first_no_option words

-- how often these letters give the option of this one
abbrev pub uses_in : ℕ → Bytes → ℕ
uses_in x [] = 0
uses_in x (letter ∷ letters) = (if letter == x then 1 else 0) + (if has_value letter then 0 else uses_in x letters)

-- and the words before `--`
abbrev pub uses : ℕ → List Bytes → ℕ
uses x [] = 0
uses x (word ∷ words) = if bytes_eq word (codes "--") then 0 else uses_in x (letters_of word) + uses x words

-- of the options that are given twice, the first in the order of their letters above
abbrev pub first_twice : List Bytes → Option ℕ
first_twice words = find (λ x. nat_lt 1 (uses x words)) option_letters

-- why a parse refuses these words: one of them is no option, an option is given twice, or one has no value
abbrev pub misuse_of : List Bytes → Misuse
misuse_of words =
    elim (first_no_option words) [
      | Some word ↦ NoOption word
      | None ↦ elim (first_twice words) [ Some letter ↦ GivenTwice letter | None ↦ NoValue ]
    ]

-- the first word is the program's name
abbrev pub misuse_in : List Bytes → Misuse
misuse_in [] = NoValue
misuse_in (name ∷ words) = misuse_of words
