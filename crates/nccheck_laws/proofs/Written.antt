-- Parts whose fields are as they are written: the bytes are what is written of the value.
use Rattle.nccheck_laws.proofs.Prelude.{common_steps, w32, byte_len, Header, Version, FormatFault, Bytes, Step, Part, bytes, decoded, chain, Spells, count_width, reads, Field, fields, IsWritten, AreWritten, to_be_bytes, from_be_bytes, take-append_seam, Width, w64, be_bytes_4, be_bytes_8, AreBytes, offset_width, ◌≡◌, ℕ, suc, zero, List, [], ◌∷◌, ◌++◌, length, take, Option, None, Result, Ok, refl, arith}

-- ---- the fields of what is spelled

abbrev pub whole_field : List Step → Bytes → ℕ → Field
whole_field steps from n = record { steps = steps; start = from; size = n; fault = None }

-- as many bytes as these
pub at-start : (content rest : Bytes) (n : ℕ) → length content ≡ n → take n (content ++ rest) ≡ content
at-start content rest n count = rw (← count) (take-append_seam content rest)

pub bytes-fields : (steps : List Step) (n : ℕ) (cut : FormatFault) (from content rest : Bytes) → length content ≡ n → from ≡ content ++ rest
    → fields steps (bytes n cut) from ≡ whole_field steps from n ∷ []
unfolding fields
bytes-fields steps n cut from content rest count is = grind (arith, common_steps)

pub decoded-fields : {A B : Type 0} (steps : List Step) (decode : A → Result B FormatFault) (encode : B → A) (p : Part A)
    (from : Bytes) (x : A) (y : B) (rest : Bytes) → Spells p from x rest → decode x ≡ Ok y
    → fields steps (decoded decode encode p) from ≡ fields steps p from
unfolding fields
decoded-fields {A = A} steps decode encode p from x y rest s e = grind (arith, reads)

pub chain-fields : {A B : Type 0} (steps : List Step) (get : B → Option A) (p : Part A) (next : A → Part B)
    (from : Bytes) (x : A) (middle : Bytes) → Spells p from x middle
    → fields steps (chain get p next) from ≡ fields steps p from ++ fields steps (next x) middle
unfolding fields
chain-fields {A = A} steps get p next from x middle s = grind (arith, reads)

-- ---- fields that are written, in two lists

still-written : (h : Header) (steps : List Step) (f : Field) (fs more : List Field) → IsWritten h steps f (fs ++ more)
    → IsWritten h steps f fs
still-written h v1 f fs more w = grind arith

pub first-written : (h : Header) (fs more : List Field) → AreWritten h (fs ++ more) → AreWritten h fs
first-written h [] more w = tt
first-written h (f ∷ fs) more w = (still-written h f.steps f fs more w.0, first-written h fs more w.1)

pub later-written : (h : Header) (fs more : List Field) → AreWritten h (fs ++ more) → AreWritten h more
later-written h [] more w = w
later-written h (f ∷ fs) more w = later-written h fs more w.1

-- ---- bytes

pub first-bytes : (xs ys : Bytes) → AreBytes (xs ++ ys) → AreBytes xs
first-bytes [] ys are i = omega arith
first-bytes (x ∷ xs) ys are zero = are 0
first-bytes (x ∷ xs) ys are (suc i) = first-bytes xs ys (λ j. are (suc j)) i

pub later-bytes : (xs ys : Bytes) → AreBytes (xs ++ ys) → AreBytes ys
later-bytes [] ys are = are
later-bytes (x ∷ xs) ys are = later-bytes xs ys (λ j. are (suc j))

-- ---- numbers

-- bytes are those of their number
abbrev pub IsWidth : Width → Type 0
IsWidth w = (bs : Bytes) → AreBytes bs → length bs ≡ byte_len w → to_be_bytes w (from_be_bytes w bs) ≡ bs

pub is-width-32 : IsWidth w32
is-width-32 bs are len = be_bytes_4 bs _ len are refl

is-width-64 : IsWidth w64
is-width-64 bs are len = be_bytes_8 bs _ len are refl

pub is-width-count : (v : Version) → IsWidth (count_width v)
is-width-count v = grind (arith, is-width-64, is-width-32)

pub is-width-offset : (v : Version) → IsWidth (offset_width v)
is-width-offset v = grind (arith, is-width-64, is-width-32)
