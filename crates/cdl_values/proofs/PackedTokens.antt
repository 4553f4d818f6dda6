-- The values of a statement, one token on.
use Rattle.cdl_values.proofs.Prelude.{Char, Version, bytes_of_number, Lexeme, is_mark_kind, values, value_of, Value, CdlKind, Capacity, ValueForm, char_bytes, bytes_of, capacity_after, joined, followed_by, packed, ReadError, OutOfMemory, Fault, FailsRead, drop-append_seam, TokenKind, ◌≡◌, ℕ, suc, ◌<◌, false, List, [], ◌∷◌, ◌++◌, refl, ap, append_assoc, rules, append-nil, drop, length, Result, Ok, Err, pos, arith}
use Rattle.cdl_tokens.specs.declared.token.TokenKind.TheVariants as kinds

-- what stands before a fault is given up
pub joined_assoc : (bs cs : List ℕ) (r : Result (List ℕ) CdlKind) → joined (Ok bs) (joined (Ok cs) r) ≡ joined (Ok (bs ++ cs)) r
joined_assoc bs cs r = grind (arith, append_assoc)

pub joined_none : (r : Result (List ℕ) CdlKind) → joined (Ok []) r ≡ r
joined_none r = grind arith

pub over_value : (version : Version) (l : Lexeme) (ls : List Lexeme) → is_mark_kind l.kind ≡ false → values version (l ∷ ls) ≡ value_of version l l.kind ∷ values version ls
unfolding values
over_value version l ls other = rw (other) refl

-- a value more is packed
pub one_packed : (form : ValueForm) (capacity : Capacity) (v : Value) (vs : List Value) (bs cs ds : List ℕ) →
    bytes_of form capacity v ≡ Ok ds → cs ≡ bs ++ ds →
    joined (Ok bs) (packed form capacity (v ∷ vs)) ≡ joined (Ok cs) (packed form (capacity_after form ds capacity) vs)
unfolding packed
one_packed form capacity v vs bs cs ds is e = search (rules, joined, append_assoc)

-- a fault decides
pub one_wrong : (form : ValueForm) (capacity : Capacity) (v : Value) (vs : List Value) (e : CdlKind) (bs : List ℕ) →
    bytes_of form capacity v ≡ Err e → joined (Ok bs) (packed form capacity (v ∷ vs)) ≡ Err e
unfolding packed
one_wrong form capacity v vs e bs is = ap (λ r. joined (Ok bs) (followed_by r (λ bytes. packed form (capacity_after form bytes capacity) vs))) is

pub none_packed : (form : ValueForm) (capacity : Capacity) (version : Version) (bs : List ℕ) → joined (Ok bs) (packed form capacity (values version [])) ≡ Ok bs
unfolding packed values
none_packed form capacity version bs = ap Ok (append-nil bs)

pub no_mark : (kind : TokenKind) → (kind ≡ kinds.Mark → ⊥) → is_mark_kind kind ≡ false
no_mark kind h = grind arith

-- a refused value is a refused list
pub refused : (form : ValueForm) (capacity : Capacity) (v : Value) (vs : List Value) (e : ReadError) (bs : List ℕ) →
    FailsRead e (bytes_of form capacity v) → FailsRead e (joined (Ok bs) (packed form capacity (v ∷ vs)))
refused form capacity v vs OutOfMemory bs h = h
refused form capacity v vs (Fault k) bs h = one_wrong form capacity v vs k bs h

-- bytes that were added are after those before
pub added : (bs cs : List ℕ) (r : Result (List ℕ) CdlKind) → joined (Ok bs) r ≡ Ok cs → r ≡ Ok (drop (length bs) cs)
added bs cs r h = grind (arith, drop-append_seam)

pub is_after : (bs cs : List ℕ) (r : Result (List ℕ) CdlKind) → joined (Ok bs) r ≡ Ok cs → cs ≡ bs ++ drop (length bs) cs
is_after bs cs r h = grind (arith, drop-append_seam)

-- the value of a token is packed, where these are the bytes with its own
pub token_packed : (version : Version) (form : ValueForm) (capacity left : Capacity) (l : Lexeme) (ls : List Lexeme) (bs cs : List ℕ) → is_mark_kind l.kind ≡ false →
    joined (Ok bs) (bytes_of form capacity (value_of version l l.kind)) ≡ Ok cs → left ≡ capacity_after form (drop (length bs) cs) capacity →
    joined (Ok bs) (packed form capacity (values version (l ∷ ls))) ≡ joined (Ok cs) (packed form left (values version ls))
token_packed version form capacity left l ls bs cs other adds counts = search (rules, over_value, one_packed, added, is_after)

-- characters
pub one_byte : (b : ℕ) → b < 256 → bytes_of_number Char (pos b) ≡ b ∷ []
one_byte b h = search rules

pub one_char : (b : ℕ) (bs : List ℕ) → b < 256 → char_bytes (b ∷ bs) ≡ b ∷ char_bytes bs
one_char b bs h = ap (λ xs. xs ++ char_bytes bs) (one_byte b h)

pub chars_len : (bs : List ℕ) → length (char_bytes bs) ≡ length bs
chars_len [] = refl
chars_len (b ∷ bs) = ap suc (chars_len bs)
