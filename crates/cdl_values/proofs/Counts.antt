-- A statement has fewer values than the greatest capacity, so that stands for all from there on.
use Rattle.cdl_values.proofs.Prelude.{Version, values, words, pieces_left, text_of, first_piece, Lexeme, followed, Value, Cutter, CdlKind, TokenKind, Capacity, AtMost, Unlimited, Dim, room_of, takes_of, values_listed, positions_in, taken_type, Fills, HasCapacity, as_bytes, capacity_for, most, packed, Fill, ValueForm, Numbers, Rows, ◌≡◌, ℕ, zero, suc, ◌+◌, ◌-◌, ◌≤◌, Bool, List, [], ◌∷◌, length, map, drop, refl, sym, ap, ◌∙◌, arith, Option, Result, ◌&&◌, is_none, min, rules}
use Rattle.cdl_statements.specs.Pieces.{first_role, pieces_after, step, with_first}
use Rattle.cdl_tokens.specs.Scan.{scan}
use Rattle.cdl_tokens.specs.Tokens.{tokens_at, with_token}
use Rattle.cdl_statements.specs.declared.{piece.CutState.CutState, piece.Role.Role}
use Rattle.cdl_tokens.specs.declared.token.Token.{Token}
use Rattle.nc_base.specs.declared.header.Var.{Var}
use Rattle.cdl_values.proofs.Places.{positions_room}
use Rattle.cdl_values.proofs.Turns.{all_turns}

-- ---- how many values a statement has

pub values_len : (v : Version) (ws : List Lexeme) → length (values v ws) ≤ length ws
unfolding values
values_len v [] = omega arith
values_len v (l ∷ ls) = grind (arith, values v ls, values_len v ls)

first_len : (b : Bool) (t : Token) (ps : List (List Token)) (n : ℕ) → length (first_piece ps) ≤ n → length (first_piece (with_first b t ps)) ≤ suc n
first_len b t ps n h = grind arith

piece_len : (role : Token → Role) (state : CutState) (ts : List Token) → length (first_piece (pieces_after role state ts)) ≤ length ts
unfolding pieces_after
piece_len role state [] = omega arith
piece_len role state (t ∷ ts) =
    let s = step state (role t) (first_role role ts) in
    first_len s.ends t (pieces_after role s.state ts) (length ts) (piece_len role s.state ts)

token_len : (text : List ℕ) (at : ℕ) (kind : Option TokenKind) (n m : ℕ) (rest : List Token) → length rest ≤ m → length (with_token text at kind n rest) ≤ suc m
token_len text at kind n m rest h = grind arith

tokens_len : (text : List ℕ) (at_start : Bool) (at more : ℕ) (bytes : List ℕ) → length (tokens_at text at_start at more bytes) ≤ suc (length bytes)
unfolding tokens_at
tokens_len text at_start at more [] = omega arith
tokens_len text at_start at (suc more) (b ∷ bytes) = let h = tokens_len text at_start (at + 1) more bytes in omega (arith, h)
tokens_len text at_start at zero (b ∷ bytes) =
    let s = scan at_start (b ∷ bytes) in
    token_len text at s.kind s.len (suc (length bytes)) (tokens_at text (at_start && is_none s.kind) (at + 1) (s.len - 1) bytes) (tokens_len text (at_start && is_none s.kind) (at + 1) (s.len - 1) bytes)

followed_len : (t : Token) (kind : TokenKind) (rest : List Token) → length (followed t kind rest) ≤ suc (length rest)
followed_len t kind rest = grind arith

drop_len : (n : ℕ) (xs : List ℕ) → length (drop n xs) ≤ length xs
drop_len (suc n) (x ∷ xs) = let h = drop_len n xs in omega (arith, h)
drop_len _ _ = omega arith

map_len : (f : Token → Lexeme) (ts : List Token) → length (map f ts) ≡ length ts
map_len f [] = refl
map_len f (t ∷ ts) = ap suc (map_len f ts)

-- each token but one at the end has a byte at least
pub words_len : (c : Cutter) → length (words c) ≤ length (text_of c) + 2
unfolding words pieces_left
words_len c = search (rules, map_len, piece_len, tokens_len, drop_len, followed_len)

-- ---- what the greatest capacity stands for

-- capacities that are both enough
numbers_same : (fill : Fill) (n m : ℕ) (xs : List Value) → length xs ≤ n → length xs ≤ m → packed (Numbers fill) (AtMost n) xs ≡ packed (Numbers fill) (AtMost m) xs
unfolding packed
numbers_same fill n m [] a b = refl
numbers_same fill n m (x ∷ xs) a b = grind (arith, numbers_same fill (n - 1) (m - 1) xs)

rows_same : (len fill n m : ℕ) (xs : List Value) → length xs ≤ n → length xs ≤ m → packed (Rows len fill) (AtMost n) xs ≡ packed (Rows len fill) (AtMost m) xs
unfolding packed
rows_same len fill n m [] a b = refl
rows_same len fill n m (x ∷ xs) a b = grind (arith, rows_same len fill (n - 1) (m - 1) xs)

-- the capacity for m positions is as good as m
capped : (n : ℕ) (packs : ℕ → Result (List ℕ) CdlKind) (m : ℕ) → ((k : ℕ) → n ≤ m → n ≤ k → packs m ≡ packs k) → n ≤ most → packs m ≡ packs (min m most)
capped n packs m even few = search rules

same : (f : ValueForm) (m : ℕ) (xs : List Value) → length xs ≤ most → packed f (AtMost m) xs ≡ packed f (AtMost (capacity_for f m)) xs
same f m xs h = grind (arith, capped, numbers_same, rows_same)

-- the values of a variable with this capacity
pub all_taken : (f : ValueForm) (capacity : Capacity) (dims : List Dim) (var : Var) (xs : List Value) → Fills f (takes_of dims var) → HasCapacity f capacity dims var → length xs ≤ most →
    as_bytes (taken_type f) (values_listed dims var xs) ≡ packed f capacity xs
all_taken f Unlimited dims var xs h is few = all_turns f (takes_of dims var) h Unlimited (room_of dims var) xs (grind (arith, is))
all_taken f (AtMost n) dims var xs h has few =
    all_turns f (takes_of dims var) h (AtMost (positions_in f dims var)) (room_of dims var) xs (positions_room f dims var h has.0) ∙ same f (positions_in f dims var) xs few ∙ ap (λ m. packed f (AtMost m) xs) (sym has.1)
