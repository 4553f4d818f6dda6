-- Listed rows and the same with each row filled up: what is added at their end, where each row stands, and how long all are.
use Rattle.nc_base.proofs.Prelude.{◌≡◌, ℕ, zero, suc, ◌+◌, ◌-◌, ◌*◌, ◌/◌, ◌%◌, ◌<◌, ◌≤◌, min, max, List, [], ◌∷◌, ◌++◌, length, get_or, take, drop, refl, sym, ◌∙◌, ap, arith, append_assoc, append-nil, length-append, inl, inr, replicate, div-lt_iff_lt-mul, mod-lt, cases_lt, take-append-drop, take-append-le, drop-append-le, length-take-le, length-drop, length-replicate, take_all, drop_all, drop-drop, drop-replicate, drop_at, drop_more, filled_rows, AreRowEnds, StandAt, row_start, some_right}

-- a row with n listed bytes, filled up
abbrev row : ℕ → ℕ → ℕ → List ℕ → List ℕ
row len fill n bytes = take n bytes ++ replicate (len - n) fill

length-row : (len fill n : ℕ) (bytes : List ℕ) → n ≤ len → n ≤ length bytes → length (row len fill n bytes) ≡ len
length-row len fill n bytes within held = grind (arith, length-append, length-take-le, length-replicate)

pub start-le-last : (len last start : ℕ) (ends : List ℕ) → AreRowEnds len start ends last → start ≤ last
start-le-last len last start [] are = omega (arith, are)
start-le-last len last start (end ∷ ends) are = omega (arith, are.0, start-le-last len last end ends are.2)

from-none : (n : ℕ) → n - 0 ≡ n
from-none n = omega arith

-- ---- what is added

pub filled_append : (len last fill start : ℕ) (ends bytes more : List ℕ) → AreRowEnds len start ends last → last - start ≤ length bytes
    → filled_rows len fill start ends (bytes ++ more) ≡ filled_rows len fill start ends bytes ++ more
unfolding filled_rows
filled_append len last fill start [] bytes more are held = refl
filled_append len last fill start (end ∷ ends) bytes more are held =
    grind (arith, start-le-last, length-drop, take-append-le, row, drop-append-le, append_assoc, filled_append len last fill end ends)

pub filled_end : (len last fill start : ℕ) (ends bytes : List ℕ) (end lacking : ℕ) → AreRowEnds len start ends last → start + length bytes ≡ end → last ≤ end → end + lacking ≡ last + len
    → filled_rows len fill start (ends ++ end ∷ []) bytes ≡ filled_rows len fill start ends bytes ++ replicate lacking fill
unfolding filled_rows
filled_end len last fill start [] bytes end lacking are whole after full = grind (arith, row, drop_all, append-nil, take_all)
filled_end len last fill start (next ∷ ends) bytes end lacking are whole after full =
    grind (arith, start-le-last, length-drop, row, append_assoc, filled_end len last fill next ends)

pub ends_end : (len last start : ℕ) (ends : List ℕ) (end : ℕ) → AreRowEnds len start ends last → last ≤ end → end ≤ last + len
    → AreRowEnds len start (ends ++ end ∷ []) end
ends_end len last start [] end are after within = (omega (arith, are, after), omega (arith, are, within), refl)
ends_end len last start (next ∷ ends) end are after within = (are.0, are.1, ends_end len last next ends end are.2 after within)

-- rows of this length and fill byte are also rows of another length and fill byte: they end and are filled up alike
pub record AreSameEnds (len fill len' fill' last : ℕ) (ends : List ℕ) : Type 0 where
  pub ends_are : AreRowEnds len' 0 ends last
  pub same : (bytes : List ℕ) → filled_rows len fill 0 ends bytes ≡ filled_rows len' fill' 0 ends bytes

pub no-rows : (len fill len' fill' last : ℕ) (ends : List ℕ) → ends ≡ [] → AreRowEnds len 0 ends last → AreSameEnds len fill len' fill' last ends
unfolding filled_rows
no-rows len fill len' fill' last ends h h2 = grind arith

pub like-rows : (len fill len' fill' last : ℕ) (ends : List ℕ) → len ≡ len' → fill ≡ fill' → AreRowEnds len 0 ends last → AreSameEnds len fill len' fill' last ends
like-rows len fill len' fill' last ends long with are = grind arith

-- ---- where rows stand

pub length_filled : (len last fill start : ℕ) (ends bytes : List ℕ) → AreRowEnds len start ends last → last - start ≤ length bytes
    → length (filled_rows len fill start ends bytes) ≡ length ends * len + (length bytes - (last - start))
unfolding filled_rows
length_filled len last fill start [] bytes are held = omega (arith, are, held)
length_filled len last fill start (end ∷ ends) bytes are held =
    grind (arith, length-append, length-drop, length-row, start-le-last, length_filled len last fill end ends (drop (end - start) bytes) are.2)

rows_long : (len last start : ℕ) (ends : List ℕ) → AreRowEnds len start ends last → last ≤ start + length ends * len
rows_long len last start [] are = omega (arith, are)
rows_long len last start (end ∷ ends) are = omega (arith, are.1, rows_long len last end ends are.2)

-- as long as the bytes: none is lacking
pub filled_full : (len last fill start : ℕ) (ends bytes : List ℕ) → AreRowEnds len start ends last → last - start ≤ length bytes
    → length (filled_rows len fill start ends bytes) ≡ length bytes → filled_rows len fill start ends bytes ≡ bytes
unfolding filled_rows
filled_full len last fill start [] bytes are held long = refl
filled_full len last fill start (end ∷ ends) bytes are held long =
    let n : ℕ = end - start in
    let past : end ≤ last = start-le-last len last end ends are.2 in
    let here : n ≤ length bytes = omega (arith, held, past, are.0) in
    let left : length (drop n bytes) ≡ length bytes - n = length-drop n bytes in
    let after : last - end ≤ length (drop n bytes) = omega (arith, held, past, are.0, left) in
    let rest : List ℕ = filled_rows len fill end ends (drop n bytes) in
    let rest-long = length_filled len last fill end ends (drop n bytes) are.2 after in
    let rows = rows_long len last end ends are.2 in
    let row-long = length-row len fill n bytes (omega (arith, are.1)) here in
    let all = length-append (row len fill n bytes) rest in
    let none : len - n ≡ 0 = omega (arith, long, rest-long, rows, row-long, all, left, after, here) in
    let same : length rest ≡ length (drop n bytes) = omega (arith, long, rest-long, rows, row-long, all, left, after, here, are.1) in
    ap (λ (k : ℕ). (take n bytes ++ replicate k fill) ++ rest) none
    ∙ ap (λ (xs : List ℕ). xs ++ rest) (append-nil (take n bytes))
    ∙ ap (λ (xs : List ℕ). take n bytes ++ xs) (filled_full len last fill end ends (drop n bytes) are.2 after same)
    ∙ take-append-drop n bytes

pub start_le_row : (len last start : ℕ) (ends : List ℕ) (r : ℕ) → AreRowEnds len start ends last → start ≤ row_start start ends r
unfolding row_start
start_le_row len last start ends zero are = omega arith
start_le_row len last start [] (suc r) are = omega arith
start_le_row len last start (end ∷ ends) (suc r) are = omega (arith, are.0, start_le_row len last end ends r are.2)

-- the rows from row r on
pub drop_rows : (len last fill start : ℕ) (ends bytes : List ℕ) (r : ℕ) → AreRowEnds len start ends last → last - start ≤ length bytes → r ≤ length ends
    → drop (r * len) (filled_rows len fill start ends bytes) ≡ filled_rows len fill (row_start start ends r) (drop r ends) (drop (row_start start ends r - start) bytes)
unfolding filled_rows row_start
drop_rows len last fill start (end ∷ ends) bytes (suc r) are held within =
    let n : ℕ = end - start in
    let past : end ≤ last = start-le-last len last end ends are.2 in
    let here : n ≤ length bytes = omega (arith, held, past, are.0) in
    let left : length (drop n bytes) ≡ length bytes - n = length-drop n bytes in
    let rest : List ℕ = filled_rows len fill end ends (drop n bytes) in
    let on : end ≤ row_start end ends r = start_le_row len last end ends r are.2 in
    let steps : suc r * len ≡ len + r * len = omega arith in
    let far : n + (row_start end ends r - end) ≡ row_start end ends r - start = omega (arith, on, are.0) in
    ap (λ (k : ℕ). drop k (row len fill n bytes ++ rest)) steps
    ∙ sym (drop-drop (r * len) len (row len fill n bytes ++ rest))
    ∙ ap (drop (r * len)) (drop_at (row len fill n bytes) rest len (length-row len fill n bytes (omega (arith, are.1)) here))
    ∙ drop_rows len last fill end ends (drop n bytes) r are.2 (omega (arith, held, past, are.0, left)) (omega (arith, within))
    ∙ ap (filled_rows len fill (row_start end ends r) (drop r ends)) (drop-drop (row_start end ends r - end) n bytes)
    ∙ ap (λ (k : ℕ). filled_rows len fill (row_start end ends r) (drop r ends) (drop k bytes)) far
drop_rows len last fill start _ bytes _ are held within = grind arith

-- past the last row
pub row_past : (len last start : ℕ) (ends : List ℕ) → AreRowEnds len start ends last → row_start start ends (length ends) ≡ last
unfolding row_start
row_past len last start [] are = are
row_past len last start (end ∷ ends) are = row_past len last end ends are.2

-- where row r starts and ends
pub record IsRow (len last start end : ℕ) : Type 0 where
  pub after : start ≤ end
  pub within : end ≤ start + len
  pub inside : end ≤ last

pub row_is : (len last start : ℕ) (ends : List ℕ) (r d : ℕ) → AreRowEnds len start ends last → r < length ends → IsRow len last (row_start start ends r) (get_or ends r d)
unfolding row_start
row_is len last start (end ∷ ends) (suc r) d are within = row_is len last end ends r d are.2 (omega (arith, within))
row_is len last start _ _ d are within = grind (arith, start-le-last)

-- a row starts where the one before ends
pub row_start_after : (start : ℕ) (ends : List ℕ) (r d : ℕ) → r < length ends → row_start start ends (suc r) ≡ get_or ends r d
unfolding row_start
row_start_after start (end ∷ ends) (suc r) d within = row_start_after end ends r d (omega (arith, within))
row_start_after start _ _ d within = grind arith

-- ---- what stands at a place

-- a row from a column on
drop-row : (len fill column : ℕ) (listed : List ℕ) → length listed ≤ len
    → drop column (listed ++ replicate (len - length listed) fill) ≡ drop (min column (length listed)) listed ++ replicate (len - max column (length listed)) fill
drop-row len fill column listed within =
    let n : ℕ = length listed in
    let padding : List ℕ = replicate (len - n) fill in
    elim (cases_lt n column) [
      | inl past ↦
          let split : column ≡ n + (column - n) = omega (arith, past) in
          let lowest : min column n ≡ n = omega (arith, past) in
          let left : len - n - (column - n) ≡ len - max column n = omega (arith, past) in
          ap (λ (k : ℕ). drop k (listed ++ padding)) split
          ∙ sym (drop-drop (column - n) n (listed ++ padding))
          ∙ ap (drop (column - n)) (drop_at listed padding n refl)
          ∙ drop-replicate (column - n) (len - n) fill
          ∙ ap (λ (k : ℕ). replicate k fill) left
          ∙ ap (λ (b : List ℕ). b ++ replicate (len - max column n) fill) (sym (drop_all (min column n) listed (omega (arith, lowest))))
      | inr within ↦
          let lowest : column ≡ min column n = omega (arith, within) in
          let highest : n ≡ max column n = omega (arith, within) in
          drop-append-le column listed padding within
          ∙ ap (λ (k : ℕ). drop k listed ++ padding) lowest
          ∙ ap (λ (k : ℕ). drop (min column n) listed ++ replicate (len - k) fill) highest
    ]

-- a row of at most len bytes, before others, from a column on
from-row : (len fill column n : ℕ) (bytes rest : List ℕ) → n ≤ len → n ≤ length bytes → column < len
    → StandAt (row len fill n bytes ++ rest) column (drop (min column n) (take n bytes)) (len - max column n) fill
from-row len fill column n bytes rest within held inside =
    let listed : List ℕ = take n bytes in
    let long : length listed ≡ n = length-take-le n bytes held in
    let whole : length (row len fill n bytes) ≡ len = length-row len fill n bytes within held in
    let left : length (drop (min column n) listed) ≡ length listed - min column n = length-drop (min column n) listed in
    record {
      rest = rest;
      split =
          drop-append-le column (row len fill n bytes) rest (omega (arith, whole, inside))
          ∙ ap (λ (k : ℕ). drop column (listed ++ replicate (len - k) fill) ++ rest) (sym long)
          ∙ ap (λ (b : List ℕ). b ++ rest) (drop-row len fill column listed (omega (arith, long, within)))
          ∙ ap (λ (k : ℕ). (drop (min column k) listed ++ replicate (len - max column k) fill) ++ rest) long
          ∙ append_assoc (drop (min column n) listed) (replicate (len - max column n) fill) rest;
      some = λ _. omega (arith, left, long, inside);
    }

-- in row r
pub in_row : (len last fill : ℕ) (ends bytes : List ℕ) (r column d : ℕ) → AreRowEnds len 0 ends last → last ≤ length bytes → r < length ends → column < len
    → (n : ℕ) → n ≡ get_or ends r d - row_start 0 ends r
    → StandAt (filled_rows len fill 0 ends bytes) (r * len + column) (drop (min column n) (take n (drop (row_start 0 ends r) bytes))) (len - max column n) fill
unfolding filled_rows
in_row len last fill ends bytes r column d are held within inside n same =
    let is = row_is len last 0 ends r d are within in
    let start : ℕ = row_start 0 ends r in
    let end : ℕ = get_or ends r d in
    let here : List ℕ = drop start bytes in
    let rest : List ℕ = filled_rows len fill end (drop (r + 1) ends) (drop n here) in
    let filled : List ℕ = filled_rows len fill 0 ends bytes in
    let left : length here ≡ length bytes - start = length-drop start bytes in
    let at = from-row len fill column n here rest (omega (arith, same, is.within)) (omega (arith, same, is.inside, held, left)) inside in
    let found : drop (r * len) filled ≡ row len fill n here ++ rest =
    grind (arith, drop_rows, drop_more) in
    record {
      rest = at.rest;
      split = sym (drop-drop column (r * len) filled) ∙ ap (drop column) found ∙ at.split;
      some = λ _. at.some (omega (arith, inside, length-append (row len fill n here) rest, length-row len fill n here (omega (arith, same, is.within)) (omega (arith, same, is.inside, held, left))));
    }

-- past all rows
pub after_rows : (len last fill : ℕ) (ends bytes : List ℕ) (skipped : ℕ) → AreRowEnds len 0 ends last → last ≤ length bytes
    → StandAt (filled_rows len fill 0 ends bytes) (length ends * len + skipped) (drop (last + skipped) bytes) 0 fill
unfolding filled_rows
after_rows len last fill ends bytes skipped are held =
    let filled : List ℕ = filled_rows len fill 0 ends bytes in
    let start : ℕ = row_start 0 ends (length ends) in
    let long = length_filled len last fill 0 ends bytes are (omega (arith, held)) in
    record {
      rest = [];
      split =
          sym (drop-drop skipped (length ends * len) filled)
          ∙ ap (drop skipped) (drop_rows len last fill 0 ends bytes (length ends) are (omega (arith, held)) (omega arith))
          ∙ ap (λ (es : List ℕ). drop skipped (filled_rows len fill start es (drop (start - 0) bytes))) (drop_all (length ends) ends (omega arith))
          ∙ ap (λ (k : ℕ). drop skipped (drop k bytes)) (from-none start)
          ∙ ap (λ (k : ℕ). drop skipped (drop k bytes)) (row_past len last 0 ends are)
          ∙ drop-drop skipped last bytes
          ∙ sym (append-nil (drop (last + skipped) bytes));
      some = λ inside. omega (arith, inside, long, held, length-drop (last + skipped) bytes);
    }

-- the row that a place lies in
pub record RowOf (len last at : ℕ) (ends : List ℕ) : Type 0 where
  pub column : at % len < len
  pub of : at / len < length ends
  pub is : IsRow len last (row_start 0 ends (at / len)) (get_or ends (at / len) 0)

pub row-of : (len last at n : ℕ) (ends : List ℕ) → AreRowEnds len 0 ends last → n ≡ length ends → at < n * len → RowOf len last at ends
row-of len last at n ends are all inside =
    grind (arith, some_right n len at inside, mod-lt at, row_is len last 0 ends (at / len) 0 are, div-lt_iff_lt-mul)

-- the same, with each part replaced by an equal one
pub stands-from : (filled filled' : List ℕ) (at at' : ℕ) (bytes bytes' : List ℕ) (count count' fill fill' : ℕ)
    → filled ≡ filled' → at ≡ at' → bytes ≡ bytes' → count ≡ count' → fill ≡ fill' → StandAt filled at bytes count fill → StandAt filled' at' bytes' count' fill'
stands-from filled filled' at at' bytes bytes' count count' fill fill' same place run padding with is = grind arith
