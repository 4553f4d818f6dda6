-- For contracts. Bytes that are listed in rows, and the same with each row filled up.
use Rattle.std.specs.Prelude.{ℕ, zero, suc, ◌≡◌, ◌≤◌, ◌<◌, ◌+◌, ◌-◌, List, [], ◌∷◌, ◌++◌, drop, get_or, length, replicate, take}

-- Bytes from offset `start` on: rows that end at these offsets, each filled up to `len` bytes, and the bytes after the rows.
unfoldable pub filled_rows : ℕ → ℕ → ℕ → List ℕ → List ℕ → List ℕ
filled_rows len fill start [] bytes = bytes
filled_rows len fill start (end ∷ ends) bytes =
    let n : ℕ = end - start in
    (take n bytes ++ replicate (len - n) fill) ++ filled_rows len fill end ends (drop n bytes)

-- rows of at most `len` bytes, one after the other from `start` on, end at these offsets, and the last of them here
abbrev pub AreRowEnds : ℕ → ℕ → List ℕ → ℕ → Type 0
AreRowEnds len start [] last = start ≡ last
AreRowEnds len start (end ∷ ends) last = (start ≤ end) × (end ≤ start + len) × AreRowEnds len end ends last

-- from offset `at` on, the filled bytes have these bytes, and then `count` fill bytes: at least one in all, unless `at` is at their end
pub record StandAt (filled : List ℕ) (at : ℕ) (bytes : List ℕ) (count fill : ℕ) : Type 0 where
  pub rest : List ℕ
  pub split : drop at filled ≡ bytes ++ (replicate count fill ++ rest)
  pub some : at < length filled → 0 < length bytes + count

-- where row r starts, of rows from `start` on that end at these offsets
unfoldable pub row_start : ℕ → List ℕ → ℕ → ℕ
row_start start ends zero = start
row_start start [] (suc r) = start
row_start start (end ∷ ends) (suc r) = row_start end ends r

-- the listed bytes of row r, of rows that end at these offsets of the stored bytes
abbrev pub row_of : List ℕ → List ℕ → ℕ → List ℕ
row_of bytes ends r = take (get_or ends r 0 - row_start 0 ends r) (drop (row_start 0 ends r) bytes)
