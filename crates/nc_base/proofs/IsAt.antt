-- A piece of a list of bytes that stands at an offset.
use Rattle.nc_base.proofs.Prelude.{◌≡◌, ℕ, zero, suc, ◌+◌, ◌*◌, ◌<◌, ◌≤◌, List, [], ◌++◌, length, take, drop, refl, sym, ◌∙◌, ap, subst, arith, append_assoc, length-append, append-nil, flat_map, range_with_len, take-add, take-append_seam, drop_at, drop-drop, take_all}

pub record IsAt (piece : List ℕ) (at : ℕ) (bytes : List ℕ) : Type 0 where
  pub prefix : List ℕ
  pub back : List ℕ
  pub is : bytes ≡ prefix ++ (piece ++ back)
  pub place : length prefix ≡ at

-- at the prefix
pub stands-here : (piece back : List ℕ) → IsAt piece 0 (piece ++ back)
stands-here piece back = record { prefix = []; back = back; is = refl; place = refl }

-- after something else
pub stands-after : (a piece : List ℕ) (at : ℕ) (bytes : List ℕ) → IsAt piece at bytes → IsAt piece (length a + at) (a ++ bytes)
stands-after a piece at bytes s = grind (arith, append_assoc a s.prefix, length-append a s.prefix)

-- a piece of a piece
pub stands-in : (piece middle bytes : List ℕ) (inner outer : ℕ) → IsAt piece inner middle → IsAt middle outer bytes → IsAt piece (outer + inner) bytes
stands-in piece middle bytes inner outer s t = record {
  prefix = t.prefix ++ s.prefix;
  back = s.back ++ t.back;
  is = grind (arith, append_assoc);
  place = length-append t.prefix s.prefix ∙ ap (λ (n : ℕ). n + length s.prefix) t.place ∙ ap (λ (n : ℕ). outer + n) s.place;
}

pub stands-at : (piece bytes : List ℕ) (m n : ℕ) → m ≡ n → IsAt piece m bytes → IsAt piece n bytes
stands-at piece bytes m n e s = subst (λ (k : ℕ). IsAt piece k bytes) e s

-- the two parts of a piece
pub stands-first : (a b bytes : List ℕ) (at : ℕ) → IsAt (a ++ b) at bytes → IsAt a at bytes
stands-first a b bytes at s = stands-at a bytes (at + 0) at (omega arith) (stands-in a (a ++ b) bytes 0 at (stands-here a b) s)

pub stands-second : (a b bytes : List ℕ) (at : ℕ) → IsAt (a ++ b) at bytes → IsAt b (at + length a) bytes
stands-second a b bytes at s =
    let whole : IsAt b (length a + 0) (a ++ b) = stands-after a b 0 b (subst (IsAt b 0) (append-nil b) (stands-here b [])) in
    let e : at + (length a + 0) ≡ at + length a = omega arith in
    stands-at b bytes (at + (length a + 0)) (at + length a) e (stands-in b (a ++ b) bytes (length a + 0) at whole s)

-- what stands there is read there
pub stands-read : (piece : List ℕ) (at : ℕ) (bytes : List ℕ) (n : ℕ) → IsAt piece at bytes → length piece ≡ n → take n (drop at bytes) ≡ piece
stands-read piece at bytes n s len = grind (arith, drop_at, take-append_seam)

pub stands-within : (piece : List ℕ) (at : ℕ) (bytes : List ℕ) → IsAt piece at bytes → at + length piece ≤ length bytes
stands-within piece at bytes s = grind (arith, length-append)

-- one of several pieces of one length
pub stands-row : (f : ℕ → List ℕ) (len k n i : ℕ) → ((r : ℕ) → k ≤ r → r < k + n → length (f r) ≡ len) → i < n
    → IsAt (f (k + i)) (i * len) (flat_map f (range_with_len k n))
stands-row f len k zero i each lt = absurd (omega arith)
stands-row f len k (suc n) zero each lt =
    let e : k ≡ k + 0 = omega arith in
    let z : 0 ≡ 0 * len = omega arith in
    subst (λ (r : ℕ). IsAt (f r) (0 * len) (flat_map f (range_with_len k (suc n)))) e
    (stands-at (f k) (flat_map f (range_with_len k (suc n))) 0 (0 * len) z (stands-here (f k) (flat_map f (range_with_len (k + 1) n))))
stands-row f len k (suc n) (suc i) each lt =
    let e : k + 1 + i ≡ k + suc i = omega arith in
    let here : length (f k) ≡ len = each k (omega arith) (omega arith) in
    let place : length (f k) + i * len ≡ suc i * len = omega arith in
    let rest = stands-row f len (k + 1) n i (λ r low high. each r (omega arith) (omega arith)) (omega arith) in
    subst (λ (r : ℕ). IsAt (f r) (suc i * len) (flat_map f (range_with_len k (suc n)))) e
    (stands-at (f (k + 1 + i)) (flat_map f (range_with_len k (suc n))) (length (f k) + i * len) (suc i * len) place
    (stands-after (f k) (f (k + 1 + i)) (i * len) (flat_map f (range_with_len (k + 1) n)) rest))

-- a list is its runs of one length
pub runs-all : (xs : List ℕ) (len n : ℕ) → length xs ≡ n * len → flat_map (λ r. take len (drop (r * len) xs)) (range_with_len 0 n) ≡ xs
runs-all xs len n all =
    let z : 0 ≡ 0 * len = omega arith in
    from 0 n ∙ ap (λ (m : ℕ). take (n * len) (drop m xs)) (sym z) ∙ take_all (n * len) xs (omega arith)
  where
    from : (k m : ℕ) → flat_map (λ r. take len (drop (r * len) xs)) (range_with_len k m) ≡ take (m * len) (drop (k * len) xs)
    from k zero = let e : 0 ≡ 0 * len = omega arith in ap (λ (j : ℕ). take j (drop (k * len) xs)) e
    from k (suc m) =
        let o = k * len in
        let next : (k + 1) * len ≡ o + len = omega arith in
        let whole : len + m * len ≡ suc m * len = omega arith in
        ap (λ (ys : List ℕ). take len (drop o xs) ++ ys) (from (k + 1) m ∙ ap (λ (j : ℕ). take (m * len) (drop j xs)) next ∙ ap (take (m * len)) (sym (drop-drop len o xs)))
        ∙ sym (take-add len (m * len) (drop o xs))
        ∙ ap (λ (j : ℕ). take j (drop o xs)) whole
