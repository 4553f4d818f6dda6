-- The runs of a listed array, one after the other.
use Rattle.nc_walk.proofs.Prelude.{◌≡◌, ℕ, zero, suc, ◌+◌, ◌-◌, ◌*◌, List, ◌++◌, length, take, drop, replicate, refl, sym, ◌∙◌, ap, arith, length-append, append_assoc, min, concat, take-append-add, cases_lt, take-append-le, take_all, take-replicate, drop_at, drop-drop, append-nil, length-drop, length-replicate, replicate-append-replicate, repeated}
use Rattle.nc_walk.proofs.Repeats.{take-both}
use Rattle.nc_base.specs.code.ListedRows.{StandAt}

copies-of-byte : (fill n : ℕ) → concat (replicate n (replicate 8 fill)) ≡ replicate (n * 8) fill
copies-of-byte fill zero = refl
copies-of-byte fill (suc n) = grind (arith, replicate-append-replicate 8 (n * 8) fill, copies-of-byte fill n)

first-copies : (count n fill : ℕ) → take n (replicate count fill) ≡ replicate (min count n) fill
first-copies count n fill = grind (arith, take_all, length-replicate, take-replicate)

-- the first n bytes of a run: bytes, and filling after them
pub first-of-run : (bytes : List ℕ) (count fill n : ℕ)
    → take n (bytes ++ replicate count fill) ≡ take (min (length bytes) n) bytes ++ replicate (min count (n - min (length bytes) n)) fill
first-of-run bytes count fill n = grind (arith, take-append-add bytes, first-copies count, take-append-le n bytes, take_all, append-nil)

-- the same, as two pieces that are written
pub run-pieces : (bytes : List ℕ) (count fill n listed filling : ℕ) → listed ≡ min (length bytes) n → filling ≡ min count (n - listed)
    → take n (bytes ++ replicate count fill) ≡ take listed bytes ++ repeated (replicate 8 fill) filling
unfolding repeated
run-pieces bytes count fill n listed filling is padded = grind (arith, first-of-run, copies-of-byte, take-replicate)

-- k of the first n: what is left of them after a run and its rest
left-after : (run rest : List ℕ) (n k : ℕ) → k ≡ min n (length run) → take (n - k) (drop k (run ++ rest)) ≡ take (n - length run) rest
left-after run rest n k is = grind (arith, cases_lt n (length run), drop_at run rest k)

-- what is left from a place on is the rest of a run, and what comes after it
pub next-run : (filled bytes : List ℕ) (at end count fill k : ℕ) → StandAt filled at bytes count fill → k ≡ min (end - at) (length bytes + count)
    → take (end - at) (drop at filled) ≡ take (end - at) (bytes ++ replicate count fill) ++ take (end - (at + k)) (drop (at + k) filled)
next-run filled bytes at end count fill k stands is =
    let run : List ℕ = bytes ++ replicate count fill in
    let here : drop at filled ≡ run ++ stands.rest = stands.split ∙ sym (append_assoc bytes (replicate count fill) stands.rest) in
    let left : end - (at + k) ≡ end - at - k = omega arith in
    let k_is : k ≡ min (end - at) (length run) = omega (arith, is, length-append bytes (replicate count fill), length-replicate count fill) in
    rw (left, sym (drop-drop k at filled), here) (take-both (end - at) run stands.rest ∙ ap (λ (b : List ℕ). take (end - at) run ++ b) (sym (left-after run stands.rest (end - at) k k_is)))

-- up to the end of the array
pub part-whole : (filled : List ℕ) (start len end : ℕ) → end ≡ min (start + len) (length filled) → take len (drop start filled) ≡ take (end - start) (drop start filled)
part-whole filled start len end is = grind (arith, length-drop, take_all)
