-- A unit of eight bytes that is repeated.
use Rattle.nc_walk.proofs.Prelude.{◌≡◌, ℕ, zero, suc, ◌+◌, ◌-◌, ◌*◌, ◌<◌, ◌≤◌, inl, inr, List, [], ◌∷◌, ◌++◌, length, take, drop, replicate, refl, sym, ◌∙◌, ap, arith, append_assoc, min, concat, flat_map, mul-le-mul_left, cases_lt, take-append-le, repeated, length-replicated, take-nil, drop-nil, take_min}

-- ---- joined lists

-- the first n of two lists, and what is left after the first n
pub take-both : (n : ℕ) (xs ys : List ℕ) → take n (xs ++ ys) ≡ take n xs ++ take (n - length xs) ys
take-both n [] ys = grind (arith, take-nil {A = ℕ})
take-both zero (x ∷ xs) ys = grind arith
take-both (suc n) (x ∷ xs) ys = grind (arith, take-both n xs ys)

pub drop-both : (n : ℕ) (xs ys : List ℕ) → drop n (xs ++ ys) ≡ drop n xs ++ drop (n - length xs) ys
drop-both n [] ys = grind (arith, drop-nil {A = ℕ})
drop-both zero (x ∷ xs) ys = grind arith
drop-both (suc n) (x ∷ xs) ys = grind (arith, drop-both n xs ys)

-- ---- copies

pub copies-add : (unit : List ℕ) (m n : ℕ) → concat (replicate (m + n) unit) ≡ concat (replicate m unit) ++ concat (replicate n unit)
copies-add unit zero n = grind arith
copies-add unit (suc m) n = let e : suc m + n ≡ suc (m + n) = omega arith in rw (e, copies-add unit m n) (sym (append_assoc unit (concat (replicate m unit)) (concat (replicate n unit))))

-- more copies begin as fewer
fewer-copies : (unit : List ℕ) (n k m : ℕ) → n ≤ k * length unit → k ≤ m → take n (concat (replicate k unit)) ≡ take n (concat (replicate m unit))
fewer-copies unit n k m within le =
    let e : k + (m - k) ≡ m = omega arith in
    sym (take-append-le n (concat (replicate k unit)) (concat (replicate (m - k) unit)) (omega (arith, within, length-replicated k unit)))
    ∙ ap (take n) (sym (copies-add unit k (m - k)) ∙ ap (λ (j : ℕ). concat (replicate j unit)) e)

pub same-copies : (unit : List ℕ) (n k m : ℕ) → n ≤ k * length unit → n ≤ m * length unit → take n (concat (replicate k unit)) ≡ take n (concat (replicate m unit))
same-copies unit n k m p q = elim (cases_lt k m) [ inl lt ↦ fewer-copies unit n k m p (omega arith) | inr ge ↦ sym (fewer-copies unit n m k q ge) ]

flat-copies : (units : List (List ℕ)) → flat_map (λ (x : List ℕ). x) units ≡ concat units
flat-copies [] = refl
flat-copies (unit ∷ units) = ap (λ (x : List ℕ). unit ++ x) (flat-copies units)

pub repeated-none : (unit : List ℕ) → repeated unit 0 ≡ []
unfolding repeated
repeated-none unit = refl

pub repeated-short : (unit : List ℕ) (n : ℕ) → n ≤ length unit → 0 < length unit → repeated unit n ≡ take n unit
unfolding repeated
repeated-short unit n h h2 = grind (arith, take-append-le)

-- copies that are enough
pub repeated-by : (unit : List ℕ) (n k : ℕ) → 0 < length unit → n ≤ k * length unit → take n (concat (replicate k unit)) ≡ repeated unit n
unfolding repeated
repeated-by unit n k some within = same-copies unit n k n within (let up : n * 1 ≤ n * length unit = mul-le-mul_left n some in omega (arith, up))

-- out of k copies that are enough
pub few-copies : (unit buffer : List ℕ) (k n : ℕ) → 0 < length unit → n ≤ k * length unit → buffer ≡ flat_map (λ (x : List ℕ). x) (replicate k unit)
    → repeated unit n ≡ take n buffer
few-copies unit buffer k n some within copies = grind (arith, repeated-by, flat-copies)

-- one piece of it, out of k copies, and the rest
pub next-piece : (unit buffer : List ℕ) (k n piece : ℕ) → 0 < length unit → buffer ≡ flat_map (λ (x : List ℕ). x) (replicate k unit) → piece ≡ min n (length buffer)
    → repeated unit n ≡ take piece buffer ++ repeated unit (n - piece)
unfolding repeated
next-piece unit buffer k n piece some copies piece_is =
    let is : buffer ≡ concat (replicate k unit) = copies ∙ flat-copies (replicate k unit) in
    let few : (n - piece) * 1 ≤ (n - piece) * length unit = mul-le-mul_left (n - piece) some in
    let enough : n ≤ (k + (n - piece)) * length unit = omega (arith, few, ap length is, length-replicated k unit) in
    let over : n - length buffer ≡ n - piece = omega arith in
    sym (repeated-by unit n (k + (n - piece)) some enough)
    ∙ ap (take n) (copies-add unit k (n - piece) ∙ ap (λ (x : List ℕ). x ++ concat (replicate (n - piece) unit)) (sym is))
    ∙ take-both n buffer (concat (replicate (n - piece) unit))
    ∙ rw (over, piece_is, take_min n buffer) refl
