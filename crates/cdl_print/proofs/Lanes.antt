-- Vectors of 16 bytes, and which of them need an escape.
use Rattle.cdl_print.proofs.Prelude.{◌≡◌, ℕ, ◌+◌, ◌%◌, ◌^◌, ◌<◌, ◌≤◌, zero, suc, Bool, true, false, ◌&&◌, cond, eqb, List, [], ◌∷◌, ◌++◌, map, length, take, drop, get_or, replicate, bit_and, refl, sym, ap, ap₂, ◌∙◌, arith, w8, Fits, list_all, prefix_len, drop-take, length-map, length-take-le, take-take, Each1-all, Each1-zip2, Each2-splat, length-zip2, SwzOk, SwzOk-from_below, swz_l, get_or-swz_l_below, zip2_splat, mask_l-mod, take-add, take-append-add, drop-append_seam, list_all-append, agree_below, agree_below_at}
use Rattle.std.proofs.lemmas.Nat.{and_le_r}
use lib.Lanes.{mask_l, top, zip2, Each1}

-- ---- lanes that are computed one by one, and that are set just where p holds

each_byte : (f : ℕ → ℕ) (p : ℕ → Bool) → agree_below (λ x. top 7 (f x)) p 256 ≡ true → (v : List ℕ) → Each1 (Fits w8) v → map (top 7) (map f v) ≡ map p v
each_byte f p all [] fits = refl
each_byte f p all (x ∷ xs) fits = ap₂ (λ a b. a ∷ b) (agree_below_at (λ y. top 7 (f y)) p 256 x all fits.0.fits) (each_byte f p all xs fits.1)

pub masked : (f : ℕ → ℕ) (p : ℕ → Bool) (v z : List ℕ) → length v ≤ 64 → Each1 (Fits w8) v → z ≡ map f v → agree_below (λ x. top 7 (f x)) p 256 ≡ true
    → mask_l (map (top 7) z) % 2 ^ 64 ≡ mask_l (map p v)
masked f p v z short fits e all =
    ap (λ l. mask_l l % 2 ^ 64) (ap (map (top 7)) e ∙ each_byte f p all v fits) ∙ mask_l-mod (map p v) 64 (omega (arith, length-map v p))

abbrev pub hit : ℕ → ℕ → ℕ
hit a b = cond (eqb a b) 255 0

-- ---- a table of 16 bytes that is read at the lower four bits of each lane

abbrev low : ℕ → ℕ
low x = bit_and x 15

low_below : (x : ℕ) → low x < 16
low_below x = omega (arith, and_le_r x 15)

pub low_ok : (v : List ℕ) → length v ≡ 16 → SwzOk w8 16 16 0 (zip2 bit_and v (replicate 16 15))
low_ok v long =
    SwzOk-from_below w8 16 1 16 0 (zip2 bit_and v (replicate 16 15)) refl (omega (arith, length-zip2 bit_and v (replicate 16 15) long))
    (Each1-zip2 bit_and (λ j. j < 16) v (replicate 16 15) (Each2-splat (λ a b. bit_and a b < 16) v 16 15 (Each1-all (λ a. low a < 16) low_below v)))

pub itself : (v : List ℕ) → v ≡ map (λ x. x) v
itself [] = refl
itself (x ∷ xs) = ap (λ l. x ∷ l) (itself xs)

reads : (t v : List ℕ) (i : ℕ) → i + length v ≤ 16 → swz_l w8 16 t i (map low v) ≡ map (λ x. get_or t (low x) 0) v
reads t [] i few = refl
reads t (x ∷ xs) i few =
    grind (arith, get_or-swz_l_below, low_below, reads t xs (suc i))

pub looked_up : (t v : List ℕ) → length v ≡ 16 → swz_l w8 16 t 0 (zip2 bit_and v (replicate 16 15)) ≡ map (λ x. get_or t (low x) 0) v
looked_up t v long = let lows : zip2 bit_and v (replicate 16 15) ≡ map low v = zip2_splat bit_and v 16 15 long in ap (swz_l w8 16 t 0) lows ∙ reads t v 0 (omega arith)

-- ---- bytes that pass a test

one_more : (p : ℕ → Bool) (b : ℕ) (bytes : List ℕ) (run : ℕ) (t : Bool) → p b ≡ t → suc run ≤ cond t (1 + prefix_len p bytes) 0 → (run ≤ prefix_len p bytes → list_all p (take run bytes) ≡ true)
    → list_all p (take (suc run) (b ∷ bytes)) ≡ true
one_more p b bytes run true is within others = ap₂ (λ x y. x && y) is (others (omega arith))
one_more p b bytes run false is within others = absurd (omega arith)

all_in_run : (p : ℕ → Bool) (bytes : List ℕ) (run : ℕ) → run ≤ prefix_len p bytes → list_all p (take run bytes) ≡ true
all_in_run p bytes zero within = refl
all_in_run p [] (suc run) within = refl
all_in_run p (b ∷ bytes) (suc run) within = one_more p b bytes run (p b) refl within (all_in_run p bytes run)

-- those of a vector that is read at an offset
pub run_at : (p : ℕ → Bool) (bytes : List ℕ) (i n run : ℕ) → run ≤ prefix_len p (take n (drop i bytes)) → run ≤ n → list_all p (take run (drop i bytes)) ≡ true
run_at p bytes i n run within few = ap (list_all p) (sym (take-take run n (drop i bytes) few)) ∙ all_in_run p (take n (drop i bytes)) run within

-- vectors one after the other
pub more_pass : (p : ℕ → Bool) (bytes : List ℕ) (n m : ℕ) → list_all p (take n bytes) ≡ true → list_all p (take m (drop n bytes)) ≡ true → list_all p (take (n + m) bytes) ≡ true
more_pass p bytes n m before here = ap (list_all p) (take-add n m bytes) ∙ list_all-append p (take n bytes) (take m (drop n bytes)) ∙ ap₂ (λ a b. a && b) before here

pub block_passes : (p : ℕ → Bool) (bytes : List ℕ) → list_all p (take 16 bytes) ≡ true → list_all p (take 16 (drop 16 bytes)) ≡ true → list_all p (take 16 (drop 32 bytes)) ≡ true
    → list_all p (take 16 (drop 48 bytes)) ≡ true → list_all p (take 64 bytes) ≡ true
block_passes p bytes first second third fourth = more_pass p bytes 48 16 (more_pass p bytes 32 16 (more_pass p bytes 16 16 first second) third) fourth

-- a run of bytes that were copied
pub copied_part : (old new bytes : List ℕ) (at n run : ℕ) → take (at + n) new ≡ take at old ++ take n bytes → at ≤ length old → run ≤ n → take (at + run) new ≡ take at old ++ take run bytes
copied_part old new bytes at n run copied room few =
    let long : at + run ≡ length (take at old) + run = omega (arith, length-take-le at old room) in
    sym (take-take (at + run) (at + n) new (omega arith)) ∙ ap (take (at + run)) copied ∙ ap (λ m. take m (take at old ++ take n bytes)) long
    ∙ take-append-add (take at old) (take n bytes) run ∙ ap (λ xs. take at old ++ xs) (take-take run n bytes few)

-- is read again where it was put
pub read_again : (old new bytes : List ℕ) (at run : ℕ) → take (at + run) new ≡ take at old ++ take run bytes → at ≤ length old → take run (drop at new) ≡ take run bytes
read_again old new bytes at run put room =
    sym (drop-take at run new) ∙ ap (drop at) put ∙ ap (λ m. drop m (take at old ++ take run bytes)) (sym (length-take-le at old room)) ∙ drop-append_seam (take at old) (take run bytes)
