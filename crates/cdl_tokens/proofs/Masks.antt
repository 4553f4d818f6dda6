-- From the mask of a block of bytes to the run of bytes at which no lane stops.
use Rattle.std.proofs.Common.{◌≡◌, ℕ, suc, ◌+◌, ◌%◌, ◌^◌, ◌<◌, ◌≤◌, Bool, true, not, ◌||◌, cond, eqb, List, [], ◌∷◌, map, rules, length, ◌++◌, take, drop, get_or, replicate, bit_and, count_by, refl, ap, ap₂, ◌∙◌, arith, w8, Fits, sym}
use Rattle.std.proofs.lemmas.Simd.{zip2_of_maps, zip2_splat, mask_l-mod, chunk-drop, length-chunk, first_set_mask_l, Each1-all, Each1-zip2, Each2-splat, length-zip2, SwzOk, SwzOk-from_below, swz_l, get_or-swz_l_below}
use Rattle.std.proofs.lemmas.Bool.{agree_below, agree_below_at}
use Rattle.std.proofs.lemmas.Nat.{and_le_r}
use Rattle.std.proofs.lemmas.List.{length-map, map-id}
use Rattle.std.proofs.lemmas.List.Sums.{prefix_len-le-length, sum_by-append}
use Rattle.std.proofs.lemmas.Bool.Decides.{nat_tests}
use Rattle.std.specs.List.{prefix_len}
use lib.Lanes.{chunk, mask_l, top, zip2, Each1}
use lib.Bits.{bit_or}
use lib.Count.{count_trailing_zeros}
use Rattle.std.proofs.Math.Seq.{take-add}

abbrev hit : ℕ → ℕ → ℕ
hit a b = cond (eqb a b) 255 0

each_byte : (f : ℕ → ℕ) (p : ℕ → Bool) → ((x : ℕ) → x < 256 → top 7 (f x) ≡ p x) → (v : List ℕ) → Each1 (Fits w8) v → map (top 7) (map f v) ≡ map p v
each_byte f p all [] fits = refl
each_byte f p all (x ∷ xs) fits = ap₂ (λ a b. a ∷ b) (all x fits.0.fits) (each_byte f p all xs fits.1)

-- lanes that are computed one by one, and that are set just where p holds
masked : (f : ℕ → ℕ) (p : ℕ → Bool) (v z : List ℕ) → length v ≡ 16 → Each1 (Fits w8) v → z ≡ map f v → ((x : ℕ) → x < 256 → top 7 (f x) ≡ p x)
    → mask_l (map (top 7) z) % 2 ^ 64 ≡ mask_l (map p v)
masked f p v z long fits e all = ap (λ l. mask_l l % 2 ^ 64) (ap (map (top 7)) e ∙ each_byte f p all v fits) ∙ mask_l-mod (map p v) 64 (omega (arith, length-map v p))

top_of_two : (a b : Bool) → top 7 (bit_or (cond a 255 0) (cond b 255 0)) ≡ (a || b)
top_of_two a b = search rules

-- lanes that are compared with two bytes
pub two : (a b : ℕ) (v : List ℕ) → length v ≡ 16 → Each1 (Fits w8) v
    → mask_l (map (top 7) (zip2 bit_or (zip2 hit v (replicate 16 a)) (zip2 hit v (replicate 16 b)))) % 2 ^ 64 ≡ mask_l (map (λ x. eqb x a || eqb x b) v)
two a b v long fits = masked _ (λ x. eqb x a || eqb x b) v _ long fits (zip2_of_maps bit_or _ _ v (zip2_splat hit v 16 a long) (zip2_splat hit v 16 b long)) (λ x _. top_of_two (eqb x a) (eqb x b))

-- ---- a table of 16 bytes that is read at the lower four bits of each lane

abbrev low : ℕ → ℕ
low x = bit_and x 15

low_below : (x : ℕ) → low x < 16
low_below x = omega (arith, and_le_r x 15)

pub low_ok : (v : List ℕ) → length v ≡ 16 → SwzOk w8 16 16 0 (zip2 bit_and v (replicate 16 15))
low_ok v long =
    SwzOk-from_below w8 16 1 16 0 (zip2 bit_and v (replicate 16 15)) refl (omega (arith, length-zip2 bit_and v (replicate 16 15) long))
    (Each1-zip2 bit_and (λ j. j < 16) v (replicate 16 15) (Each2-splat (λ a b. bit_and a b < 16) v 16 15 (Each1-all (λ a. low a < 16) low_below v)))

looked_up : (t v : List ℕ) (i : ℕ) → i + length v ≤ 16 → swz_l w8 16 t i (map low v) ≡ map (λ x. get_or t (low x) 0) v
looked_up t [] i few = refl
looked_up t (x ∷ xs) i few = search (rules, get_or-swz_l_below, low_below, looked_up t xs (suc i) (omega arith))

pub listed : (t v : List ℕ) (p : ℕ → Bool) → length v ≡ 16 → Each1 (Fits w8) v → agree_below (λ x. top 7 (hit (get_or t (low x) 0) x)) p 256 ≡ true
    → mask_l (map (top 7) (zip2 hit (swz_l w8 16 t 0 (zip2 bit_and v (replicate 16 15))) v)) % 2 ^ 64 ≡ mask_l (map p v)
listed t v p long fits all =
    masked (λ x. hit (get_or t (low x) 0) x) p v _ long fits (zip2_of_maps hit _ _ v (ap (swz_l w8 16 t 0) (zip2_splat bit_and v 16 15 long) ∙ looked_up t v 0 (omega arith)) (sym (map-id v)))
    (λ x below. agree_below_at (λ y. top 7 (hit (get_or t (low y) 0) y)) p 256 x all below)

module _ (p : ℕ → Bool) where
  -- the first byte that passes p lies after a block with no bit set, otherwise in it
  stops : (xs rest : List ℕ) → prefix_len (λ x. not (p x)) (xs ++ rest) ≡ cond (eqb (mask_l (map p xs)) 0) (length xs + prefix_len (λ x. not (p x)) rest) (prefix_len (λ x. not (p x)) xs)
  stops [] rest = omega arith
  stops (x ∷ xs) rest = grind (arith, nat_tests, stops xs rest)

  pub run_through : (d : List ℕ) (i n : ℕ) → i + n ≤ length d → mask_l (map p (chunk i n d)) ≡ 0 → prefix_len (λ x. not (p x)) (drop i d) ≡ n + prefix_len (λ x. not (p x)) (drop (i + n) d)
  run_through d i n room none = grind (arith, chunk-drop i n d, stops (chunk i n d) (drop (i + n) d), length-chunk i n d)

  pub run_stops : (d : List ℕ) (i n found : ℕ) → i + n ≤ length d → n ≤ 64 → found ≡ mask_l (map p (chunk i n d)) → 0 < found
      → (count_trailing_zeros 64 found ≡ prefix_len (λ x. not (p x)) (drop i d)) × (i + count_trailing_zeros 64 found ≤ length d)
  run_stops d i n found room short is some =
      grind (arith, is, chunk-drop i n d, stops (chunk i n d) (drop (i + n) d), first_set_mask_l p (chunk i n d) n, length-chunk i n d, prefix_len-le-length (λ x. not (p x)) (chunk i n d))

pub counted_more : (p : ℕ → Bool) (d : List ℕ) (i n : ℕ) → count_by p (take (i + n) d) ≡ count_by p (take i d) + count_by p (chunk i n d)
counted_more p d i n = rw (take-add i n d) (sum_by-append (λ b. cond (p b) 1 0) (take i d) (chunk i n d))
