-- The NULs at the end of some bytes.
use Rattle.cdl_print.proofs.Prelude.{◌≡◌, ℕ, suc, ◌+◌, ◌-◌, ◌≤◌, true, cond, ◌&&◌, List, [], ◌∷◌, ◌++◌, length, take, drop, reverse, sym, ◌∙◌, ap, arith, append_assoc, length-take, ◌==◌, append-nil, list_all, prefix_len, nat_tests, and_parts, take-append-drop, without_trailing_nuls, prefix_len-append, suffix_len, reverse-append, length-reverse, suffix_len-le-length}

abbrev pub nuls_at_end : List ℕ → ℕ
nuls_at_end = suffix_len (λ b. b == 0)

-- one byte more at the start
nuls_at_end-cons : (b : ℕ) (xs : List ℕ) → nuls_at_end (b ∷ xs) ≡ cond (nuls_at_end xs == length xs) (length xs + cond (b == 0) 1 0) (nuls_at_end xs)
nuls_at_end-cons b xs =
    ap (prefix_len (λ c. c == 0)) (reverse-append (b ∷ []) xs) ∙ prefix_len-append (λ c. c == 0) (reverse xs) (b ∷ [])
    ∙ ap (λ n. cond (nuls_at_end xs == n) (n + cond (b == 0) 1 0) (nuls_at_end xs)) (length-reverse xs)

take_from : (b : ℕ) (xs : List ℕ) (s t : ℕ) → s ≤ length xs → t ≡ cond (s == length xs) (length xs + cond (b == 0) 1 0) s
    → take (suc (length xs) - t) (b ∷ xs) ≡ cond ((b == 0) && (length (take (length xs - s) xs) == 0)) [] (b ∷ take (length xs - s) xs)
take_from b xs s t le is = grind (arith, length-take, nat_tests)

pub without-cons : (b : ℕ) (xs : List ℕ) → without_trailing_nuls (b ∷ xs) ≡ cond ((b == 0) && (length (without_trailing_nuls xs) == 0)) [] (b ∷ without_trailing_nuls xs)
without-cons b xs = take_from b xs (nuls_at_end xs) (nuls_at_end (b ∷ xs)) (suffix_len-le-length (λ c. c == 0) xs) (nuls_at_end-cons b xs)

-- NULs after some bytes
nuls_after : (xs nuls : List ℕ) → list_all (λ b. b == 0) nuls ≡ true → nuls_at_end (xs ++ nuls) ≡ length nuls + nuls_at_end xs
nuls_after xs [] all = let e = ap nuls_at_end (append-nil xs) in omega (arith, e)
nuls_after xs (b ∷ nuls) all =
    grind (arith, and_parts, append_assoc, reverse-append, nuls_after (xs ++ b ∷ []) nuls)

-- a block of NULs at the end
pub nul_block : (n : ℕ) (bytes others block : List ℕ) → others ≡ take n bytes → block ≡ drop n bytes → list_all (λ b. b == 0) block ≡ true
    → nuls_at_end bytes ≡ length block + nuls_at_end others
nul_block n bytes others block o b all =
    ap nuls_at_end (sym (take-append-drop n bytes) ∙ ap (λ (x : List ℕ). x ++ drop n bytes) (sym o) ∙ ap (λ (x : List ℕ). others ++ x) (sym b)) ∙ nuls_after others block all
