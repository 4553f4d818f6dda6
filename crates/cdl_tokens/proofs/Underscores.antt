-- A `_` by itself.
use Rattle.cdl_tokens.proofs.Prelude.{goes_on_word, is_escape, scan, token, Word, word_len, BeginsUnderscore, ends_value, ◌≡◌, ℕ, Bool, true, false, List, [], ◌∷◌, refl, arith, slice_index, ap, ◌∙◌, ◌+◌}
use Rattle.cdl_tokens.proofs.PlainTokens.{ended_low}
use Rattle.cdl_tokens.proofs.Words.{and_false}

off : (b : ℕ) → ends_value b ≡ true → goes_on_word b ≡ false
off b h = let low = (ended_low b h).0 in let no_plus = (ended_low b h).1 in grind (arith, low, no_plus)

-- the word ends
no_word : (bs : List ℕ) → ends_value (slice_index bs 0) ≡ true → word_len bs ≡ 0
unfolding word_len
no_word [] h = refl
no_word (b ∷ []) h = rw (off b h) refl
no_word (b ∷ c ∷ bs) h = rw (let low = (ended_low b h).0 in let off : is_escape b c ≡ false = grind (arith, low) in off) (rw (off b h) refl)

one_word : (at_start : Bool) (bs : List ℕ) → ends_value (slice_index bs 0) ≡ true → scan at_start (0x5f ∷ bs) ≡ token Word 1
unfolding scan word_len
one_word at_start [] h = cc
one_word at_start (b ∷ bs) h = rw (and_false at_start) (ap (λ n. token Word (1 + n)) (no_word (b ∷ bs) h))

pub begins_underscore : (bs : List ℕ) → slice_index bs 0 ≡ 0x5f → ends_value (slice_index bs 1) ≡ true → BeginsUnderscore bs
begins_underscore [] is h = cc
begins_underscore (b ∷ bs) is h = record { begins = λ at_start. ap (λ x. scan at_start (x ∷ bs)) is ∙ one_word at_start bs h; bytes = ap (λ x. x ∷ []) is }
