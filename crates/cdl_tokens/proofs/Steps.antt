-- The tokens, one gap or token on.
use Rattle.cdl_tokens.proofs.Prelude.{at_drop_more, at_drop_all, drop-drop, Scanned, End, scan, tokens_at, token_at, with_token, ◌≡◌, ℕ, zero, suc, ◌+◌, ◌-◌, ◌<◌, ◌≤◌, Bool, List, [], ◌∷◌, length, drop, take, ap, arith, ◌&&◌, is_none, rules, prefix_len, take_all, length-drop, false, slice_index, refl}

pub drop_some : (n b : ℕ) (bytes : List ℕ) → 0 < n → drop n (b ∷ bytes) ≡ drop (n - 1) bytes
drop_some n b bytes h = grind arith

pub drop_one_more : (b n : ℕ) (bytes : List ℕ) → drop (1 + n) (b ∷ bytes) ≡ drop n bytes
drop_one_more b n bytes = ap (λ m. drop m (b ∷ bytes)) (let e : 1 + n ≡ suc n = omega arith in e)

pub take_one_more : (b n : ℕ) (bytes : List ℕ) → take (1 + n) (b ∷ bytes) ≡ b ∷ take n bytes
take_one_more b n bytes = ap (λ m. take m (b ∷ bytes)) (let e : 1 + n ≡ suc n = omega arith in e)

-- no byte passes where the first doesn't
pub none_first : (p : ℕ → Bool) (bytes : List ℕ) → p (slice_index bytes 0) ≡ false → prefix_len p bytes ≡ 0
none_first p [] h = refl
none_first p (b ∷ bytes) h = rw (h) refl

-- after the bytes that are still to come
pub tokens_skip : (text : List ℕ) (at_start : Bool) (more : ℕ) (at : ℕ) (bytes : List ℕ) → more ≤ length bytes →
    tokens_at text at_start at more bytes ≡ tokens_at text at_start (at + more) 0 (drop more bytes)
unfolding tokens_at
tokens_skip text at_start zero at bytes h = ap (λ n. tokens_at text at_start n 0 bytes) (let e : at ≡ at + 0 = omega arith in e)
tokens_skip text at_start (suc more) at [] h = absurd (let e : suc more ≤ 0 = h in omega (arith, e))
tokens_skip text at_start (suc more) at (b ∷ bytes) h = search (rules, tokens_skip text at_start more (at + 1) bytes)

-- what stands at the scan
tokens_at_start : (text : List ℕ) (at_start : Bool) (at : ℕ) (b : ℕ) (bytes : List ℕ) (f : Scanned) → f ≡ scan at_start (b ∷ bytes) → 0 < f.len → f.len ≤ length (b ∷ bytes) →
    tokens_at text at_start at 0 (b ∷ bytes) ≡ with_token text at f.kind f.len (tokens_at text (at_start && is_none f.kind) (at + f.len) 0 (drop f.len (b ∷ bytes)))
unfolding tokens_at
tokens_at_start text at_start at b bytes f is some within = search (rules, tokens_skip, is_none, drop_some)

-- at a state of the text
pub tokens_more : (text : List ℕ) (at_start : Bool) (at : ℕ) (f : Scanned) → at < length text → f ≡ scan at_start (drop at text) → 0 < f.len → f.len ≤ length (drop at text) →
    tokens_at text at_start at 0 (drop at text) ≡ with_token text at f.kind f.len (tokens_at text (at_start && is_none f.kind) (at + f.len) 0 (drop (at + f.len) text))
tokens_more text at_start at f h is some within = grind (arith, tokens_at_start text at_start at, drop-drop f.len at text, at_drop_more)

pub tokens_past : (text : List ℕ) (at_start : Bool) (at : ℕ) → length text ≤ at → tokens_at text at_start at 0 (drop at text) ≡ token_at text at End 0 ∷ []
unfolding tokens_at
tokens_past text at_start at h = at_drop_all (tokens_at text at_start at 0) text at h

-- all bytes after the first
pub after_first : (bytes : List ℕ) → take (length bytes - 1) (drop 1 bytes) ≡ drop 1 bytes
after_first bytes = grind (arith, take_all, length-drop)
