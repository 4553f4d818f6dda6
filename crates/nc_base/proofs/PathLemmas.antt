-- What stands before and after the last byte of a kind.
use Rattle.nc_base.proofs.Prelude.{◌≡◌, ◌≢◌, ℕ, suc, ◌+◌, ◌-◌, ◌<◌, true, false, List, [], ◌∷◌, length, get_or, take, drop, refl, ap, ◌∙◌, arith, not, get_or-drop, length-drop, ◌==◌, nat_tests, list_any_at, suffix_len_is, list_any, before_last, after_last, suffix_len}
use Rattle.nc_base.specs.Paths.{is_dot, has_extension, without_extension}

is_byte : (c b : ℕ) → b ≡ c → (b == c) ≡ true
is_byte c b same = grind (arith, nat_tests)

is_no_byte : (c b : ℕ) → b ≢ c → (b == c) ≡ false
is_no_byte c b other = grind (arith, nat_tests)

-- k is the last place of c
pub record IsLastPlace (c : ℕ) (bytes : List ℕ) (k : ℕ) : Type 0 where
  pub within : k < length bytes
  pub at : get_or bytes k 0 ≡ c
  pub following : (i : ℕ) → k < i → i < length bytes → get_or bytes i 0 ≢ c

-- c has no place
abbrev pub HasNoPlace : ℕ → List ℕ → Type 0
HasNoPlace c bytes = (i : ℕ) → i < length bytes → get_or bytes i 0 ≢ c

suffix_len-IsLastPlace : (c : ℕ) (bytes : List ℕ) (k : ℕ) → IsLastPlace c bytes k → suffix_len (λ b. not (b == c)) bytes ≡ length bytes - (k + 1)
suffix_len-IsLastPlace c bytes k last = grind (arith, suffix_len_is (λ b. not (b == c)) bytes (k + 1) 0, is_no_byte c, is_byte c)

pub after_last-IsLastPlace : (c : ℕ) (bytes : List ℕ) (k : ℕ) → IsLastPlace c bytes k → after_last (λ b. b == c) bytes ≡ drop (k + 1) bytes
after_last-IsLastPlace c bytes k last =
    ap (λ n. drop n bytes) (omega (arith, suffix_len-IsLastPlace c bytes k last, last.within))

pub before_last-IsLastPlace : (c : ℕ) (bytes : List ℕ) (k : ℕ) → IsLastPlace c bytes k → before_last (λ b. b == c) bytes ≡ take k bytes
before_last-IsLastPlace c bytes k last =
    ap (λ n. take n bytes) (omega (arith, suffix_len-IsLastPlace c bytes k last, last.within))

pub after_last-HasNoPlace : (c : ℕ) (bytes : List ℕ) → HasNoPlace c bytes → after_last (λ b. b == c) bytes ≡ bytes
after_last-HasNoPlace c bytes none =
    let all : suffix_len (λ b. not (b == c)) bytes ≡ length bytes - 0 =
    suffix_len_is (λ b. not (b == c)) bytes 0 0 (omega arith) (λ i from below. ap not (is_no_byte c _ (none i below))) (λ h. absurd (omega arith)) in
    ap (λ n. drop n bytes) (let none_left : length bytes - suffix_len (λ b. not (b == c)) bytes ≡ 0 = omega (arith, all) in none_left)

list_any-HasNoPlace : (c : ℕ) (bytes : List ℕ) → HasNoPlace c bytes → list_any (λ b. b == c) bytes ≡ false
list_any-HasNoPlace c [] none = refl
list_any-HasNoPlace c (b ∷ bytes) none =
    rw (is_no_byte c b (none 0 (omega arith))) (list_any-HasNoPlace c bytes (λ i below. none (suc i) (omega arith)))

-- a name whose last dot stands after its first byte
pub without_extension-IsLastPlace : (name : List ℕ) (k : ℕ) → IsLastPlace 46 name k → 0 < k → without_extension name ≡ take k name
without_extension-IsLastPlace name k last after_first =
    let place : 1 + (k - 1) ≡ k = omega arith in
    let dot : get_or (drop 1 name) (k - 1) 0 ≡ 46 = get_or-drop 1 name (k - 1) 0 ∙ ap (λ i. get_or name i 0) place ∙ last.at in
    let has : has_extension name ≡ true =
    list_any_at is_dot (drop 1 name) (k - 1) 0 (omega (arith, length-drop 1 name, last.within)) (is_byte 46 _ dot) in
    rw has (before_last-IsLastPlace 46 name k last)

-- a name without a dot after its first byte
pub without_extension-same : (name : List ℕ) → ((i : ℕ) → 0 < i → i < length name → get_or name i 0 ≢ 46) → without_extension name ≡ name
without_extension-same name none = grind (arith, length-drop 1 name, get_or-drop 1 name, list_any-HasNoPlace 46 (drop 1 name))
