-- Bytes that one read after another has brought.
use Rattle.nc_walk.proofs.Prelude.{◌≡◌, ℕ, ◌+◌, ◌-◌, ◌<◌, ◌≤◌, Bool, List, ◌++◌, length, take, drop, refl, ◌∙◌, ap, subst, arith, length-append, length-take, length-drop, OnTrue, drop-drop, take-append-le, take-add, take-append-add, take-append_seam, SourceView, having_read, BytesRead, NoneRead, ReadInFull, FailedReadInFull, put_mid, same_len_mid}

-- n bytes from this cursor on stand at the start of the slice
pub record Filling (is_transparent : Bool) (old new : SourceView) (at got : ℕ) (xs : List ℕ) : Type 0 where
  pub within : got ≤ length xs
  pub same : new ≡ having_read old got
  pub bytes : OnTrue is_transparent (take got xs ≡ take got (drop at old.bytes))

-- ---- facts of a source that is transparent

pub transparent_any : (is_transparent : Bool) {P : Type 0} → P → OnTrue is_transparent P
transparent_any is_transparent h = grind arith

pub transparent_map : (is_transparent : Bool) {P Q : Type 0} → (P → Q) → OnTrue is_transparent P → OnTrue is_transparent Q
transparent_map is_transparent h h2 = grind arith

pub transparent_both : (is_transparent : Bool) {P Q R : Type 0} → (P → Q → R) → OnTrue is_transparent P → OnTrue is_transparent Q → OnTrue is_transparent R
transparent_both is_transparent h h2 h3 = grind arith

-- ---- one more read

pub after_after : (s : SourceView) (m n : ℕ) → having_read (having_read s m) n ≡ having_read s (m + n)
after_after s m n = let e : s.handed + m + n ≡ s.handed + (m + n) = omega arith in ap (λ (k : ℕ). record s { handed = k }) e

-- what was put after the first bytes stands after them
pub prefix_then : (xs ys : List ℕ) (got k n : ℕ) → got ≤ length xs → n ≤ length ys → take (got + n) (put_mid got k xs ys) ≡ take got xs ++ take n ys
prefix_then xs ys got k n within fits = grind (arith, length-take, take-append-add, take-append-le)

-- and these stay
pub prefix_still : (xs ys : List ℕ) (got k : ℕ) → got ≤ length xs → take got (put_mid got k xs ys) ≡ take got xs
prefix_still xs ys got k within = grind (arith, length-take got xs, take-append_seam)

more_bytes : (b xs ys : List ℕ) (at got k n : ℕ) → got ≤ length xs → n ≤ length ys
    → take got xs ≡ take got (drop at b) → take n ys ≡ take n (drop (at + got) b)
    → take (got + n) (put_mid got k xs ys) ≡ take (got + n) (drop at b)
more_bytes b xs ys at got k n within fits prefix next = grind (arith, prefix_then, drop-drop, take-add)

pub more : (is_transparent : Bool) (old mid new : SourceView) (at got k n : ℕ) (xs ys : List ℕ) → length ys + got ≡ length xs → k ≡ length xs - got
    → Filling is_transparent old mid at got xs → BytesRead is_transparent mid new (at + got) ys n → Filling is_transparent old new at (got + n) (put_mid got k xs ys)
more is_transparent old mid new at got k n xs ys len rest f h =
    grind (arith, length-append, length-take, having_read, after_after, transparent_both, more_bytes, transparent_map)

-- one read, and then others until the slice is full or the source has ended
module _ (is_transparent : Bool) (old mid : SourceView) (at got : ℕ) (xs ys : List ℕ) (some_left : got < length xs)
    (part : length ys ≡ length (take (length xs - got) (drop got xs)))
    (h : BytesRead is_transparent old mid at xs got) where
  abbrev k : ℕ
  k = length xs - got

  len : length ys + got ≡ length xs
  len = omega (arith, part, length-take k (drop got xs), length-drop got xs)

  whole : length (put_mid got k xs ys) ≡ length xs
  whole = same_len_mid got k xs ys part

  pub filled_on : (new : SourceView) (n : ℕ) → ReadInFull is_transparent mid new (at + got) ys n → ReadInFull is_transparent old new at (put_mid got k xs ys) (got + n)
  filled_on new n f =
      let first : Filling is_transparent old mid at got xs = record { within = omega arith; same = h.same; bytes = h.bytes } in
      let next : BytesRead is_transparent mid new (at + got) ys n = record {
        within = f.within;
        same = f.same;
        bytes = f.bytes;
        some = transparent_map is_transparent (λ all. omega (arith, len)) f.all;
      } in
      let both = more is_transparent old mid new at got k n xs ys len refl first next in record {
        within = both.within;
        same = both.same;
        all = transparent_map is_transparent (λ all. omega (arith, whole, len)) f.all;
        bytes = both.bytes;
      }

  pub fails_on : (new : SourceView) → FailedReadInFull mid new (length ys) → FailedReadInFull old new (length (put_mid got k xs ys))
  fails_on new f = record {
    n = got + f.n;
    within = omega (arith, whole, len, f.within);
    failed = subst (λ (s : SourceView). NoneRead s new) (ap (λ (s : SourceView). having_read s f.n) h.same ∙ after_after old got f.n) f.failed;
  }
