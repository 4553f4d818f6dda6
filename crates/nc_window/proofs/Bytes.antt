-- Reading bytes through a window: one after the other, or many at once.
use Rattle.nc_window.proofs.Prelude.{◌≡◌, ℕ, ◌+◌, ◌-◌, ◌<◌, ◌≤◌, Bool, true, false, cond, leb, List, [], ◌∷◌, ◌++◌, length, take, drop, set, get_or, Ok, Err, refl, sym, ap, ap₂, ◌∙◌, append_assoc, subst, arith, rules, drop-drop, drop-take, take-take, take_all, length-replicate, length-drop, length-take, OnTrue, OnTrue_at, OnTrue_from, Ghosts, Window, HeadFault, Format, OutOfMemory, ReadFailed, HeaderTruncated, FormatFault, source_of, left, next_of, Kept, Read, Reads, Ready, FailsOnly, IsAdvanced, Stuck, ignored, Part, bytes, Outcome, and_then, run, left_after, printed_len, lt-leb, le-leb, drop_more}
use Rattle.std.proofs.lemmas.Grind.{take-set_at}
use Rattle.std.proofs.Math.Seq.{take-add}

-- ---- lists

pub run-taken : (n : ℕ) (cut : FormatFault) (from : List ℕ) → n ≤ length from → run (bytes n cut) from ≡ Ok (take n from, drop n from)
unfolding run
run-taken n cut from le = ap (λ b. cond b (Ok (take n from, drop n from)) (Err (cut, []))) (le-leb n (length from) le)

pub run-short : (n : ℕ) (cut : FormatFault) (from : List ℕ) → length from < n → run (bytes n cut) from ≡ Err (cut, [])
unfolding run
run-short n cut from short = ap (λ b. cond b (Ok (take n from, drop n from)) (Err (cut, []))) (lt-leb n (length from) short)

left-after-bytes : (n : ℕ) (cut : FormatFault) (from : List ℕ) → left_after (run (bytes n cut) from) ≤ length from - n
unfolding left_after run
left-after-bytes n cut from = by-test (leb n (length from))
  where
    by-test : (b : Bool) → left_after {A = List ℕ} (cond b (Ok (take n from, drop n from)) (Err (cut, []))) ≤ length from - n
    by-test true = omega (arith, length-drop n from)
    by-test false = omega arith

-- ignoring bytes is reading them
run-ignored : (n : ℕ) (from : List ℕ) → run (ignored n) from ≡ and_then {B = Unit {0}} (run (bytes n HeaderTruncated) from) (λ x rest. Ok (tt, rest))
unfolding run ignored
run-ignored n from = refl

left-after-passed : (o : Outcome (List ℕ)) → left_after (and_then {B = Unit {0}} o (λ x rest. Ok (tt, rest))) ≡ left_after o
unfolding left_after
left-after-passed (Ok x) = refl
left-after-passed (Err e) = refl

left-after-ignored : (n : ℕ) (from : List ℕ) → left_after (run (ignored n) from) ≤ length from - n
left-after-ignored n from = rw (run-ignored n from, left-after-passed) (left-after-bytes n HeaderTruncated from)

ignored-len : (n : ℕ) → printed_len (ignored n) tt ≡ n
unfolding printed_len ignored
ignored-len n = length-replicate n 0

-- a piece of what the window holds is a piece of the source
piece : (buf all : List ℕ) (base filled pos k : ℕ) → take filled buf ≡ take filled (drop base all) → pos + k ≤ filled → take k (drop pos buf) ≡ take k (drop (base + pos) all)
piece buf all base filled pos k same le =
    let prefix : (xs : List ℕ) → take k (drop pos xs) ≡ drop pos (take (pos + k) (take filled xs)) = λ xs. sym (drop-take pos k xs) ∙ ap (drop pos) (sym (take-take (pos + k) filled xs le)) in
    prefix buf ∙ ap (λ (xs : List ℕ). drop pos (take (pos + k) xs)) same ∙ sym (prefix (drop base all)) ∙ ap (take k) (drop-drop pos base all)

-- one more byte of an array
next-byte : (n i b : ℕ) (xs from : List ℕ) → i < n → length xs ≡ n → take i xs ≡ take i from → take 1 (drop i from) ≡ b ∷ [] → take (i + 1) (set xs i b) ≡ take (i + 1) from
next-byte n i b xs from lt len same one =
    take-set_at xs i (i + 1) b refl (omega (arith, len)) ∙ ap₂ (λ ys zs. ys ++ zs) same (sym one) ∙ sym (take-add i 1 from)

first-of : (xs : List ℕ) (i : ℕ) → i < length xs → take 1 (drop i xs) ≡ get_or xs i 0 ∷ []
first-of xs i lt = ap (take 1) (drop_more xs i 0 lt)

fault-of : (fault : FormatFault) → Format fault ≡ Format HeaderTruncated → fault ≡ HeaderTruncated
fault-of fault e = cc

-- ---- windows

module _ {S : Type 0} {g : Ghosts S} where
  -- n bytes were used
  pub record Progress (start now : Window S g) (n : ℕ) : Type 0 where
    pub kept : Kept start now
    pub failures : (source_of now).failures ≡ (source_of start).failures
    pub used : next_of start + n ≡ next_of now

  pub kept-then : {start mid now : Window S g} → Kept start mid → Kept mid now → Kept start now
  kept-then p q = search rules

  left-on : (start now : Window S g) (n : ℕ) → Kept start now → next_of start + n ≡ next_of now → left now ≡ drop n (left start)
  left-on start now n kept used =
      ap (λ (all : List ℕ). drop (next_of now) all) kept.bytes ∙ ap (λ (k : ℕ). drop k (source_of start).bytes) (sym used) ∙ sym (drop-drop n (next_of start) (source_of start).bytes)

  in-left : (start now : Window S g) (n : ℕ) → Kept start now → next_of start + n ≡ next_of now → n ≤ length (left start)
  in-left start now n kept used =
      let same : length (source_of now).bytes ≡ length (source_of start).bytes = ap (λ (all : List ℕ). length all) kept.bytes in
      omega (arith, length-drop (next_of start) (source_of start).bytes, now.within, now.used, same, used)

  -- n bytes were read
  pub read-bytes : (start now : Window S g) (n : ℕ) (xs : List ℕ) → Progress start now n → length xs ≡ n → OnTrue g.is_transparent (xs ≡ take n (left start))
      → Read start now (bytes n HeaderTruncated) (Ok xs)
  unfolding printed_len
  read-bytes start now n xs so_far len same = record {
    kept = so_far.kept;
    cause = so_far.failures;
    reads = OnTrue_from g.is_transparent _
        (λ known.
        run-taken n HeaderTruncated (left start) (in-left start now n so_far.kept so_far.used)
        ∙ ap₂ (λ (ys rest : List ℕ). Ok (ys, rest)) (sym (OnTrue_at known same)) (sym (left-on start now n so_far.kept so_far.used)));
    used = ap (λ (k : ℕ). next_of start + k) len ∙ so_far.used;
  }

  -- n bytes were passed over
  pub read-ignored : (start now : Window S g) (n : ℕ) → Progress start now n → Read start now (ignored n) (Ok tt)
  read-ignored start now n so_far = record {
    kept = so_far.kept;
    cause = so_far.failures;
    reads = OnTrue_from g.is_transparent _
        (λ known.
        run-ignored n (left start)
        ∙ ap (λ (o : Outcome (List ℕ)). and_then {B = Unit {0}} o (λ x rest. Ok (tt, rest))) (run-taken n HeaderTruncated (left start) (in-left start now n so_far.kept so_far.used))
        ∙ ap (λ (rest : List ℕ). Ok (tt, rest)) (sym (left-on start now n so_far.kept so_far.used)));
    used = ap (λ (k : ℕ). next_of start + k) (ignored-len n) ∙ so_far.used;
  }

  -- a loop has ended that read one byte after the other
  pub read-array : (start now : Window S g) (n i : ℕ) (xs : List ℕ) → n ≤ i → i ≤ n → Progress start now i → length xs ≡ n → OnTrue g.is_transparent (take i xs ≡ take i (left start))
      → Read start now (bytes n HeaderTruncated) (Ok xs)
  read-array start now n i xs le ge so_far len same =
      let all : i ≡ n = omega (arith, le, ge) in
      read-bytes start now n xs (subst (Progress start now) all so_far) len
      (OnTrue_from g.is_transparent _ (λ known. sym (take_all i xs (omega (arith, len, all))) ∙ OnTrue_at known same ∙ ap (λ (k : ℕ). take k (left start)) all))

  pub passed-over : (start now : Window S g) (n i : ℕ) → n ≤ i → i ≤ n → Progress start now i → Read start now (ignored n) (Ok tt)
  passed-over start now n i le ge so_far = let all : i ≡ n = omega (arith, le, ge) in read-ignored start now n (subst (Progress start now) all so_far)

  pub read-content : (start now : Window S g) (n : ℕ) (xs : List ℕ) → length xs ≡ n → Progress start now (length xs) → OnTrue g.is_transparent (xs ≡ take (length xs) (left start))
      → Read start now (bytes n HeaderTruncated) (Ok xs)
  read-content start now n xs len so_far same =
      read-bytes start now n xs (subst (Progress start now) len so_far) len (subst (λ (k : ℕ). OnTrue g.is_transparent (xs ≡ take k (left start))) len same)

  -- there were fewer bytes
  short : (start mid now : Window S g) (n i : ℕ) → Kept start mid → next_of start + i ≡ next_of mid → i < n → Kept mid now → next_of now ≡ next_of mid → left mid ≡ []
      → (length (left start) < n) × (left now ≡ [])
  short start mid now n i kept used lt kept2 same none =
      let on = left-on start mid i kept used in
      let len : length (left start) - i ≡ 0 = sym (length-drop i (left start)) ∙ ap length (sym on ∙ none) in
      (omega (arith, len, in-left start mid i kept used), left-on mid now 0 kept2 (omega (arith, same)) ∙ none)

  -- what is left, if the device or memory has failed
  rest-len : (start mid now : Window S g) (n i k : ℕ) → Kept start mid → next_of start + i ≡ next_of mid → i < n → Kept mid now → next_of now ≡ next_of mid → k ≤ length (left start) - n → k ≤ length (left now)
  rest-len start mid now n i k kept used lt kept2 same le =
      let on = ap length (left-on start mid i kept used) ∙ length-drop i (left start) in
      let last = ap length (left-on mid now 0 kept2 (omega (arith, same))) in
      omega (arith, on, last, le)

  stop-reads : {A : Type 0} (part : Part A) (start mid now : Window S g) (n i : ℕ) (e : HeadFault) → Kept start mid → next_of start + i ≡ next_of mid → i < n → Kept mid now → Stuck mid now e
      → (length (left start) < n → run part (left start) ≡ Err (HeaderTruncated, [])) → left_after (run part (left start)) ≤ length (left start) - n
      → Reads g.is_transparent (left start) (left now) part (Err e)
  stop-reads part start mid now n i (Format fault) kept used lt kept2 stuck cut least =
      OnTrue_from g.is_transparent _
      (λ known.
      let s = short start mid now n i kept used lt kept2 stuck.0 (OnTrue_at known stuck.1.1) in
      cut s.0 ∙ ap₂ (λ (f : FormatFault) (rest : List ℕ). Err (f, rest)) (sym (fault-of fault stuck.1.0)) (sym s.1))
  stop-reads part start mid now n i OutOfMemory kept used lt kept2 stuck cut least =
      OnTrue_from g.is_transparent _ (λ known. rest-len start mid now n i _ kept used lt kept2 stuck.0 least)
  stop-reads part start mid now n i ReadFailed kept used lt kept2 stuck cut least =
      OnTrue_from g.is_transparent _ (λ known. rest-len start mid now n i _ kept used lt kept2 stuck.0 least)

  pub cause-then : (A B : Type 0) (start mid now : Window S g) (e : HeadFault) → (source_of mid).failures ≡ (source_of start).failures
      → FailsOnly {A = A} mid now (Err e) → FailsOnly {A = B} start now (Err e)
  cause-then A B start mid now (Format fault) same c = c ∙ same
  cause-then A B start mid now OutOfMemory same c = c ∙ same
  cause-then A B start mid now ReadFailed same c = rw same at c

  -- what a reader of bytes did that came no further
  pub record Stopped (C : Type 0) (mid now : Window S g) (e : HeadFault) : Type 0 where
    pub kept : Kept mid now
    pub cause : FailsOnly {A = C} mid now (Err e)
    pub stuck : Stuck mid now e

  pub stop-bytes : (C : Type 0) (start mid now : Window S g) (n i : ℕ) (e : HeadFault) → Progress start mid i → i < n → Stopped C mid now e → Read {A = List ℕ} start now (bytes n HeaderTruncated) (Err e)
  stop-bytes C start mid now n i e so_far lt stop = record {
    kept = kept-then so_far.kept stop.kept;
    cause = cause-then C (List ℕ) start mid now e so_far.failures stop.cause;
    reads = stop-reads (bytes n HeaderTruncated) start mid now n i e so_far.kept so_far.used lt stop.kept stop.stuck (run-short n HeaderTruncated (left start)) (left-after-bytes n HeaderTruncated (left start));
    used = tt;
  }

  pub stop-ignored : (C : Type 0) (start mid now : Window S g) (n i : ℕ) (e : HeadFault) → Progress start mid i → i < n → Stopped C mid now e → Read {A = Unit {0}} start now (ignored n) (Err e)
  stop-ignored C start mid now n i e so_far lt stop = record {
    kept = kept-then so_far.kept stop.kept;
    cause = cause-then C (Unit {0}) start mid now e so_far.failures stop.cause;
    reads = stop-reads (ignored n) start mid now n i e so_far.kept so_far.used lt stop.kept stop.stuck
        (λ less. run-ignored n (left start) ∙ ap (λ (o : Outcome (List ℕ)). and_then {B = Unit {0}} o (λ x rest. Ok (tt, rest))) (run-short n HeaderTruncated (left start) less))
        (left-after-ignored n (left start));
    used = tt;
  }

  -- ---- the next bytes

  pub on-by : (start mid now : Window S g) (i k : ℕ) → Progress start mid i → Kept mid now → (source_of now).failures ≡ (source_of mid).failures → next_of now ≡ next_of mid + k → Progress start now (i + k)
  on-by start mid now i k so_far kept failures used = record {
    kept = kept-then so_far.kept kept;
    failures = failures ∙ so_far.failures;
    used = omega (arith, so_far.used, used);
  }

  -- one more byte of an array
  pub array-next : (start mid : Window S g) (n i b : ℕ) (xs : List ℕ) → i < n → length xs ≡ n → Progress start mid i → OnTrue g.is_transparent (take i xs ≡ take i (left start))
      → OnTrue g.is_transparent (take 1 (left mid) ≡ b ∷ []) → OnTrue g.is_transparent (take (i + 1) (set xs i b) ≡ take (i + 1) (left start))
  array-next start mid n i b xs lt len so_far same one =
      OnTrue_from g.is_transparent _ (λ known. next-byte n i b xs (left start) lt len (OnTrue_at known same) (ap (take 1) (sym (left-on start mid i so_far.kept so_far.used)) ∙ OnTrue_at known one))

  -- some more bytes
  pub chunk-next : (start mid : Window S g) (k : ℕ) (before out : List ℕ) → Progress start mid (length before) → length out ≡ length before + k
      → OnTrue g.is_transparent (before ≡ take (length before) (left start)) → OnTrue g.is_transparent (out ≡ before ++ take k (left mid)) → OnTrue g.is_transparent (out ≡ take (length out) (left start))
  chunk-next start mid k before out so_far len same more =
      OnTrue_from g.is_transparent _
      (λ known.
      OnTrue_at known more
      ∙ ap₂ (λ (xs ys : List ℕ). xs ++ ys) (OnTrue_at known same) (ap (take k) (left-on start mid (length before) so_far.kept so_far.used))
      ∙ sym (take-add (length before) k (left start))
      ∙ ap (λ (n : ℕ). take n (left start)) (sym len))

  -- ---- up to some number of bytes

  -- one more byte was used, and added to those before
  pub up_to-next : (start mid : Window S g) (i b : ℕ) (before out more : List ℕ) → Progress start mid i → more ≡ out ++ b ∷ [] → OnTrue g.is_transparent (out ≡ before ++ take i (left start))
      → OnTrue g.is_transparent (take 1 (left mid) ≡ b ∷ []) → OnTrue g.is_transparent (more ≡ before ++ take (i + 1) (left start))
  up_to-next start mid i b before out more so_far is same one =
      OnTrue_from g.is_transparent _
      (λ known.
      is ∙ ap (λ (xs : List ℕ). xs ++ b ∷ []) (OnTrue_at known same) ∙ append_assoc before (take i (left start)) (b ∷ [])
      ∙ ap (λ (xs : List ℕ). before ++ (take i (left start) ++ xs)) (sym (OnTrue_at known one) ∙ ap (take 1) (left-on start mid i so_far.kept so_far.used))
      ∙ ap (λ (xs : List ℕ). before ++ xs) (sym (take-add i 1 (left start))))

  -- no byte was left
  pub up_to-end : (start mid : Window S g) (n i : ℕ) (before out : List ℕ) → i ≤ n → Progress start mid i → OnTrue g.is_transparent (left mid ≡ [])
      → OnTrue g.is_transparent (out ≡ before ++ take i (left start)) → OnTrue g.is_transparent (out ≡ before ++ take n (left start))
  up_to-end start mid n i before out le so_far none same =
      OnTrue_from g.is_transparent _
      (λ known.
      let short : length (left start) ≤ i = omega (arith, length-drop i (left start), ap length (sym (left-on start mid i so_far.kept so_far.used) ∙ OnTrue_at known none)) in
      OnTrue_at known same ∙ ap (λ (xs : List ℕ). before ++ xs) (take_all i (left start) short ∙ sym (take_all n (left start) (omega (arith, short, le)))))

  -- ---- what the window holds

  -- a piece of what the window holds is a piece of what is left
  piece_left : (w : Window S g) (k : ℕ) → w.pos + k ≤ w.filled → g.is_transparent ≡ true → take k (drop w.pos w.buf.now) ≡ take k (left w)
  piece_left w k within known = piece w.buf.now (source_of w).bytes w.base w.filled w.pos k (w.holds known) within

  -- the next byte that the window holds
  pub byte_held : (w : Window S g) → w.pos < w.filled → OnTrue g.is_transparent (take 1 (left w) ≡ get_or w.buf.now w.pos 0 ∷ [])
  byte_held w lt =
      OnTrue_from g.is_transparent _ (λ known. sym (piece_left w 1 (omega arith) known) ∙ first-of w.buf.now w.pos (omega (arith, w.fits)))

  pub is_ready : (w : Window S g) (most k : ℕ) → 0 < k → k ≤ most → w.pos + k ≤ w.filled → Ready w most (take (w.pos + k - w.pos) (drop w.pos w.buf.now))
  is_ready w most k some le within = search (rules, length-take, length-drop, piece_left)

  -- the next byte was taken from what the window holds
  pub took_byte : (old w : Window S g) (b : ℕ) → Kept old w → next_of w ≡ next_of old → w.pos < w.filled → b ≡ get_or w.buf.now w.pos 0
      → (w.base + (w.pos + 1) ≡ next_of old + 1) × OnTrue g.is_transparent (take 1 (left old) ≡ b ∷ [])
  took_byte old w b kept same lt held = (
    omega (arith, same),
    OnTrue_from g.is_transparent _
        (λ known.
        ap (take 1) (sym (left-on old w 0 kept (omega (arith, same)))) ∙ OnTrue_at known (byte_held w lt) ∙ ap (λ (n : ℕ). n ∷ []) (sym held)),
  )

  progress-held : (w now : Window S g) (n : ℕ) → IsAdvanced w now n → Progress w now n
  progress-held w now n is = search rules

  -- bytes that the window holds whole
  pub array_held : (w now : Window S g) (n : ℕ) (xs : List ℕ) → IsAdvanced w now n → xs ≡ take n (drop w.pos w.buf.now) → Read w now (bytes n HeaderTruncated) (Ok xs)
  array_held w now n xs is same =
      let within : w.pos + n ≤ w.filled = omega (arith, now.used, is.pos, is.filled) in
      let len : length (take n (drop w.pos w.buf.now)) ≡ n = omega (arith, length-take n (drop w.pos w.buf.now), length-drop w.pos w.buf.now, w.fits, within) in
      read-bytes w now n xs (progress-held w now n is) (ap length same ∙ len) (OnTrue_from g.is_transparent _ (λ known. same ∙ piece_left w n within known))

  -- bytes that are passed over
  pub skip_held : (w now : Window S g) (n : ℕ) → IsAdvanced w now n → Read w now (ignored n) (Ok tt)
  skip_held w now n is = read-ignored w now n (progress-held w now n is)
