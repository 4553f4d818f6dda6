-- The elements of a list, read one after the other; and three readers' own: fewer bytes than `CDF`, the next id of a shape, and the limits of a variable.
use Rattle.nc_file.proofs.Prelude.{◌≡◌, ℕ, suc, ◌+◌, ◌-◌, ◌<◌, ◌≤◌, Bool, true, false, inl, inr, cases_lt, List, [], ◌∷◌, ◌++◌, length, Some, None, Ok, Err, if◌then◌else◌, ◌==◌, refl, sym, ap, subst, ◌∙◌, arith, le_trans, length-append, FormatFault, HeadFault, Format, OutOfMemory, ReadFailed, HeaderTruncated, TooLarge, Dim, NcType, total_with, Ghosts, Window, OnTrue, OnTrue_at, OnTrue_from, sub-zero, Kept, Read, Reads, left, next_of, source_of, checked, each, is_within_limits, Part, bytes, Outcome, and_then, with_rest, run, left_after, each_len, each_len-none, each_len-push, each-len, Bytes}
use Rattle.nc_window.proofs.Bytes.{kept-then, cause-then, run-short, run-taken}
use Rattle.nc_window.proofs.Totals.{total_of-append, within}
use Rattle.nc_window.proofs.PartRuns.{after-chain, shorter, has_record-next, part_runs}

-- ---- elements

-- i elements were read, and what is still to be read from here gives what all of it gives from the start
pub record ReadsOn {S A : Type 0} {g : Ghosts S} (start now : Window S g) (element : List A → Part A) (n i : ℕ) (prefix : List A) : Type 0 where
  pub kept : Kept start now
  pub failures : (source_of now).failures ≡ (source_of start).failures
  pub same : OnTrue g.is_transparent (run (each element (n - i) prefix) (left now) ≡ run (each element n []) (left start))
  pub used : next_of start + each_len element [] prefix ≡ next_of now
  pub count : length prefix ≡ i

each-step : {A : Type 0} (element : List A → Part A) (n i : ℕ) (prefix : List A) (from : Bytes) → i < n
    → run (each element (n - i) prefix) from ≡ and_then (run (element prefix) from) (λ x middle. run (each element (n - (i + 1)) (prefix ++ x ∷ [])) middle)
unfolding each run
each-step element n i prefix from lt = let k : n - i ≡ suc (n - (i + 1)) = omega arith in rw k refl

each-end : {A : Type 0} (element : List A → Part A) (n i : ℕ) (prefix : List A) (from : Bytes) → n ≤ i → run (each element (n - i) prefix) from ≡ Ok (prefix, from)
unfolding each run
each-end element n i prefix from le = let k : n - i ≡ 0 = omega arith in rw k refl

-- none was read
pub each-start : {S A : Type 0} {g : Ghosts S} (start : Window S g) (element : List A → Part A) (n : ℕ) (none : List A) → none ≡ [] → ReadsOn start start element n 0 none
each-start {S = S} {A = A} {g = g} start element n none is = subst (ReadsOn start start element n 0) (sym is) at-start
  where
    at-start : ReadsOn start start element n 0 []
    at-start = record {
      kept = record { same_source = refl; bytes = refl; same_buffer_len = refl; handed = refl };
      failures = refl;
      same = OnTrue_from g.is_transparent _ (λ known. ap (λ m. run (each element m []) (left start)) (sub-zero n));
      used = ap (λ k. next_of start + k) (each_len-none element []) ∙ omega arith;
      count = refl;
    }

-- an element that stops
each-fault : {A : Type 0} (is_transparent : Bool) (start mid now : Bytes) (element : List A → Part A) (n i : ℕ) (prefix : List A) (e : HeadFault) → i < n
    → OnTrue is_transparent (run (each element (n - i) prefix) mid ≡ run (each element n []) start)
    → Reads {A = A} is_transparent mid now (element prefix) (Err e) → Reads {A = List A} is_transparent start now (each element n []) (Err e)
each-fault is_transparent start mid now element n i prefix (Format fault) lt same r = OnTrue_from is_transparent _ (λ known.
    sym (OnTrue_at known same) ∙ each-step element n i prefix mid lt ∙ ap (λ o. and_then o (λ x middle. run (each element (n - (i + 1)) (prefix ++ x ∷ [])) middle)) (OnTrue_at known r))
each-fault is_transparent start mid now element n i prefix OutOfMemory lt same r = OnTrue_from is_transparent _ (λ known.
    rw (← OnTrue_at known same, each-step element n i prefix mid lt) (le_trans (after-chain (run (element prefix) mid) (λ x. each element (n - (i + 1)) (prefix ++ x ∷ []))) (OnTrue_at known r)))
each-fault is_transparent start mid now element n i prefix ReadFailed lt same r = OnTrue_from is_transparent _ (λ known.
    rw (← OnTrue_at known same, each-step element n i prefix mid lt) (le_trans (after-chain (run (element prefix) mid) (λ x. each element (n - (i + 1)) (prefix ++ x ∷ []))) (OnTrue_at known r)))

pub each-err : {S A : Type 0} {g : Ghosts S} (start mid now : Window S g) (element : List A → Part A) (n i : ℕ) (prefix : List A) (e : HeadFault) → i < n
    → ReadsOn start mid element n i prefix → Read {A = A} mid now (element prefix) (Err e) → Read {A = List A} start now (each element n []) (Err e)
each-err {A = A} {g = g} start mid now element n i prefix e lt so_far r = record {
  kept = kept-then so_far.kept r.kept;
  cause = cause-then A (List A) start mid now e so_far.failures r.cause;
  reads = each-fault g.is_transparent (left start) (left mid) (left now) element n i prefix e lt so_far.same r.reads;
  used = tt;
}

-- the next element was read
each-on : {A : Type 0} (is_transparent : Bool) (start mid now : Bytes) (element : List A → Part A) (n i : ℕ) (prefix : List A) (x : A) → i < n
    → OnTrue is_transparent (run (each element (n - i) prefix) mid ≡ run (each element n []) start)
    → OnTrue is_transparent (run (element prefix) mid ≡ Ok (x, now)) → OnTrue is_transparent (run (each element (n - (i + 1)) (prefix ++ x ∷ [])) now ≡ run (each element n []) start)
each-on is_transparent start mid now element n i prefix x lt same r = OnTrue_from is_transparent _ (λ known.
    sym (sym (OnTrue_at known same) ∙ each-step element n i prefix mid lt ∙ ap (λ o. and_then o (λ y middle. run (each element (n - (i + 1)) (prefix ++ y ∷ [])) middle)) (OnTrue_at known r)))

on-next : {S A : Type 0} {g : Ghosts S} (start mid now : Window S g) (element : List A → Part A) (n i : ℕ) (prefix : List A) (x : A) → i < n
    → ReadsOn start mid element n i prefix → Read mid now (element prefix) (Ok x) → ReadsOn start now element n (i + 1) (prefix ++ x ∷ [])
on-next {g = g} start mid now element n i prefix x lt so_far r = record {
  kept = kept-then so_far.kept r.kept;
  failures = r.cause ∙ so_far.failures;
  same = each-on g.is_transparent (left start) (left mid) (left now) element n i prefix x lt so_far.same r.reads;
  used = omega (arith, so_far.used, r.used, each_len-push element [] prefix x);
  count = omega (arith, so_far.count, length-append prefix (x ∷ []));
}

pub each-next : {S A : Type 0} {g : Ghosts S} (start mid now : Window S g) (element : List A → Part A) (n i : ℕ) (prefix more : List A) (x : A) → i < n → more ≡ prefix ++ x ∷ []
    → ReadsOn start mid element n i prefix → Read mid now (element prefix) (Ok x) → ReadsOn start now element n (i + 1) more
each-next start mid now element n i prefix more x lt is so_far r = subst (ReadsOn start now element n (i + 1)) (sym is) (on-next start mid now element n i prefix x lt so_far r)

memory-fault : {A : Type 0} (is_transparent : Bool) (start now : Bytes) (element : List A → Part A) (n i : ℕ) (prefix : List A) → OnTrue is_transparent (run (each element (n - i) prefix) now ≡ run (each element n []) start)
    → OnTrue is_transparent (left_after (run (each element n []) start) ≤ length now)
memory-fault is_transparent start now element n i prefix same = OnTrue_from is_transparent _ (λ known. rw (← OnTrue_at known same) (shorter (each element (n - i) prefix) now))

-- memory ran out for an element that was read
pub memory-err : {S A : Type 0} {g : Ghosts S} (start mid now : Window S g) (element : List A → Part A) (n i : ℕ) (prefix : List A) (x : A) (e : HeadFault) → i < n → e ≡ OutOfMemory
    → ReadsOn start mid element n i prefix → Read mid now (element prefix) (Ok x) → Read {A = List A} start now (each element n []) (Err e)
memory-err {A = A} {g = g} start mid now element n i prefix x e lt is so_far r =
    let on = on-next start mid now element n i prefix x lt so_far r in
    subst (λ e. Read {A = List A} start now (each element n []) (Err e)) (sym is)
    (record { kept = on.kept; cause = on.failures; reads = memory-fault g.is_transparent (left start) (left now) element n (i + 1) (prefix ++ x ∷ []) on.same; used = tt })

-- all were read
all-read : {A : Type 0} (is_transparent : Bool) (start now : Bytes) (element : List A → Part A) (n i : ℕ) (prefix : List A) → n ≤ i → OnTrue is_transparent (run (each element (n - i) prefix) now ≡ run (each element n []) start)
    → OnTrue is_transparent (run (each element n []) start ≡ Ok (prefix, now))
all-read is_transparent start now element n i prefix le same = OnTrue_from is_transparent _ (λ known. sym (OnTrue_at known same) ∙ each-end element n i prefix now le)

pub each-done : {S A : Type 0} {g : Ghosts S} (start now : Window S g) (element : List A → Part A) (n i : ℕ) (prefix : List A) → n ≤ i → i ≤ n → ReadsOn start now element n i prefix
    → Read start now (each element n []) (Ok prefix)
each-done {g = g} start now element n i prefix le ge so_far = record {
  kept = so_far.kept;
  cause = so_far.failures;
  reads = all-read g.is_transparent (left start) (left now) element n i prefix le so_far.same;
  used = ap (λ k. next_of start + k) (each-len element n prefix (omega (arith, so_far.count))) ∙ so_far.used;
}

-- the next dimension id isn't the first
pub first-next : (ids : List ℕ) (id : ℕ) → (length (ids ++ id ∷ []) == 0) ≡ false
first-next [] id = refl
first-next (x ∷ ids) id = grind arith

pub ruleset each_runs = (each-start, each-err, each-next, memory-err, each-done, has_record-next, first-next, total_of-append)

-- ---- the word `CDF`

pub run-cut : (n : ℕ) (cut : FormatFault) (from rest : Bytes) (x : Bytes) → run (bytes n HeaderTruncated) from ≡ Ok (x, rest) → run (bytes n cut) from ≡ Ok (x, rest)
run-cut n cut from rest x e =
    elim (cases_lt (length from) n) [ inl less ↦ absurd (let f = run-short n HeaderTruncated from less in cc) | inr le ↦ run-taken n cut from le ∙ sym (run-taken n HeaderTruncated from le) ∙ e ]

same-rest : (cut a b : FormatFault) (x y : Bytes) → ◌≡◌ {A = Outcome Bytes} (Err (a, x)) (Err (b, y)) → ◌≡◌ {A = Outcome Bytes} (Err (cut, x)) (Err (cut, y))
same-rest cut a b x y e = grind arith

pub run-cut_err : (n : ℕ) (cut fault : FormatFault) (from rest : Bytes) → run (bytes n HeaderTruncated) from ≡ Err (fault, rest) → run (bytes n cut) from ≡ Err (cut, rest)
run-cut_err n cut fault from rest e =
    elim (cases_lt (length from) n) [ inl less ↦ run-short n cut from less ∙ same-rest cut HeaderTruncated fault [] rest (sym (run-short n HeaderTruncated from less) ∙ e) | inr le ↦ absurd (let f = run-taken n HeaderTruncated from le in cc) ]

pub left-cut : (n : ℕ) (cut : FormatFault) (from : Bytes) → left_after (run (bytes n cut) from) ≡ left_after (run (bytes n HeaderTruncated) from)
unfolding left_after
left-cut n cut from = elim (cases_lt (length from) n) [
  | inl less ↦ ap left_after (run-short n cut from less) ∙ sym (ap left_after (run-short n HeaderTruncated from less))
  | inr le ↦ ap left_after (run-taken n cut from le ∙ sym (run-taken n HeaderTruncated from le))
]

pub ruleset cuts = (run-cut, run-cut_err, left-cut)

-- ---- the limits of a variable

beyond : (dims : List Dim) (ids : List ℕ) (ty : NcType) (total : ℕ) → None ≡ total_with dims ids ty total → is_within_limits dims total ids ty ≡ false
unfolding total_with
beyond dims ids ty total e = grind arith

-- the type of a variable that keeps the limits, and of one that doesn't
pub run-within : (p : Part NcType) (from rest : Bytes) (dims : List Dim) (ids : List ℕ) (ty : NcType) (total sum : ℕ) → run p from ≡ Ok (ty, rest) → Some sum ≡ total_with dims ids ty total
    → run (checked (is_within_limits dims total ids) TooLarge p) from ≡ Ok (ty, rest)
unfolding run
run-within p from rest dims ids ty total sum e is =
    ap (λ o. and_then o (λ x rest. with_rest (if is_within_limits dims total ids x then Ok x else Err TooLarge) rest)) e
    ∙ ap (λ b. with_rest (if b then Ok ty else Err TooLarge) rest) (within dims ids ty total sum is)

pub run-beyond : (p : Part NcType) (from rest : Bytes) (dims : List Dim) (ids : List ℕ) (ty : NcType) (total : ℕ) → run p from ≡ Ok (ty, rest) → None ≡ total_with dims ids ty total
    → run (checked (is_within_limits dims total ids) TooLarge p) from ≡ Err (TooLarge, rest)
unfolding run
run-beyond p from rest dims ids ty total e is =
    ap (λ o. and_then o (λ x rest. with_rest (if is_within_limits dims total ids x then Ok x else Err TooLarge) rest)) e
    ∙ ap (λ b. with_rest (if b then Ok ty else Err TooLarge) rest) (beyond dims ids ty total is)

pub ruleset limit_runs = (run-within, run-beyond, part_runs)
