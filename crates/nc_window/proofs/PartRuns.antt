-- What the parts of a header read.
use Rattle.nc_window.proofs.Prelude.{◌≡◌, ℕ, ◌≤◌, Bool, true, false, leb, List, [], ◌∷◌, ◌++◌, length, take, drop, Option, Result, Ok, Err, cond, ◌==◌, ◌||◌, refl, ap, ◌∙◌, arith, le_refl, length-drop, FormatFault, Dim, has_record_dim, Step, Part, done, bytes, decoded, under, chain, Outcome, and_then, with_rest, run, left_after, field_lens, Bytes}
use Rattle.std.proofs.lemmas.List.Folds.{list_any-append}

-- ---- the rules

pub run-done : {A : Type 0} (x : A) (from : Bytes) → run (done x) from ≡ Ok (x, from)
unfolding run
run-done x from = refl

pub run-under : {A : Type 0} (step : Step) (p : Part A) (from : Bytes) → run (under step p) from ≡ run p from
unfolding run
run-under step p from = refl

pub run-decoded : {A B : Type 0} (decode : A → Result B FormatFault) (encode : B → A) (p : Part A) (from : Bytes)
    → run (decoded decode encode p) from ≡ and_then (run p from) (λ x rest. with_rest (decode x) rest)
unfolding run
run-decoded decode encode p from = refl

pub run-chain : {A B : Type 0} (get : B → Option A) (p : Part A) (next : A → Part B) (from : Bytes) → run (chain get p next) from ≡ and_then (run p from) (λ x middle. run (next x) middle)
unfolding run
run-chain get p next from = refl

pub left_after-ok : (A : Type 0) (x : A) (from : Bytes) → left_after {A = A} (Ok (x, from)) ≡ length from
unfolding left_after
left_after-ok A x from = refl

pub left_after-err : (A : Type 0) (e : FormatFault) (from : Bytes) → left_after {A = A} (Err (e, from)) ≡ length from
unfolding left_after
left_after-err A e from = refl

-- ---- no more is left than there was

decoded-after : {B : Type 0} (r : Result B FormatFault) (rest : Bytes) → left_after (with_rest r rest) ≡ length rest
unfolding left_after
decoded-after (Ok y) rest = refl
decoded-after (Err e) rest = refl

pub after-decoded : {A B : Type 0} (o : Outcome A) (decode : A → Result B FormatFault) → left_after (and_then o (λ x rest. with_rest (decode x) rest)) ≡ left_after o
unfolding left_after
after-decoded (Ok x) decode = decoded-after (decode x.0) x.1
after-decoded (Err e) decode = refl

after-then : {A B : Type 0} (o : Outcome A) (f : A → Bytes → Outcome B) → ((x : A) (rest : Bytes) → left_after (f x rest) ≤ length rest) → left_after (and_then o f) ≤ left_after o
unfolding left_after
after-then (Ok x) f short = short x.0 x.1
after-then (Err e) f short = le_refl (length e.1)

after-bytes : (n : ℕ) (cut : FormatFault) (from : Bytes) → left_after (run (bytes n cut) from) ≤ length from
unfolding left_after run
after-bytes n cut from = by-test (leb n (length from))
  where
    by-test : (b : Bool) → left_after {A = Bytes} (cond b (Ok (take n from, drop n from)) (Err (cut, []))) ≤ length from
    by-test true = omega (arith, length-drop n from)
    by-test false = omega arith

pub shorter : {A : Type 0} (p : Part A) (from : Bytes) → left_after (run p from) ≤ length from
unfolding left_after run
shorter (done x) from = le_refl (length from)
shorter (bytes n cut) from = after-bytes n cut from
shorter (decoded decode encode p) from = omega (arith, after-decoded (run p from) decode, shorter p from)
shorter (under step p) from = shorter p from
shorter (chain get p next) from = omega (arith, after-then (run p from) (λ x middle. run (next x) middle) (λ x middle. shorter (next x) middle), shorter p from)

pub after-chain : {A B : Type 0} (o : Outcome A) (next : A → Part B) → left_after (and_then o (λ x middle. run (next x) middle)) ≤ left_after o
after-chain o next = after-then o (λ x middle. run (next x) middle) (λ x middle. shorter (next x) middle)

pub ruleset part_runs = (run-done, run-under, run-decoded, run-chain, left_after-ok, left_after-err, after-decoded, after-chain, field_lens)

-- the record dimension stands before the next dimension, or in one before
pub has_record-next : (dims : List Dim) (d : Dim) → has_record_dim (dims ++ d ∷ []) ≡ (has_record_dim dims || (d.len == 0))
has_record-next dims d =
    list_any-append (λ (dim : Dim). dim.len == 0) dims (d ∷ []) ∙ ap (λ (b : Bool). has_record_dim dims || b) (elim (d.len == 0) as (λ b. (b || false) ≡ b) [ true ↦ refl | false ↦ refl ])
