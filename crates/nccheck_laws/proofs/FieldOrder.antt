-- The fields of a part begin one after the other.
use Rattle.nccheck_laws.proofs.Prelude.{shorter, ℕ, ◌≤◌, List, [], ◌∷◌, ◌++◌, length, Result, Ok, Err, arith, le_trans}
use Rattle.nc_fields.proofs.Prelude.{Bytes, Step, Part, done, bytes, decoded, under, chain, Outcome, and_then, with_rest, run, left_after, FormatFault, Field, judged, fields}

-- where the first of these fields begins, at most the one number of bytes is left; where a later one begins, at most what was left before
-- it; and at the end, at least the other number
abbrev pub Descend : ℕ → ℕ → List Field → Type 0
Descend top bottom [] = bottom ≤ top
Descend top bottom (f ∷ fs) = (length f.start ≤ top) × Descend (length f.start) bottom fs

descend-below : (top more bottom : ℕ) (fs : List Field) → top ≤ more → Descend top bottom fs → Descend more bottom fs
descend-below top more bottom [] le d = le_trans d le
descend-below top more bottom (f ∷ fs) le d = (le_trans d.0 le, d.1)

descend-append : (top middle bottom : ℕ) (fs gs : List Field) → Descend top middle fs → Descend middle bottom gs
    → Descend top bottom (fs ++ gs)
descend-append top middle bottom [] gs d e = descend-below middle top bottom gs d e
descend-append top middle bottom (f ∷ fs) gs d e = (d.0, descend-append (length f.start) middle bottom fs gs d.1 e)

descend-judged : {A : Type 0} (top bottom : ℕ) (y : Result A FormatFault) (fs : List Field) → Descend top bottom fs
    → Descend top bottom (judged y fs)
descend-judged top bottom (Ok x) fs d = d
descend-judged top bottom (Err fault) [] d = d
descend-judged {A = A} top bottom (Err fault) (f ∷ fs) d = (d.0, descend-judged {A = A} (length f.start) bottom (Err fault) fs d.1)

descend-decoded : {A B : Type 0} (decode : A → Result B FormatFault) (top : ℕ) (fs : List Field) (o : Outcome A)
    → Descend top (left_after o) fs
    → Descend top (left_after (and_then o (λ x rest. with_rest (decode x) rest)))
    (elim o as (λ o. List Field) [ Ok x ↦ judged (decode x.0) fs | Err e ↦ fs ])
unfolding left_after
descend-decoded decode top fs (Ok x) d = grind (arith, descend-judged)
descend-decoded decode top fs (Err e) d = d

descend-chain : {A B : Type 0} (next : A → Bytes → Outcome B) (more : A → Bytes → List Field) (top : ℕ) (fs : List Field) (o : Outcome A)
    → Descend top (left_after o) fs → ((x : A) (rest : Bytes) → Descend (length rest) (left_after (next x rest)) (more x rest))
    → Descend top (left_after (and_then o next)) (elim o as (λ o. List Field) [ Ok x ↦ fs ++ more x.0 x.1 | Err e ↦ fs ])
unfolding left_after
descend-chain next more top fs (Ok x) d go = descend-append top (length x.1) (left_after (next x.0 x.1)) fs (more x.0 x.1) d (go x.0 x.1)
descend-chain next more top fs (Err e) d go = d

pub fields-descend : {A : Type 0} (steps : List Step) (p : Part A) (from : Bytes)
    → Descend (length from) (left_after (run p from)) (fields steps p from)
unfolding run fields left_after
fields-descend steps (done x) from = omega arith
fields-descend steps (bytes n cut) from = (omega arith, shorter (bytes n cut) from)
fields-descend steps (decoded decode encode p) from =
    descend-decoded decode (length from) (fields steps p from) (run p from) (fields-descend steps p from)
fields-descend steps (under step p) from = fields-descend (step ∷ steps) p from
fields-descend steps (chain get p next) from =
    descend-chain (λ x rest. run (next x) rest) (λ x rest. fields steps (next x) rest) (length from) (fields steps p from) (run p from)
    (fields-descend steps p from) (λ x rest. fields-descend steps (next x) rest)
