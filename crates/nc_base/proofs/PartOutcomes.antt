-- Reading a part, what its bytes spell, where reading stops and how a value is written agree, whatever the part.
use Rattle.nc_base.proofs.Prelude.{◌≡◌, ℕ, ◌<◌, Bool, true, false, leb, [], ◌++◌, length, take, drop, Option, Result, Ok, Err, refl, sym, ap, ◌∙◌, append_assoc, arith, inl, inr, take-append-drop, length-take-le, le-leb, leb-true, leb-false, if◌then◌else◌, length-append, Step, Part, done, bytes, decoded, under, chain, Spells, print, Bytes, StopsWith, Outcome, and_then, with_rest, run, IsPrintable, take-append_seam, drop-append_seam, FormatFault, lt-leb}

-- ---- what reading gives is true

-- what an outcome says of the bytes
abbrev pub Tells : {A : Type 0} → Part A → Bytes → Outcome A → Type 0
Tells p from (Ok x) = Spells p from x.0 x.1
Tells p from (Err e) = StopsWith p from e.0 e.1

bytes-tells : (n : ℕ) (cut : FormatFault) (from : Bytes) (b : Bool) → leb n (length from) ≡ b → Tells (bytes n cut) from (if b then Ok (take n from, drop n from) else Err (cut, []))
unfolding Spells StopsWith
bytes-tells n cut from true e = (length-take-le n from (leb-true _ _ e), sym (take-append-drop n from))
bytes-tells n cut from false e = (leb-false _ _ e, refl, refl)

decoded-tells : {A B : Type 0} (decode : A → Result B FormatFault) (encode : B → A) (p : Part A) (from : Bytes) (x : A) (rest : Bytes) → Spells p from x rest
    → (y : Result B FormatFault) → decode x ≡ y → Tells (decoded decode encode p) from (with_rest y rest)
unfolding Spells StopsWith
decoded-tells decode encode p from x rest s (Ok y) e = (x, s, e)
decoded-tells decode encode p from x rest s (Err fault) e = inr (x, s, e)

chain-tells : {A B : Type 0} (get : B → Option A) (p : Part A) (next : A → Part B) (from : Bytes) (x : A) (middle : Bytes) → Spells p from x middle
    → (o : Outcome B) → Tells (next x) middle o → Tells (chain get p next) from o
unfolding Spells StopsWith
chain-tells get p next from x middle s (Ok y) t = (x, middle, s, t)
chain-tells get p next from x middle s (Err e) t = inr (x, middle, s, t)

-- what comes after an outcome of the part
then-tells : {A B : Type 0} (p : Part A) (whole : Part B) (from : Bytes) (f : A → Bytes → Outcome B) (o : Outcome A) → Tells p from o
    → ((e : FormatFault) (rest : Bytes) → StopsWith p from e rest → StopsWith whole from e rest)
    → ((x : A) (rest : Bytes) → Spells p from x rest → Tells whole from (f x rest))
    → Tells whole from (and_then o f)
then-tells p whole from f (Ok x) t stops go = go x.0 x.1 t
then-tells p whole from f (Err e) t stops go = stops e.0 e.1 t

pub tells : {A : Type 0} (p : Part A) (from : Bytes) → Tells p from (run p from)
unfolding run Spells StopsWith
tells (done x) from = (refl, refl)
tells (bytes n cut) from = bytes-tells n cut from (leb n (length from)) refl
tells (decoded decode encode p) from =
    then-tells p (decoded decode encode p) from _ (run p from) (tells p from) (λ e rest s. inl s)
    (λ x rest s. decoded-tells decode encode p from x rest s (decode x) refl)
tells (under step p) from = then-same p step from (run p from) (tells p from)
  where
    then-same : {A : Type 0} (p : Part A) (step : Step) (from : Bytes) (o : Outcome A) → Tells p from o → Tells (under step p) from o
    then-same p step from (Ok x) t = t
    then-same p step from (Err e) t = t
tells (chain get p next) from =
    then-tells p (chain get p next) from _ (run p from) (tells p from) (λ e rest s. inl s)
    (λ x middle s. chain-tells get p next from x middle s (run (next x) middle) (tells (next x) middle))

-- ---- what is true is what reading gives

then-ok : {A B : Type 0} {o : Outcome A} (f : A → Bytes → Outcome B) {x : A} {rest : Bytes} {whole : Outcome B} → o ≡ Ok (x, rest) → f x rest ≡ whole → and_then o f ≡ whole
then-ok f e h = ap (λ o. and_then o f) e ∙ h

then-err : {A B : Type 0} {o : Outcome A} (f : A → Bytes → Outcome B) {e : FormatFault × Bytes} → o ≡ Err e → and_then o f ≡ Err e
then-err f h = ap (λ o. and_then o f) h

abbrev take_bytes : ℕ → FormatFault → Bytes → Bool → Outcome Bytes
take_bytes n cut from b = if b then Ok (take n from, drop n from) else Err (cut, [])

taken : (cut : FormatFault) (content rest : Bytes) → take_bytes (length content) cut (content ++ rest) (leb (length content) (length (content ++ rest))) ≡ Ok (content, rest)
taken cut content rest =
    grind (arith, drop-append_seam, le-leb, length-append, take-append_seam)

short-bytes : (n : ℕ) (cut : FormatFault) (from : Bytes) → length from < n → take_bytes n cut from (leb n (length from)) ≡ Err (cut, [])
short-bytes n cut from short = ap (take_bytes n cut from) (lt-leb _ _ short)

pub reads : {A : Type 0} (p : Part A) (from : Bytes) (x : A) (rest : Bytes) → Spells p from x rest → run p from ≡ Ok (x, rest)
unfolding run Spells StopsWith
reads (done x) from y rest (same, all) = rw (same, all) refl
reads (bytes n cut) from content rest (count, is) = rw (is, ← count) (taken cut content rest)
reads (decoded decode encode p) from y rest (x, s, e) = then-ok _ (reads p from x rest s) (ap (λ r. with_rest r rest) e)
reads (under step p) from x rest s = reads p from x rest s
reads (chain get p next) from y rest (x, middle, s, t) = then-ok _ (reads p from x middle s) (reads (next x) middle y rest t)

pub stops : {A : Type 0} (p : Part A) (from : Bytes) (fault : FormatFault) (rest : Bytes) → StopsWith p from fault rest → run p from ≡ Err (fault, rest)
unfolding run Spells StopsWith
stops (done x) from fault rest s = absurd s
stops (bytes n cut) from fault rest (short, is, left) = rw (is, left) (short-bytes n cut from short)
stops (decoded decode encode p) from fault rest (inl s) = then-err _ (stops p from fault rest s)
stops (decoded decode encode p) from fault rest (inr (x, s, e)) = then-ok _ (reads p from x rest s) (ap (λ r. with_rest r rest) e)
stops (under step p) from fault rest s = stops p from fault rest s
stops (chain get p next) from fault rest (inl s) = then-err _ (stops p from fault rest s)
stops (chain get p next) from fault rest (inr (x, middle, s, t)) = then-ok _ (reads p from x middle s) (stops (next x) middle fault rest t)

-- ---- what is written is a spelling

pub printed : {A : Type 0} (p : Part A) (y : A) (rest : Bytes) → IsPrintable p y → Spells p (print p y ++ rest) y rest
unfolding print Spells
printed (done x) y rest same = (same, refl)
printed (bytes n cut) content rest count = (count, refl)
printed (decoded decode encode p) y rest (good, e) = (encode y, printed p (encode y) rest good, e)
printed (under step p) x rest good = printed p x rest good
printed (chain get p next) y rest (x, is, good, more) =
    (x, print (next x) y ++ rest, rw (is, append_assoc) (printed p x (print (next x) y ++ rest) good), printed (next x) y rest more)
