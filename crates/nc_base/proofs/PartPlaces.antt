-- Where the first wrong field lies: how the place of a whole is made of the places of its parts, and that the field doesn't end before it starts.
use Rattle.nc_base.proofs.Prelude.{◌⊎◌, sym, ap₂, ◌∙◌, ◌≡◌, ℕ, ◌≤◌, List, [], ◌∷◌, length, Option, Result, Ok, Err, refl, ap, subst, arith, inl, inr, length-append, Step, Part, done, bytes, decoded, under, chain, Spells, Stops, Bytes, StopsWith, Outcome, run, place, FormatFault}
use Rattle.nc_base.proofs.PartOutcomes.{Tells, tells, reads, stops, printed}
use Rattle.nc_base.specs.HeaderLaws.{IsCoherent}

-- ---- the rules, for readers that say where they stopped

pub place-bytes : (n : ℕ) (cut : FormatFault) (from : Bytes) → place (bytes n cut) from ≡ ([], from)
unfolding place
place-bytes n cut from = refl

pub place-under : {A : Type 0} (step : Step) (p : Part A) (from : Bytes) → place (under step p) from ≡ (step ∷ (place p from).0, (place p from).1)
unfolding place
place-under step p from = refl

pub place-decoded-ok : {A B : Type 0} (decode : A → Result B FormatFault) (encode : B → A) (p : Part A) (from : Bytes) (x : A) (rest : Bytes) → run p from ≡ Ok (x, rest) → place (decoded decode encode p) from ≡ ([], from)
unfolding place
place-decoded-ok {A = A} decode encode p from x rest e = ap (λ (o : Outcome A). elim o as (λ o. List Step × Bytes) [ Ok x ↦ ([], from) | Err e ↦ place p from ]) e

pub place-decoded-err : {A B : Type 0} (decode : A → Result B FormatFault) (encode : B → A) (p : Part A) (from : Bytes) (e : FormatFault × Bytes) → run p from ≡ Err e → place (decoded decode encode p) from ≡ place p from
unfolding place
place-decoded-err {A = A} decode encode p from e is = ap (λ (o : Outcome A). elim o as (λ o. List Step × Bytes) [ Ok x ↦ ([], from) | Err e ↦ place p from ]) is

pub place-chain-ok : {A B : Type 0} (get : B → Option A) (p : Part A) (next : A → Part B) (from : Bytes) (x : A) (middle : Bytes) → run p from ≡ Ok (x, middle) → place (chain get p next) from ≡ place (next x) middle
unfolding place
place-chain-ok {A = A} get p next from x middle e = ap (λ (o : Outcome A). elim o as (λ o. List Step × Bytes) [ Ok x ↦ place (next x.0) x.1 | Err e ↦ place p from ]) e

pub place-chain-err : {A B : Type 0} (get : B → Option A) (p : Part A) (next : A → Part B) (from : Bytes) (e : FormatFault × Bytes) → run p from ≡ Err e → place (chain get p next) from ≡ place p from
unfolding place
place-chain-err {A = A} get p next from e is = ap (λ (o : Outcome A). elim o as (λ o. List Step × Bytes) [ Ok x ↦ place (next x.0) x.1 | Err e ↦ place p from ]) is

-- ---- the field ends after it begins

pub shorter : {A : Type 0} (p : Part A) (from : Bytes) (x : A) (rest : Bytes) → Spells p from x rest → length rest ≤ length from
unfolding Spells
shorter (done x) from y rest s = omega (arith, ap length s.1)
shorter (bytes n cut) from content rest s = omega (arith, ap length s.1, length-append content rest)
shorter (decoded decode encode p) from y rest (x, s, e) = shorter p from x rest s
shorter (under step p) from x rest s = shorter p from x rest s
shorter (chain get p next) from y rest (x, middle, s, t) = omega (arith, shorter p from x middle s, shorter (next x) middle y rest t)

pub ends-after : {A : Type 0} (p : Part A) (from : Bytes) (fault : FormatFault) (rest : Bytes) → StopsWith p from fault rest → length rest ≤ length (place p from).1
unfolding StopsWith
ends-after (done x) from fault rest s = absurd s
ends-after (bytes n cut) from fault rest (short, is, left) = rw left (omega arith)
ends-after (decoded decode encode p) from fault rest (inl s) = rw (place-decoded-err decode encode p from (fault, rest) (stops p from fault rest s)) (ends-after p from fault rest s)
ends-after (decoded decode encode p) from fault rest (inr (x, s, e)) = rw (place-decoded-ok decode encode p from x rest (reads p from x rest s)) (shorter p from x rest s)
ends-after (under step p) from fault rest s = rw (place-under step p from) (ends-after p from fault rest s)
ends-after (chain get p next) from fault rest (inl s) = rw (place-chain-err get p next from (fault, rest) (stops p from fault rest s)) (ends-after p from fault rest s)
ends-after (chain get p next) from fault rest (inr (x, middle, s, t)) = rw (place-chain-ok get p next from x middle (reads p from x middle s)) (ends-after (next x) middle fault rest t)

-- ---- the relation says the same

pub stops-in : {A : Type 0} (p : Part A) (from : Bytes) (steps : List Step) (begin : Bytes) (fault : FormatFault) (rest : Bytes) → Stops p from steps begin fault rest → StopsWith p from fault rest × (place p from ≡ (steps, begin))
unfolding StopsWith Stops
stops-in (done x) from steps begin fault rest s = absurd s
stops-in (bytes n cut) from steps begin fault rest (short, a, b, is, left) = ((short, is, left), place-bytes n cut from ∙ ap₂ (λ x y. (x, y)) (sym a) (sym b))
stops-in (decoded decode encode p) from steps begin fault rest (inl s) =
    let t = stops-in p from steps begin fault rest s in (inl t.0, place-decoded-err decode encode p from (fault, rest) (stops p from fault rest t.0) ∙ t.1)
stops-in (decoded decode encode p) from steps begin fault rest (inr (x, a, b, s, e)) =
    (inr (x, s, e), place-decoded-ok decode encode p from x rest (reads p from x rest s) ∙ ap₂ (λ x y. (x, y)) (sym a) (sym b))
stops-in (under step p) from steps begin fault rest (inner, is, s) =
    let t = stops-in p from inner begin fault rest s in (t.0, place-under step p from ∙ ap (λ q. (step ∷ q.0, q.1)) t.1 ∙ ap (λ x. (x, begin)) (sym is))
stops-in (chain get p next) from steps begin fault rest (inl s) =
    let t = stops-in p from steps begin fault rest s in (inl t.0, place-chain-err get p next from (fault, rest) (stops p from fault rest t.0) ∙ t.1)
stops-in (chain get p next) from steps begin fault rest (inr (x, middle, s, u)) =
    let t = stops-in (next x) middle steps begin fault rest u in (inr (x, middle, s, t.0), place-chain-ok get p next from x middle (reads p from x middle s) ∙ t.1)

pub in-stops : {A : Type 0} (p : Part A) (from : Bytes) (fault : FormatFault) (rest : Bytes) → StopsWith p from fault rest → Stops p from (place p from).0 (place p from).1 fault rest
unfolding StopsWith Stops
in-stops (done x) from fault rest s = absurd s
in-stops (bytes n cut) from fault rest (short, is, left) = (short, ap (λ q. q.0) (place-bytes n cut from), ap (λ q. q.1) (place-bytes n cut from), is, left)
in-stops (decoded decode encode p) from fault rest (inl s) =
    inl (subst (λ q. Stops p from q.0 q.1 fault rest) (sym (place-decoded-err decode encode p from (fault, rest) (stops p from fault rest s))) (in-stops p from fault rest s))
in-stops (decoded decode encode p) from fault rest (inr (x, s, e)) =
    let at = place-decoded-ok decode encode p from x rest (reads p from x rest s) in inr (x, ap (λ q. q.0) at, ap (λ q. q.1) at, s, e)
in-stops (under step p) from fault rest s =
    ((place p from).0, ap (λ q. q.0) (place-under step p from), subst (λ b. Stops p from (place p from).0 b fault rest) (sym (ap (λ q. q.1) (place-under step p from))) (in-stops p from fault rest s))
in-stops (chain get p next) from fault rest (inl s) =
    inl (subst (λ q. Stops p from q.0 q.1 fault rest) (sym (place-chain-err get p next from (fault, rest) (stops p from fault rest s))) (in-stops p from fault rest s))
in-stops (chain get p next) from fault rest (inr (x, middle, s, t)) =
    inr (x, middle, s, subst (λ q. Stops (next x) middle q.0 q.1 fault rest) (sym (place-chain-ok get p next from x middle (reads p from x middle s))) (in-stops (next x) middle fault rest t))

-- ---- all of it

pub coherent : {A : Type 0} (p : Part A) → IsCoherent p
coherent p = record {
  value = λ from x rest. ((λ e. subst (Tells p from) e (tells p from)), reads p from x rest);
  fault = λ from fault rest. ((λ e. subst (Tells p from) e (tells p from)), stops p from fault rest);
  written = printed p;
  ends = ends-after p;
  placed = λ from steps begin fault rest. (stops-in p from steps begin fault rest, λ s. subst (λ q. Stops p from q.0 q.1 fault rest) s.1 (in-stops p from fault rest s.0));
}

-- ---- one outcome

-- bytes begin with one value or have one first wrong field: exactly one of the two holds, and in one way
pub record HasOneOutcome {A : Type 0} (p : Part A) (from : Bytes) : Type 0 where
  pub either : ((x : A) × (rest : Bytes) × Spells p from x rest) ⊎ ((fault : FormatFault) × (rest : Bytes) × StopsWith p from fault rest)
  pub one_value : (x y : A) (rest more : Bytes) → Spells p from x rest → Spells p from y more → (x ≡ y) × (rest ≡ more)
  pub one_fault : (fault other : FormatFault) (rest more : Bytes)
      → StopsWith p from fault rest → StopsWith p from other more → (fault ≡ other) × (rest ≡ more)
  pub not_both : (x : A) (fault : FormatFault) (rest more : Bytes) → Spells p from x rest → ¬ StopsWith p from fault more

tells-either : {A : Type 0} (p : Part A) (from : Bytes) (o : Outcome A) → Tells p from o
    → ((x : A) × (rest : Bytes) × Spells p from x rest) ⊎ ((fault : FormatFault) × (rest : Bytes) × StopsWith p from fault rest)
tells-either p from (Ok x) t = inl (x.0, x.1, t)
tells-either p from (Err e) t = inr (e.0, e.1, t)

same-ok : {A : Type 0} (x y : A) (rest more : Bytes) → ◌≡◌ {A = Outcome A} (Ok (x, rest)) (Ok (y, more)) → (x ≡ y) × (rest ≡ more)
same-ok x y rest more e = grind arith

same-err : (A : Type 0) (x y : FormatFault) (rest more : Bytes) → ◌≡◌ {A = Outcome A} (Err (x, rest)) (Err (y, more)) → (x ≡ y) × (rest ≡ more)
same-err A x y rest more e = grind arith

ok-err : {A : Type 0} (x : A) (fault : FormatFault) (rest more : Bytes) → ¬ (◌≡◌ {A = Outcome A} (Ok (x, rest)) (Err (fault, more)))
ok-err x fault rest more e = cc

pub one-outcome : {A : Type 0} (p : Part A) (from : Bytes) → HasOneOutcome p from
one-outcome {A = A} p from = record {
  either = tells-either p from (run p from) (tells p from);
  one_value = λ x y rest more s t. same-ok x y rest more (sym (reads p from x rest s) ∙ reads p from y more t);
  one_fault = λ fault other rest more s t. same-err A fault other rest more (sym (stops p from fault rest s) ∙ stops p from other more t);
  not_both = λ x fault rest more s t. ok-err x fault rest more (sym (reads p from x rest s) ∙ stops p from fault more t);
}

-- ---- the field begins within the bytes

pub begins-within : {A : Type 0} (p : Part A) (from : Bytes) (fault : FormatFault) (rest : Bytes) → StopsWith p from fault rest → length (place p from).1 ≤ length from
unfolding StopsWith
begins-within (done x) from fault rest s = absurd s
begins-within (bytes n cut) from fault rest s = rw (place-bytes n cut from) (omega arith)
begins-within (decoded decode encode p) from fault rest (inl s) = rw (place-decoded-err decode encode p from (fault, rest) (stops p from fault rest s)) (begins-within p from fault rest s)
begins-within (decoded decode encode p) from fault rest (inr (x, s, e)) = rw (place-decoded-ok decode encode p from x rest (reads p from x rest s)) (omega arith)
begins-within (under step p) from fault rest s = rw (place-under step p from) (begins-within p from fault rest s)
begins-within (chain get p next) from fault rest (inl s) = rw (place-chain-err get p next from (fault, rest) (stops p from fault rest s)) (begins-within p from fault rest s)
begins-within (chain get p next) from fault rest (inr (x, middle, s, t)) =
    rw (place-chain-ok get p next from x middle (reads p from x middle s)) (omega (arith, begins-within (next x) middle fault rest t, shorter p from x middle s))
