-- A part of a header is read by reading the parts that it is made of.
use Rattle.nc_file.proofs.Prelude.{◌≡◌, Bool, true, Option, Some, Ok, Err, if◌then◌else◌, refl, ap, ◌∙◌, arith, FormatFault, Ghosts, Window, OnTrue_at, OnTrue_from, Read, left, checked, Step, Part, done, under, chain, and_then, with_rest, run, printed_len}
use Rattle.nc_window.proofs.Bytes.{kept-then}

module _ {S : Type 0} {g : Ghosts S} where
  pub read-done : {A : Type 0} {now : Window S g} {x : A} → Read now now (done x) (Ok x)
  unfolding run printed_len
  read-done = record { kept = record { same_source = refl; bytes = refl; same_buffer_len = refl; handed = refl }; cause = refl; reads = OnTrue_from g.is_transparent _ (λ known. refl); used = omega arith }

  pub read-under : {A : Type 0} {start now : Window S g} {step : Step} {p : Part A} {x : A} → Read start now p (Ok x) → Read start now (under step p) (Ok x)
  unfolding run printed_len
  read-under d = record { kept = d.kept; cause = d.cause; reads = d.reads; used = d.used }

  -- A field and what comes after it. The value that the whole has of the field may be another one that is as long.
  pub read-chain : {A B : Type 0} {start mid now : Window S g} {get : B → Option A} {p : Part A} {next : A → Part B} {x other : A} {y : B} → Read start mid p (Ok x) → get y ≡ Some other
      → printed_len p other ≡ printed_len p x → printed_len (next other) y ≡ printed_len (next x) y → Read mid now (next x) (Ok y) → Read start now (chain get p next) (Ok y)
  unfolding run printed_len
  read-chain {next = next} d is len rest f = record {
    kept = kept-then d.kept f.kept;
    cause = f.cause ∙ d.cause;
    reads = OnTrue_from g.is_transparent _ (λ known. ap (λ o. and_then o (λ x middle. run (next x) middle)) (OnTrue_at known d.reads) ∙ OnTrue_at known f.reads);
    used = rw is (omega (arith, len, rest, d.used, f.used));
  }

  pub read-then : {A B : Type 0} {start mid now : Window S g} {step : Step} {get : B → Option A} {p : Part A} {next : A → Part B} {x : A} {y : B} → Read start mid p (Ok x) → get y ≡ Some x
      → Read mid now (next x) (Ok y) → Read start now (chain get (under step p) next) (Ok y)
  read-then d is f = read-chain (read-under d) is refl refl f

  -- a value that passes a test
  pub read-checked : {A : Type 0} {start now : Window S g} (test : A → Bool) (fault : FormatFault) {p : Part A} {x : A} → test x ≡ true → Read start now p (Ok x) → Read start now (checked test fault p) (Ok x)
  unfolding run printed_len
  read-checked {now = now} test fault {x = x} is d = record {
    kept = d.kept;
    cause = d.cause;
    reads = OnTrue_from g.is_transparent _ (λ known. ap (λ o. and_then o (λ x rest. with_rest (if test x then Ok x else Err fault) rest)) (OnTrue_at known d.reads) ∙ ap (λ b. with_rest (if b then Ok x else Err fault) (left now)) is);
    used = d.used;
  }
