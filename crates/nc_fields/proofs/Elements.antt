-- Readers of the elements of a list, one after the other.
use Rattle.nc_fields.proofs.Prelude.{Ghosts, Reader, HeadFault, FormatFault, Step, Part, checked, done, chain, under, Checked, OutOfMemory, left, OnTrue_from, first, Item, each, shorter, ◌≡◌, ℕ, suc, ◌+◌, ◌-◌, ◌<◌, ◌≤◌, Bool, true, List, [], ◌∷◌, ◌++◌, length, drop, Option, Result, Ok, Err, refl, sym, ap, subst, arith, length-append}
use Rattle.std.proofs.Math.Nat.{sub-zero}
use Rattle.nc_fields.proofs.Checks.{chain_lists, part_lists, is_one}
pub use Rattle.nc_fields.proofs.Checks.{failed}

-- the next element, and then the others
each-next : {A : Type 0} (element : List A → Part A) (n i : ℕ) (prefix : List A) → i < n
    → each element (n - i) prefix ≡ chain (λ all. first (drop (length prefix) all)) (under (Item (length prefix)) (element prefix)) (λ x. each element (n - (i + 1)) (prefix ++ x ∷ []))
unfolding each
each-next element n i prefix lt = let k : n - i ≡ suc (n - (i + 1)) = omega arith in rw k refl

-- no more elements
each-none : {A : Type 0} (element : List A → Part A) (n i : ℕ) (prefix : List A) → n ≤ i → each element (n - i) prefix ≡ done prefix
unfolding each
each-none element n i prefix le = let k : n - i ≡ 0 = omega arith in rw k refl

module _ {S : Type 0} {g : Ghosts S} where
  -- a part under a step, and parts one after the other
  pub checked-under : {A : Type 0} {old new : Reader S g} {steps : List Step} {step : Step} {p : Part A} {result : Result A HeadFault} → Checked old new (step ∷ steps) p result → Checked old new steps (under step p) result
  checked-under c = grind (arith, chain_lists)

  pub checked-chain : {A B : Type 0} {old mid new : Reader S g} {steps : List Step} {get : B → Option A} {p : Part A} {next : A → Part B} {x : A} {result : Result B HeadFault}
      → Checked old mid steps p (Ok x) → Checked mid new steps (next x) result → Checked old new steps (chain get p next) result
  checked-chain a b = grind (arith, chain_lists)

  pub checked-err : {A B : Type 0} {old new : Reader S g} {steps : List Step} {get : B → Option A} {p : Part A} {next : A → Part B} {e : HeadFault}
      → Checked {A = A} old new steps p (Err e) → Checked {A = B} old new steps (chain get p next) (Err e)
  checked-err a = grind (arith, chain_lists)

  pub checked-done : {A : Type 0} {r : Reader S g} {steps : List Step} {x : A} → Checked r r steps (done x) (Ok x)
  checked-done = grind (arith, chain_lists)

  -- one field, whose value passes a test
  pub checked-passes : {A : Type 0} {old new : Reader S g} {steps : List Step} {p : Part A} {x : A} (test : A → Bool) (fault : FormatFault) → is_one p ≡ true → test x ≡ true → Checked old new steps p (Ok x)
      → Checked old new steps (checked test fault p) (Ok x)
  checked-passes test fault one is c = grind (arith, part_lists)

  -- a part under a step that comes first: it was read, and then the others; or it was not
  pub part-then : {A B : Type 0} {old mid new : Reader S g} {steps : List Step} {step : Step} {get : B → Option A} {p : Part A} {next : A → Part B} {x : A} {result : Result B HeadFault}
      → Checked old mid (step ∷ steps) p (Ok x) → Checked mid new steps (next x) result → Checked old new steps (chain get (under step p) next) result
  part-then a b = checked-chain (checked-under a) b

  pub part-stops : {A B : Type 0} {old new : Reader S g} {steps : List Step} {step : Step} {get : B → Option A} {p : Part A} {next : A → Part B} {e : HeadFault}
      → Checked {A = A} old new (step ∷ steps) p (Err e) → Checked {A = B} old new steps (chain get (under step p) next) (Err e)
  part-stops a = checked-err (checked-under a)

  -- after i elements: whoever reads the others has read all of them from the start
  pub record ChecksOn {A : Type 0} (start now : Reader S g) (steps : List Step) (element : List A → Part A) (n i : ℕ) (prefix : List A) : Type 0 where
    pub whole : (new : Reader S g) (result : Result (List A) HeadFault) → Checked now new steps (each element (n - i) prefix) result → Checked start new steps (each element n []) result
    pub count : length prefix ≡ i

  -- the same steps, or the same part, said in another way
  pub steps-along : {A : Type 0} {old new : Reader S g} {steps other : List Step} {p : Part A} {result : Result A HeadFault} → steps ≡ other → Checked old new steps p result → Checked old new other p result
  steps-along {old = old} {new = new} {p = p} {result = result} same c = subst (λ steps. Checked old new steps p result) same c

  pub part-along : {A : Type 0} {old new : Reader S g} {steps : List Step} {p q : Part A} {result : Result A HeadFault} → p ≡ q → Checked old new steps p result → Checked old new steps q result
  part-along {old = old} {new = new} {steps = steps} {result = result} same c = subst (λ p. Checked old new steps p result) same c

  -- memory ran out
  checked-memory : {A : Type 0} (r : Reader S g) (steps : List Step) (p : Part A) → Checked {A = A} r r steps p (Err OutOfMemory)
  checked-memory r steps p = record {
    kept = record { same_source = refl; bytes = refl; same_buffer_len = refl; handed = refl };
    cause = refl;
    reads = OnTrue_from g.is_transparent _ (λ known. shorter p (left r.window));
    lists = tt;
  }

  pub elements-start : {A : Type 0} {start : Reader S g} {steps : List Step} {element : List A → Part A} {n : ℕ} {none : List A} → none ≡ [] → ChecksOn start start steps element n 0 none
  elements-start {start = start} {steps = steps} {element = element} {n = n} {none = none} is = record {
    whole = λ new result c. subst (λ xs. Checked start new steps (each element n xs) result) is (subst (λ k. Checked start new steps (each element k none) result) (sub-zero n) c);
    count = ap length is;
  }

  -- an element, and what comes after it; p is the part of the element, said in another way
  numbered : {A : Type 0} {old new : Reader S g} {steps : List Step} {p q : Part A} {i k : ℕ} {result : Result A HeadFault} → k ≡ i → p ≡ q → Checked old new (Item i ∷ steps) p result → Checked old new steps (under (Item k) q) result
  numbered {steps = steps} count same c = checked-under (steps-along (ap (λ k. Item k ∷ steps) (sym count)) (part-along same c))

  step : {A : Type 0} (now new : Reader S g) (steps : List Step) (element : List A → Part A) (n i : ℕ) (prefix : List A) (result : Result (List A) HeadFault) → i < n
      → Checked now new steps (chain (λ all. first (drop (length prefix) all)) (under (Item (length prefix)) (element prefix)) (λ x. each element (n - (i + 1)) (prefix ++ x ∷ []))) result
      → Checked now new steps (each element (n - i) prefix) result
  step now new steps element n i prefix result lt c = subst (λ p. Checked now new steps p result) (sym (each-next element n i prefix lt)) c

  pub elements-err : {A : Type 0} {start mid now : Reader S g} {steps : List Step} {element : List A → Part A} {n i : ℕ} {prefix : List A} {p : Part A} {e : HeadFault} → i < n → ChecksOn start mid steps element n i prefix
      → p ≡ element prefix → Checked {A = A} mid now (Item i ∷ steps) p (Err e) → Checked {A = List A} start now steps (each element n []) (Err e)
  elements-err {element = element} {n = n} {i = i} {prefix = prefix} lt so_far same c = so_far.whole _ _ (step _ _ _ element n i prefix _ lt (checked-err (numbered so_far.count same c)))

  -- the element was read, and then the others
  others : {A : Type 0} {start mid now new : Reader S g} {steps : List Step} {element : List A → Part A} {n i : ℕ} {prefix : List A} {p : Part A} {x : A} {result : Result (List A) HeadFault} → i < n
      → ChecksOn start mid steps element n i prefix → p ≡ element prefix → Checked mid now (Item i ∷ steps) p (Ok x) → Checked now new steps (each element (n - (i + 1)) (prefix ++ x ∷ [])) result
      → Checked start new steps (each element n []) result
  others {element = element} {n = n} {i = i} {prefix = prefix} lt so_far same c rest = so_far.whole _ _ (step _ _ _ element n i prefix _ lt (checked-chain (numbered so_far.count same c) rest))

  pub elements-next : {A : Type 0} {start mid now : Reader S g} {steps : List Step} {element : List A → Part A} {n i : ℕ} {prefix more : List A} {p : Part A} {x : A} → i < n → more ≡ prefix ++ x ∷ []
      → ChecksOn start mid steps element n i prefix → p ≡ element prefix → Checked mid now (Item i ∷ steps) p (Ok x) → ChecksOn start now steps element n (i + 1) more
  elements-next {start = start} {now = now} {steps = steps} {element = element} {n = n} {i = i} {prefix = prefix} {x = x} lt is so_far same c =
      subst (ChecksOn start now steps element n (i + 1)) (sym is)
      (record { whole = λ new result rest. others lt so_far same c rest; count = omega (arith, so_far.count, length-append prefix (x ∷ [])) })

  -- memory ran out for an element that was read
  pub elements-memory : {A : Type 0} {start mid now : Reader S g} {steps : List Step} {element : List A → Part A} {n i : ℕ} {prefix : List A} {p : Part A} {x : A} → i < n → ChecksOn start mid steps element n i prefix
      → p ≡ element prefix → Checked mid now (Item i ∷ steps) p (Ok x) → Checked {A = List A} start now steps (each element n []) (Err OutOfMemory)
  elements-memory lt so_far same c = others lt so_far same c (checked-memory _ _ _)

  pub elements-done : {A : Type 0} {start now : Reader S g} {steps : List Step} {element : List A → Part A} {n i : ℕ} {prefix : List A} → n ≤ i → ChecksOn start now steps element n i prefix
      → Checked start now steps (each element n []) (Ok prefix)
  elements-done {now = now} {steps = steps} {element = element} {n = n} {i = i} {prefix = prefix} le so_far =
      so_far.whole now (Ok prefix) (subst (λ p. Checked now now steps p (Ok prefix)) (sym (each-none element n i prefix le)) checked-done)
