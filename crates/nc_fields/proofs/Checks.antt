-- What readers of parts do that list their fields: for a part that is one field, and for parts that are made of others.
use Rattle.nc_fields.proofs.Prelude.{Ghosts, Bytes, Step, Part, done, bytes, decoded, under, chain, Outcome, and_then, with_rest, run, left_after, number, FormatFault, HeaderTruncated, Read, Reads, Kept, FailsOnly, left, next_of, source_of, HeadFault, Window, Format, OutOfMemory, ReadFailed, Entry, Content, Place, Reader, PendingField, Cut, Field, judged, fields, Seen, seen_by, steps_of, whole_content, cut_content, seen, Checked, Lists, IsStart, ListsCut, entry_of, listed, with_fault, OnTrue_at, OnTrue_from, le-ltb, lt-ltb, leb-true, leb-false, append-nil, length-drop, map-append, Width, byte_len, from_be_bytes, to_be_bytes, run-done, run-under, run-decoded, run-chain, left_after-ok, left_after-err, after-decoded, after-chain, IsErrAnd, err_from_is_err_and, ◌≡◌, ℕ, ◌-◌, Bool, true, false, cond, nat_lt, List, [], ◌∷◌, ◌++◌, length, map, take, Option, Some, None, Result, Ok, Err, refl, sym, inl, inr, ap, ◌∙◌, subst, arith, append_assoc}

-- ---- parts that are one field

-- the fault of an outcome
abbrev pub fault_in : {A : Type 0} → Outcome A → Option FormatFault
fault_in (Ok x) = None
fault_in (Err e) = Some e.0

-- the part is one field of this many bytes
abbrev pub IsField : {A : Type 0} → ℕ → Part A → Type 0
IsField size p = (steps : List Step) (from : Bytes) → fields steps p from ≡ record { steps = steps; start = from; size = size; fault = fault_in (run p from) } ∷ []

pub bytes-field : (n : ℕ) (cut : FormatFault) → IsField n (bytes n cut)
unfolding fields run
bytes-field n cut steps from = grind arith

judged-field : {A B : Type 0} (steps : List Step) (from : Bytes) (size : ℕ) (decode : A → Result B FormatFault) (o : Outcome A)
    → ◌≡◌ {A = List Field} (elim o as (λ o. List Field) [
      | Ok x ↦ judged (decode x.0) (record { steps = steps; start = from; size = size; fault = fault_in o } ∷ [])
      | Err e ↦ record { steps = steps; start = from; size = size; fault = fault_in o } ∷ []
    ])
    (record { steps = steps; start = from; size = size; fault = fault_in (and_then o (λ x rest. with_rest (decode x) rest)) } ∷ [])
judged-field steps from size decode o = grind arith

pub decoded-field : {A B : Type 0} (decode : A → Result B FormatFault) (encode : B → A) (p : Part A) (size : ℕ) → IsField size p → IsField size (decoded decode encode p)
unfolding fields run
decoded-field {A = A} decode encode p size is steps from =
    ap (λ (fs : List Field). elim (run p from) as (λ (o : Outcome A). List Field) [ Ok x ↦ judged (decode x.0) fs | Err e ↦ fs ]) (is steps from)
    ∙ judged-field steps from size decode (run p from)

-- ---- what is listed of a part that is made of others

-- what is listed after a part that was read, or what its own fields are
abbrev pub list_then : {A : Type 0} → Outcome A → List Seen → (A → Bytes → List Seen) → List Seen
list_then (Ok x) fs more = more x.0 x.1
list_then (Err e) fs more = fs

-- the fields of a part, whose value has this answer
abbrev pub list_answer : {A : Type 0} → Result A FormatFault → List Seen → List Seen
list_answer (Ok y) fs = fs
list_answer (Err fault) fs = with_fault fault fs

-- the part is one field
abbrev pub is_one : {A : Type 0} → Part A → Bool
is_one (bytes n cut) = true
is_one (decoded decode encode p) = is_one p
is_one p = false

pub listed-done : {A : Type 0} (len : ℕ) (before : List Seen) (steps : List Step) (x : A) (from : Bytes) → listed len before steps (done x) from ≡ before
unfolding listed fields
listed-done len before steps x from = append-nil before

pub listed-under : {A : Type 0} (len : ℕ) (before : List Seen) (steps : List Step) (step : Step) (p : Part A) (from : Bytes)
    → listed len before steps (under step p) from ≡ listed len before (step ∷ steps) p from
unfolding listed fields
listed-under len before steps step p from = refl

pub listed-chain : {A B : Type 0} (len : ℕ) (before : List Seen) (steps : List Step) (get : B → Option A) (p : Part A) (next : A → Part B) (from : Bytes)
    → listed len before steps (chain get p next) from
    ≡ list_then (run p from) (listed len before steps p from) (λ x middle. listed len (listed len before steps p from) steps (next x) middle)
unfolding listed fields
listed-chain len before steps get p next from = grind (arith, map-append, append_assoc)

-- a fault at the last field
pub with_fault-last : (fault : FormatFault) (fs : List Seen) (f : Seen) → with_fault fault (fs ++ f ∷ []) ≡ fs ++ record f { fault = Some fault } ∷ []
unfolding with_fault
with_fault-last fault [] f = refl
with_fault-last fault (g ∷ []) f = refl
with_fault-last fault (g ∷ h ∷ fs) f = ap (λ fs. g ∷ fs) (with_fault-last fault (h ∷ fs) f)

pub faulted-none : (fault : FormatFault) → with_fault fault [] ≡ []
unfolding with_fault
faulted-none fault = refl

-- the same of the last of some entries
pub faulted-last : (fault : FormatFault) (rest : List Entry) (e : Entry) → map seen_by (rest ++ record e { fault = Some fault } ∷ []) ≡ with_fault fault (map seen_by (rest ++ e ∷ []))
faulted-last fault rest e = map-append seen_by rest _ ∙ sym (ap (with_fault fault) (map-append seen_by rest (e ∷ [])) ∙ with_fault-last fault (map seen_by rest) (seen_by e))

pub ruleset faulted = (faulted-none, faulted-last)

one-field : {A : Type 0} (p : Part A) → is_one p ≡ true → (size : ℕ) × IsField size p
one-field (done x) is = absurd cc
one-field (bytes n cut) is = (n, bytes-field n cut)
one-field (decoded decode encode p) is = let f = one-field p is in (f.0, decoded-field decode encode p f.0 f.1)
one-field (under step p) is = absurd cc
one-field (chain get p next) is = absurd cc

pub listed-decoded : {A B : Type 0} (len : ℕ) (before : List Seen) (steps : List Step) (decode : A → Result B FormatFault) (encode : B → A) (p : Part A) (from : Bytes) → is_one p ≡ true
    → listed len before steps (decoded decode encode p) from
    ≡ list_then (run p from) (listed len before steps p from) (λ x rest. list_answer (decode x) (listed len before steps p from))
unfolding listed seen run
listed-decoded len before steps decode encode p from is =
    let f = one-field p is in grind (arith, decoded-field decode encode p f.0 f.1 steps from, f.1 steps from, with_fault-last)

-- ---- a field that is read

-- what is kept of an outcome
abbrev pub content_in : {C : Type 0} → (C → Content) → Outcome C → Content
content_in content (Ok x) = content x.0
content_in content (Err e) = Cut

-- the part is one field in this place, of this many bytes, and the rules look at this content of its value
pub record IsFieldOf {C : Type 0} (place : Place) (size : ℕ) (q : Part C) (content : C → Content) : Type 0 where
  pub field : IsField size q
  pub matters : (from : Bytes)
      → cond (nat_lt (length from) size) (cut_content (steps_of place) from) (whole_content (steps_of place) size from) ≡ content_in content (run q from)

-- nothing is kept of a field in this place that is cut; this is kept of the bytes of a whole one
pub record Matters (place : Place) (n : ℕ) (content : Bytes → Content) : Type 0 where
  pub whole : (start : Bytes) → whole_content (steps_of place) n start ≡ content (take n start)
  pub cut : (start : Bytes) → cut_content (steps_of place) start ≡ Cut

matters-in : (place : Place) (n : ℕ) (cut : FormatFault) (content : Bytes → Content) (from : Bytes) → Matters place n content
    → cond (nat_lt (length from) n) (cut_content (steps_of place) from) (whole_content (steps_of place) n from) ≡ content_in content (run (bytes n cut) from)
unfolding run
matters-in place n cut content from is = grind (arith, leb-true, leb-false, le-ltb, lt-ltb, is.whole from, is.cut from)

pub bytes-listed : {place : Place} {n : ℕ} {content : Bytes → Content} (cut : FormatFault) → Matters place n content → IsFieldOf place n (bytes n cut) content
bytes-listed {place = place} {n = n} {content = content} cut is = record { field = bytes-field n cut; matters = λ from. matters-in place n cut content from is }

in-decoded : {A B : Type 0} (content : B → Content) (value : A → B) (o : Outcome A) → content_in (λ x. content (value x)) o ≡ content_in content (and_then o (λ x rest. with_rest (Ok (value x)) rest))
in-decoded content value (Ok x) = refl
in-decoded content value (Err e) = refl

pub number-matters : {place : Place} (w : Width) {content : ℕ → Content} → Matters place (byte_len w) (λ bs. content (from_be_bytes w bs)) → IsFieldOf place (byte_len w) (number w) content
unfolding run number
number-matters {place = place} w {content = content} is = record {
  field = decoded-field (λ digits. Ok (from_be_bytes w digits)) (to_be_bytes w) (bytes (byte_len w) HeaderTruncated) (byte_len w) (bytes-field (byte_len w) HeaderTruncated);
  matters = λ from. matters-in place (byte_len w) HeaderTruncated (λ bs. content (from_be_bytes w bs)) from is ∙ in-decoded content (from_be_bytes w) (run (bytes (byte_len w) HeaderTruncated) from);
}

-- what the rules look at in a field of this place
abbrev pub seen_at : Place → ℕ → ℕ → Content → Option FormatFault → Seen
seen_at place offset size content fault = record { steps = steps_of place; offset = offset; size = size; content = content; fault = fault }

pub listed-one : {C : Type 0} (len : ℕ) (before : List Seen) (place : Place) {size : ℕ} (q : Part C) {content : Content} (from : Bytes) {o : Outcome C} → IsField size q
    → cond (nat_lt (length from) size) (cut_content (steps_of place) from) (whole_content (steps_of place) size from) ≡ content → run q from ≡ o
    → listed len before (steps_of place) q from ≡ before ++ seen_at place (len - length from) size content (fault_in o) ∷ []
unfolding listed seen
listed-one len before place {size = size} q {content = content} from is matters e =
    ap (λ fs. before ++ map (seen len) fs) (is (steps_of place) from)
    ∙ ap (λ c. before ++ seen_at place (len - length from) size c (fault_in (run q from)) ∷ []) matters
    ∙ ap (λ o. before ++ seen_at place (len - length from) size content (fault_in o) ∷ []) e

module _ {S : Type 0} {g : Ghosts S} where
  -- what holds of a failure holds of a result that is it
  pub failed : {A : Type 0} {old new : Reader S g} {steps : List Step} {p : Part A} {e : HeadFault} {result : Result A HeadFault} → IsErrAnd result (λ y. y ≡ e) → Checked {A = A} old new steps p (Err e) → Checked old new steps p result
  failed {result = result} is c = let q = err_from_is_err_and result is in rw (q.1, q.2) c

  offset-left : (w : Window S g) → length (source_of w).bytes - length (left w) ≡ next_of w
  offset-left w = omega (arith, length-drop (next_of w) (source_of w).bytes, w.within, w.used)

  -- the field that begins at the next byte was listed, with this content and without a fault
  pub one-more : (old : Reader S g) (content : Content) {entries : List Entry} {place : Place} {n size : ℕ} {start : PendingField} → IsStart old.window place n start → n ≡ size
      → entries ≡ old.entries ++ entry_of start content ∷ []
      → map seen_by entries ≡ map seen_by old.entries ++ seen_at place (length (source_of old.window).bytes - length (left old.window)) size content None ∷ []
  one-more old content {start = start} s same is =
      ap (map seen_by) is ∙ map-append seen_by old.entries (entry_of start content ∷ [])
      ∙ rw (s.same_place, s.same_size, s.offset, same, offset-left old.window) refl

  -- a field of which all was read was listed
  pub listed-whole : {C : Type 0} {old : Reader S g} {window : Window S g} {cut entries : List Entry} {place : Place} {start : PendingField} {size n : ℕ} {q : Part C} {content : C → Content} {found : Content} {x : C}
      {read : Result C HeadFault}
      → IsFieldOf place size q content → IsStart old.window place n start → n ≡ size → Read old.window window q read → (read ≡ Ok x) × (cut ≡ old.entries)
      → found ≡ content x → entries ≡ cut ++ entry_of start found ∷ [] → Checked old (record { window = window; entries = entries }) (steps_of place) q (Ok x)
  listed-whole {old = old} {window = window} {start = start} {q = q} {content = content} {found = found} is s same r of_cut found_is more =
      let r = subst (λ a. Read old.window window q a) of_cut.0 r in
      record {
        kept = r.kept;
        cause = r.cause;
        reads = r.reads;
        lists = OnTrue_from g.is_transparent _
            (λ known.
            one-more old found s same (more ∙ ap (λ es. es ++ entry_of start found ∷ []) of_cut.1)
            ∙ sym (listed-one _ _ _ q (left old.window) is.field (is.matters (left old.window) ∙ ap (content_in content) (OnTrue_at known r.reads) ∙ sym found_is) (OnTrue_at known r.reads)));
      }

  -- memory ran out before it was listed
  pub listed-memory : {C : Type 0} {old : Reader S g} {window : Window S g} {entries : List Entry} {steps : List Step} {q : Part C} {read : Result C HeadFault} {x : C}
      → Read old.window window q read → read ≡ Ok x → Checked {A = C} old (record { window = window; entries = entries }) steps q (Err OutOfMemory)
  listed-memory {old = old} {window = window} {q = q} {x = x} r is =
      let r = subst (λ a. Read old.window window q a) is r in
      record {
        kept = r.kept;
        cause = r.cause;
        reads = OnTrue_from g.is_transparent _ (λ known. omega (arith, ap left_after (OnTrue_at known r.reads), left_after-ok _ x (left window)));
        lists = tt;
      }

  -- the source has ended inside of a field, or the device or memory has failed
  pub record Stopped {C : Type 0} (old now : Window S g) (q : Part C) (e : HeadFault) : Type 0 where
    pub kept : Kept old now
    pub cause : FailsOnly {A = C} old now (Err e)
    pub reads : Reads {A = C} g.is_transparent (left old) (left now) q (Err e)

  pub stopped : {C : Type 0} (old now : Window S g) (before after : List Entry) (start : PendingField) (q : Part C) (read : Result C HeadFault) (e : HeadFault)
      → Read old now q read → ListsCut {A = C} before after start read (Err e) → Stopped old now q e
  stopped old now before after start q read (Format f) r (is, more) = let r = subst (λ a. Read old now q a) is r in record { kept = r.kept; cause = r.cause; reads = r.reads }
  stopped old now before after start q read OutOfMemory r (inl is) = let r = subst (λ a. Read old now q a) is r in record { kept = r.kept; cause = r.cause; reads = r.reads }
  stopped {C = C} old now before after start q read OutOfMemory r (inr (f, is)) =
      let r = subst (λ a. Read old now q a) is r in
      record { kept = r.kept; cause = r.cause; reads = OnTrue_from g.is_transparent _ (λ known. omega (arith, ap left_after (OnTrue_at known r.reads), left_after-err C f (left now))) }
  stopped old now before after start q read ReadFailed r is = let r = subst (λ a. Read old now q a) is r in record { kept = r.kept; cause = r.cause; reads = r.reads }

  -- the field was listed as cut then
  pub listed-cut : {C : Type 0} {old : Reader S g} {window : Window S g} {entries : List Entry} {place : Place} {start : PendingField} {size n : ℕ} {q : Part C} {content : C → Content} {read : Result C HeadFault}
      {e : HeadFault}
      → IsFieldOf place size q content → IsStart old.window place n start → n ≡ size → Read old.window window q read → ListsCut {A = C} old.entries entries start read (Err e)
      → Checked {A = C} old (record { window = window; entries = entries }) (steps_of place) q (Err e)
  listed-cut {C = C} {old = old} {window = window} {entries = entries} {place = place} {start = start} {q = q} {content = content} {read = read} {e = e} is s same r of_cut =
      let stop = stopped old.window window old.entries entries start q read e r of_cut in record { kept = stop.kept; cause = stop.cause; reads = stop.reads; lists = by-fault e of_cut stop.reads }
    where
      by-fault : (e : HeadFault) → ListsCut {A = C} old.entries entries start read (Err e) → Reads {A = C} g.is_transparent (left old.window) (left window) q (Err e)
          → Lists {A = C} old (record { window = window; entries = entries }) (steps_of place) q (Err e)
      by-fault (Format f) of_cut reads =
          OnTrue_from g.is_transparent _
          (λ known.
          ap (with_fault f) (one-more old Cut s same of_cut.1) ∙ with_fault-last f _ _
          ∙ sym (listed-one _ _ _ q (left old.window) is.field (is.matters (left old.window) ∙ ap (content_in content) (OnTrue_at known reads)) (OnTrue_at known reads)))
      by-fault OutOfMemory of_cut reads = tt
      by-fault ReadFailed of_cut reads = tt

-- parts that are made of others, and one field whose value is judged
pub ruleset chain_lists = (run-done, run-under, run-chain, left_after-ok, left_after-err, after-chain, listed-done, listed-under, listed-chain)

pub ruleset part_lists = (run-decoded, after-decoded, left_after-ok, left_after-err, listed-decoded)
