-- The first entry of a listing that the strict rules refuse.
use Rattle.nccheck_laws.proofs.Prelude.{All-nil, All-cons, FormatFault, Bytes, Entry, Field, seen, Seen, seen_by, steps_of, refusal_in, first_refusal, length-drop, refusal, le_trans, ◌≡◌, ℕ, ◌-◌, ◌≤◌, List, [], ◌∷◌, ◌++◌, length, map, drop, Option, Some, None, refl, sym, ap, ◌∙◌, subst, arith, All, common_steps}
use Rattle.nccheck_laws.proofs.Agreement.{first_of}
use Rattle.nccheck_laws.proofs.FieldOrder.{Descend}

-- why the strict rules refuse an entry
abbrev pub refusal_of : Entry → Option FormatFault
refusal_of e = refusal_in e.size e.content (steps_of e.place) e.fault

-- ---- an entry is refused as its field is

same-refusal : (len : ℕ) (f : Field) (e : Entry) → seen_by e ≡ seen len f → refusal_of e ≡ refusal f
unfolding seen
same-refusal len f e is = grind (arith, common_steps)

same-offset : (len : ℕ) (f : Field) (e : Entry) → seen_by e ≡ seen len f → e.offset ≡ len - length f.start
unfolding seen
same-offset len f e is = ap (λ (s : Seen). s.offset) is

-- ---- all of them

-- these entries are those of these fields
abbrev pub AreEntriesOf : ℕ → List Field → List Entry → Type 0
AreEntriesOf len fs es = map seen_by es ≡ map (seen len) fs

-- none is refused
pub none-refused : (len : ℕ) (fs : List Field) (es : List Entry) → AreEntriesOf len fs es → first_refusal fs ≡ None
    → All (λ (e : Entry). refusal_of e ≡ None) es
none-refused len fs [] is none = All-nil (λ (e : Entry). refusal_of e ≡ None)
none-refused len [] (e ∷ es) is none = absurd cc
none-refused len (f ∷ fs) (e ∷ es) is none = grind (arith, common_steps, same-refusal, none-refused len fs es (cc) (grind arith))

-- entries after a field begin after it
later : (len top bottom : ℕ) (fs : List Field) (es : List Entry) → AreEntriesOf len fs es → Descend top bottom fs
    → All (λ (e : Entry). len - top ≤ e.offset) es
later len top bottom fs [] is d = All-nil (λ (e : Entry). len - top ≤ e.offset)
later len top bottom [] (e ∷ es) is d = absurd cc
later len top bottom (f ∷ fs) (e ∷ es) is d =
    let others = later len (length f.start) bottom fs es (cc) d.1 in
    let at = same-offset len f e (cc) in
    All-cons (λ (e : Entry). len - top ≤ e.offset) e es (omega (arith, at, d.0)) (λ k x lt. omega (arith, others k x lt, d.0))

-- the rest after an entry, in a file of this length, which may end inside of it
pub record Ends (len : ℕ) (e : Entry) (rest : Bytes) : Type 0 where
  pub within : e.offset ≤ len
  pub left : length rest ≡ len - e.offset - e.size

-- the first entry that is refused, those before it, and those after it, which don't begin before it
pub record FirstRefused (len : ℕ) (es : List Entry) (fault : FormatFault) (rest : Bytes) : Type 0 where
  pub front : List Entry
  pub entry : Entry
  pub back : List Entry
  pub is : es ≡ front ++ entry ∷ back
  pub before : All (λ (e : Entry). refusal_of e ≡ None) front
  pub refused : refusal_of entry ≡ Some fault
  pub after : All (λ (e : Entry). entry.offset ≤ e.offset) back
  pub ends : Ends len entry rest

by-refusal : (len : ℕ) (f : Field) (e : Entry) (es : List Entry) (fault : FormatFault) (rest : Bytes) (o : Option FormatFault)
    (others : Option (FormatFault × Bytes)) → refusal_of e ≡ o → first_of f o others ≡ Some (fault, rest)
    → All (λ (x : Entry). e.offset ≤ x.offset) es → Ends len e (drop f.size f.start)
    → (others ≡ Some (fault, rest) → FirstRefused len es fault rest) → FirstRefused len (e ∷ es) fault rest
by-refusal len f e es fault rest (Some found) others is refused after ends go =
    let pair : (found, drop f.size f.start) ≡ (fault, rest) = cc in
    record {
      front = [];
      entry = e;
      back = es;
      is = refl;
      before = All-nil (λ (e : Entry). refusal_of e ≡ None);
      refused = is ∙ ap (λ (p : FormatFault × Bytes). Some p.0) pair;
      after = after;
      ends = subst (Ends len e) (ap (λ (p : FormatFault × Bytes). p.1) pair) ends;
    }
by-refusal len f e es fault rest None others is refused after ends go =
    let r = go refused in
    record {
      front = e ∷ r.front;
      entry = r.entry;
      back = r.back;
      is = ap (λ es. e ∷ es) r.is;
      before = All-cons (λ (e : Entry). refusal_of e ≡ None) e r.front is r.before;
      refused = r.refused;
      after = r.after;
      ends = r.ends;
    }

pub first-refused : (len top bottom : ℕ) (fs : List Field) (es : List Entry) (fault : FormatFault) (rest : Bytes) → AreEntriesOf len fs es
    → top ≤ len → Descend top bottom fs → first_refusal fs ≡ Some (fault, rest) → FirstRefused len es fault rest
unfolding seen
first-refused len top bottom [] es fault rest is le d refused = absurd cc
first-refused len top bottom (f ∷ fs) [] fault rest is le d refused = absurd cc
first-refused len top bottom (f ∷ fs) (e ∷ es) fault rest is le d refused =
    let same : seen_by e ≡ seen len f = cc in
    let others : AreEntriesOf len fs es = cc in
    let within = le_trans d.0 le in
    by-refusal len f e es fault rest (refusal f) (first_refusal fs) (same-refusal len f e same) refused
    (subst (λ n. All (λ (x : Entry). n ≤ x.offset) es) (sym (same-offset len f e same))
    (later len (length f.start) bottom fs es others d.1))
    (grind (arith, common_steps, length-drop, same-offset))
    (first-refused len (length f.start) bottom fs es fault rest others within d.1)
