-- The fields of a header that is spelled are whole, and those that are the sizes of variables stand there in the order of the variables.
use Rattle.nccheck_laws.proofs.Prelude.{common_steps, Dim, Var, Header, Version, Bytes, Step, Part, done, bytes, decoded, under, chain, Spells, Dims, Gatts, Vars, Item, Vsize, dim_after, att_after, dimid_after, var_after, number, limited_part, offset_part, ignored, name_part, type_part, each, counted, list_head, list_part, dim_part, dim_list, att_part, att_list, dimid_part, shape_part, var_part, var_list, version_part, magic_part, numrecs_part, header_by, Field, fields, Rules, ◌≡◌, ℕ, suc, zero, ◌+◌, Bool, true, false, nat_lt, List, [], ◌∷◌, ◌++◌, length, None, refl, sym, ap, ◌∙◌, subst, arith, length-append, append_assoc, append-nil}
use Rattle.nccheck_laws.proofs.Written.{bytes-fields, decoded-fields, chain-fields}

-- ---- whole fields

pub record IsWhole (f : Field) : Type 0 where
  pub whole : nat_lt (length f.start) f.size ≡ false
  pub sound : f.fault ≡ None

abbrev pub AreWhole : List Field → Type 0
AreWhole [] = Unit {0}
AreWhole (f ∷ fs) = IsWhole f × AreWhole fs

both-whole : (fs more : List Field) → AreWhole fs → AreWhole more → AreWhole (fs ++ more)
both-whole [] more w v = v
both-whole (f ∷ fs) more w v = (w.0, both-whole fs more w.1 v)

pub spelled-whole : {A : Type 0} (steps : List Step) (p : Part A) (from : Bytes) (x : A) (rest : Bytes) → Spells p from x rest
    → AreWhole (fields steps p from)
unfolding Spells fields
spelled-whole steps (done x) from y rest s = tt
spelled-whole steps (bytes n cut) from content rest (count, is) = grind (arith, common_steps, bytes-fields)
spelled-whole steps (decoded decode encode p) from y rest (x, s, e) =
    subst AreWhole (sym (decoded-fields steps decode encode p from x y rest s e)) (spelled-whole steps p from x rest s)
spelled-whole steps (under step p) from x rest s = spelled-whole (step ∷ steps) p from x rest s
spelled-whole steps (chain get p next) from y rest (x, middle, s, t) =
    subst AreWhole (sym (chain-fields steps get p next from x middle s))
    (both-whole (fields steps p from) (fields steps (next x) middle) (spelled-whole steps p from x middle s)
    (spelled-whole steps (next x) middle y rest t))

-- ---- the order of the sizes of variables

abbrev pub is_vsize_at : List Step → Bool
is_vsize_at (Vsize ∷ steps) = true
is_vsize_at steps = false

-- a field with these steps that is the size of a variable is that of the one at this index, and then P holds of the next index; after any
-- other field it holds of this one
abbrev pub Counts : Bool → ℕ → List Step → (ℕ → Type 0) → Type 0
Counts true k steps P = (steps ≡ Vsize ∷ Item k ∷ Vars ∷ []) × P (k + 1)
Counts false k steps P = P k

-- the sizes of variables among these fields are in order, from the variable at this index on
abbrev pub AreNumbered : ℕ → List Field → Type 0
AreNumbered k [] = Unit {0}
AreNumbered k (f ∷ fs) = Counts (is_vsize_at f.steps) k f.steps (λ k. AreNumbered k fs)

-- so they are among the fields of a part, and P holds of the index of the variable that follows
abbrev Numbers : {A : Type 0} → List Step → Part A → ℕ → (ℕ → Type 0) → Type 0
Numbers steps (done x) k P = P k
Numbers steps (bytes n cut) k P = Counts (is_vsize_at steps) k steps P
Numbers steps (decoded decode encode p) k P = Numbers steps p k P
Numbers steps (under step p) k P = Numbers (step ∷ steps) p k P
Numbers steps (chain {A = A} get p next) k P = Numbers steps p k (λ k. (x : A) → Numbers steps (next x) k P)

counted-on : (b : Bool) (k : ℕ) (steps : List Step) (P Q : ℕ → Type 0) → Counts b k steps P → ((k : ℕ) → P k → Q k) → Counts b k steps Q
counted-on true k steps P Q c go = (c.0, go (k + 1) c.1)
counted-on false k steps P Q c go = go k c

numbered : {A : Type 0} (steps : List Step) (p : Part A) (from : Bytes) (y : A) (rest : Bytes) (k : ℕ) (P : ℕ → Type 0) (more : List Field)
    → Spells p from y rest → Numbers steps p k P → ((k : ℕ) → P k → AreNumbered k more) → AreNumbered k (fields steps p from ++ more)
unfolding Spells fields
numbered steps (done x) from y rest k P more s n go = go k n
numbered steps (bytes n cut) from y rest k P more s c go = counted-on (is_vsize_at steps) k steps P (λ k. AreNumbered k more) c go
numbered steps (decoded decode encode p) from y rest k P more (x, s, e) n go =
    subst (λ fs. AreNumbered k (fs ++ more)) (sym (decoded-fields steps decode encode p from x y rest s e))
    (numbered steps p from x rest k P more s n go)
numbered steps (under step p) from y rest k P more s n go = numbered (step ∷ steps) p from y rest k P more s n go
numbered steps (chain {A = A} get p next) from y rest k P more (x, middle, s, t) n go =
    let later = fields steps (next x) middle in
    subst (λ fs. AreNumbered k (fs ++ more)) (sym (chain-fields steps get p next from x middle s))
    (subst (AreNumbered k) (sym (append_assoc (fields steps p from) later more))
    (numbered steps p from x middle k (λ k. (x : A) → Numbers steps (next x) k P) (later ++ more) s n
    (λ k m. numbered steps (next x) middle y rest k P more t (m x) go)))

-- ---- the parts of a header

pass-each : {A : Type 0} (steps : List Step) (element : List A → Part A)
    → ((before : List A) (i k : ℕ) (P : ℕ → Type 0) → P k → Numbers (Item i ∷ steps) (element before) k P)
    → (n : ℕ) (before : List A) (k : ℕ) (P : ℕ → Type 0) → P k → Numbers steps (each element n before) k P
unfolding each
pass-each steps element one zero before k P p = p
pass-each {A = A} steps element one (suc n) before k P p =
    one before (length before) k (λ k. (x : A) → Numbers steps (each element n (before ++ x ∷ [])) k P)
    (λ x. pass-each steps element one n (before ++ x ∷ []) k P p)

pass-dims : (r : Rules) (v : Version) (steps : List Step) (k : ℕ) (P : ℕ → Type 0) → P k → Numbers steps (dim_list r v) k P
unfolding dim_list dim_part list_part list_head name_part limited_part number ignored
pass-dims r v steps k P p =
    λ tag n. pass-each steps (dim_after r v) (λ before i k P p. λ len text padding name dim_len. p) n [] k P p

pass-atts : (r : Rules) (v : Version) (steps : List Step) (k : ℕ) (P : ℕ → Type 0) → P k → Numbers steps (att_list r v) k P
unfolding att_list att_part list_part list_head name_part type_part limited_part number ignored
pass-atts r v steps k P p =
    λ tag n. pass-each steps (att_after r v) (λ before i k P p. λ len text padding name ty count vals filling. p) n [] k P p

pass-shape : (v : Version) (dims : List Dim) (steps : List Step) (k : ℕ) (P : ℕ → Type 0) → P k → Numbers steps (shape_part v dims) k P
unfolding shape_part counted dimid_part limited_part number
pass-shape v dims steps k P p = λ n. pass-each steps (dimid_after v dims) (λ before i k P p. p) n [] k P p

number-vars : (r : Rules) (v : Version) (dims : List Dim) (P : ℕ → Type 0) → ((k : ℕ) → P k) → (n k : ℕ) (before : List Var)
    → length before ≡ k → Numbers (Vars ∷ []) (each (var_after r v dims) n before) k P
unfolding each var_part name_part type_part offset_part limited_part number ignored
number-vars r v dims P end zero k before count = end k
number-vars r v dims P end (suc n) k before count = λ len text padding name.
    pass-shape v dims _ k _ (λ ids. pass-atts r v _ k _ (λ atts ty. (
      ap (λ i. Vsize ∷ Item i ∷ Vars ∷ []) count,
      λ vsize begin x.
          number-vars r v dims P end n (k + 1) (before ++ x ∷ []) (length-append before (x ∷ []) ∙ ap (λ k. k + 1) count),
    )))

-- the sizes of variables stand in a header in the order of the variables
pub header-numbered : (r : Rules) (from : Bytes) (h : Header) (rest : Bytes) → Spells (header_by r) from h rest
    → AreNumbered 0 (fields [] (header_by r) from)
unfolding header_by magic_part version_part numrecs_part number var_list list_part list_head limited_part
header-numbered r from h rest s =
    subst (AreNumbered 0) (append-nil (fields [] (header_by r) from))
    (numbered [] (header_by r) from h rest 0 (λ k. Unit {0}) [] s
    (λ letters v numrecs. pass-dims r v (Dims ∷ []) 0 _ (λ dims. pass-atts r v (Gatts ∷ []) 0 _
    (λ gatts tag n. number-vars r v dims (λ k. (vars : List Var) → Unit {0}) (λ k vars. tt) n 0 [] refl)))
    (λ k p. tt))
