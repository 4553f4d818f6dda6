-- Each field of a header has a place, to which the steps to the field lead. If reading stops, a field has the fault that it stops with.
use Rattle.nccheck_laws.proofs.Prelude.{FormatFault, Dim, Version, FloatingType, Bytes, padded_total, record_vars, Step, Part, done, bytes, decoded, under, chain, Dims, Gatts, Vars, Tag, Count, Item, Name, Shape, Atts, dimension_tag, variable_tag, dim_after, dimid_after, var_after, number, limited_part, offset_part, ignored, name_part, type_part, counted, list_head, list_part, each, dim_part, dim_list, att_part, att_list, dimid_part, shape_part, var_part, var_list, version_part, magic_part, numrecs_part, header_by, Outcome, and_then, run, Owner, FieldKind, steps_of, owner_steps, Field, fields, lenient, attribute_tag, att_after, Place, arith, ◌≡◌, ◌⊎◌, inr, ℕ, zero, suc, Bool, true, false, List, [], ◌∷◌, ◌++◌, length, Some, Ok, Err, refl}
use Rattle.nc_findings.specs.declared.place.Owner.TheVariants as owner
use Rattle.nc_findings.specs.declared.place.FieldKind.TheVariants as field
use Rattle.nccheck_laws.proofs.Leaves.{is_leaf, leaf-field}

-- ---- lists of fields

-- to each lead the steps of a place
abbrev pub ArePlaced : List Field → Type 0
ArePlaced [] = Unit {0}
ArePlaced (f ∷ fs) = ((p : Place) × (steps_of p ≡ f.steps)) × ArePlaced fs

placed-both : (fs gs : List Field) → ArePlaced fs → ArePlaced gs → ArePlaced (fs ++ gs)
placed-both [] gs p q = q
placed-both (f ∷ fs) gs p q = (p.0, placed-both fs gs p.1 q)

-- one has this fault
abbrev pub HasFault : FormatFault → List Field → Type 0
HasFault fault [] = ⊥
HasFault fault (f ∷ fs) = (f.fault ≡ Some fault) ⊎ HasFault fault fs

fault-right : (fault : FormatFault) (fs gs : List Field) → HasFault fault gs → HasFault fault (fs ++ gs)
fault-right fault [] gs h = h
fault-right fault (f ∷ fs) gs h = inr (fault-right fault fs gs h)

-- ---- parts

abbrev pub is_floating_fault : FormatFault → Bool
is_floating_fault FloatingType = true
is_floating_fault fault = false

-- nor is it ever the fault of a part that is one field
abbrev NeverFloats : {A : Type 0} → Part A → Type 0
NeverFloats (bytes n cut) = is_floating_fault cut ≡ false
NeverFloats (decoded {A = A} decode encode p) =
    ((x : A) (fault : FormatFault) → decode x ≡ Err fault → is_floating_fault fault ≡ false) × NeverFloats p
NeverFloats p = ⊥

-- one field in a place
abbrev IsPlaced : {A : Type 0} → List Step → Part A → Type 0
IsPlaced steps p = ((place : Place) × (steps_of place ≡ steps)) × (is_leaf p ≡ true) × NeverFloats p

-- to each of a part's fields under these steps lead those of a place
abbrev Placed : {A : Type 0} → List Step → Part A → Type 0
Placed steps (done x) = Unit {0}
Placed steps (bytes n cut) = IsPlaced steps (bytes n cut)
Placed steps (decoded decode encode p) = IsPlaced steps (decoded decode encode p)
Placed steps (under step p) = Placed (step ∷ steps) p
Placed steps (chain {A = A} get p next) = Placed steps p × ((x : A) → Placed steps (next x))

-- if reading stops, then not at a floating type
abbrev NoFloat : {A : Type 0} → Outcome A → Type 0
NoFloat (Ok x) = Unit {0}
NoFloat (Err e) = is_floating_fault e.0 ≡ false

leaf-plain : {A : Type 0} (p : Part A) (from : Bytes) → NeverFloats p → NoFloat (run p from)
unfolding run
leaf-plain (bytes n cut) from never = grind arith
leaf-plain (decoded decode encode p) from never = grind (arith, leaf-plain p from never.1)
leaf-plain p from never = absurd never

-- if reading stops, a field has its fault, which isn't that of a floating type
abbrev pub Shows : {A : Type 0} → Outcome A → List Field → Type 0
Shows (Ok x) fs = Unit {0}
Shows (Err e) fs = HasFault e.0 fs × (is_floating_fault e.0 ≡ false)

-- these fields of a part that is read so
abbrev AreShown : {A : Type 0} → Outcome A → List Field → Type 0
AreShown o fs = ArePlaced fs × Shows o fs

leaf-shown : {A : Type 0} (steps : List Step) (p : Part A) (from : Bytes) → IsPlaced steps p → AreShown (run p from) (fields steps p from)
leaf-shown {A = A} steps p from (place, leaf, never) = rw (leaf-field p leaf steps from) ((place, tt), grind (arith, leaf-plain p from never))

chain-shown : {A B : Type 0} (o : Outcome A) (fs : List Field) (next : A → Bytes → Outcome B) (more : A → Bytes → List Field)
    → AreShown o fs → ((x : A) (rest : Bytes) → AreShown (next x rest) (more x rest))
    → AreShown (and_then o next) (elim o as (λ o. List Field) [ Ok x ↦ fs ++ more x.0 x.1 | Err e ↦ fs ])
chain-shown (Ok x) fs next more shown go = grind (arith, placed-both, fault-right)
chain-shown (Err e) fs next more shown go = shown

shown : {A : Type 0} (steps : List Step) (p : Part A) (from : Bytes) → Placed steps p → AreShown (run p from) (fields steps p from)
unfolding run fields
shown steps (done x) from placed = (tt, tt)
shown steps (bytes n cut) from placed = leaf-shown steps (bytes n cut) from placed
shown steps (decoded decode encode p) from placed = leaf-shown steps (decoded decode encode p) from placed
shown steps (under step p) from placed = shown (step ∷ steps) p from placed
shown steps (chain get p next) from placed =
    chain-shown (run p from) (fields steps p from) (λ x rest. run (next x) rest) (λ x rest. fields steps (next x) rest)
    (shown steps p from placed.0) (λ x rest. shown steps (next x) rest (placed.1 x))

-- ---- the parts of a header

-- a part, and what follows it
chained : {P Q : Type 0} → P → Q → P × Q
chained one more = (one, more)

abbrev at : FieldKind → Owner → Place
at n o = record { owner = o; field = n }

placed-name : (v : Version) (o : Owner) → Placed (Name ∷ owner_steps o) (name_part lenient v)
unfolding name_part limited_part number ignored
placed-name v o =
    chained ((at field.NameLength o, refl), refl, grind arith)
    (λ n. chained ((at field.Name o, refl), refl, grind arith)
    (λ text. chained ((at field.NamePadding o, refl), refl, grind arith) (λ padding. tt)))

placed-each : {A : Type 0} (steps : List Step) (element : List A → Part A)
    → ((before : List A) (k : ℕ) → Placed (Item k ∷ steps) (element before)) → (n : ℕ) (before : List A)
    → Placed steps (each element n before)
unfolding each
placed-each steps element one zero before = tt
placed-each steps element one (suc n) before = (one before (length before), λ x. placed-each steps element one n (before ++ x ∷ []))

placed-list : {A : Type 0} (v : Version) (tag : ℕ) (steps : List Step) (element : List A → Part A) (tags counts : Place)
    → steps_of tags ≡ Tag ∷ steps → steps_of counts ≡ Count ∷ steps
    → ((before : List A) (k : ℕ) → Placed (Item k ∷ steps) (element before)) → Placed steps (list_part v tag element)
unfolding list_part list_head limited_part number
placed-list v tag steps element tags counts tag_at count_at one =
    ((((tags, tag_at), refl, grind arith), λ found. ((counts, count_at), refl, grind arith)), λ n. placed-each steps element one n [])

placed-dims : (v : Version) → Placed (Dims ∷ []) (dim_list lenient v)
unfolding dim_list dim_part limited_part number
placed-dims v =
    placed-list v dimension_tag (Dims ∷ []) (dim_after lenient v) (at field.DimsTag owner.Header) (at field.DimsCount owner.Header) refl refl
    (λ before i. (placed-name v (owner.Dim i), λ text. (((at field.Length (owner.Dim i), refl), refl, grind arith), λ len. tt)))

placed-att : (v : Version) (o : Owner) → Placed (owner_steps o) (att_part lenient v)
unfolding att_part type_part limited_part number ignored
placed-att v o =
    chained (placed-name v o)
    (λ text. chained ((at field.Type o, refl), refl, grind arith)
    (λ ty. chained ((at field.Count o, refl), refl, grind arith)
    (λ n. chained ((at field.Values o, refl), refl, grind arith)
    (λ vals. chained ((at field.Padding o, refl), refl, grind arith) (λ padding. tt)))))

placed-var : (v : Version) (dims : List Dim) (total i : ℕ) → Placed (Item i ∷ Vars ∷ []) (var_part lenient v dims total)
unfolding var_part shape_part counted dimid_part att_list type_part offset_part limited_part number
placed-var v dims total i =
    let o = owner.Var i in
    chained (placed-name v o)
    (λ text. chained
    (chained ((at field.Rank o, refl), refl, grind arith)
    (λ n. placed-each (Shape ∷ Item i ∷ Vars ∷ []) (dimid_after v dims)
    (λ before k. ((at (field.DimId k) o, refl), refl, grind arith)) n []))
    (λ ids. chained
    (placed-list v attribute_tag (Atts ∷ Item i ∷ Vars ∷ []) (att_after lenient v) (at field.AttsTag o) (at field.AttsCount o) refl refl
    (λ before k. placed-att v (owner.VarAtt i k)))
    (λ atts. chained ((at field.Type o, refl), refl, grind arith)
    (λ ty. chained ((at field.Vsize o, refl), refl, grind arith)
    (λ vsize. chained ((at field.Begin o, refl), refl, grind arith) (λ begin. tt))))))

whole-header : Placed [] (header_by lenient)
unfolding header_by magic_part version_part numrecs_part att_list var_list number
whole-header =
    let o = owner.Header in
    chained (chained ((at field.Magic o, refl), refl, grind arith) (λ letters. ((at field.Version o, refl), refl, grind arith)))
    (λ v. chained ((at field.NumRecs o, refl), refl, grind arith)
    (λ numrecs. chained (placed-dims v)
    (λ dims. chained
    (placed-list v attribute_tag (Gatts ∷ []) (att_after lenient v) (at field.GlobalAttsTag o) (at field.GlobalAttsCount o) refl refl
    (λ before k. placed-att v (owner.GlobalAtt k)))
    (λ gatts. chained
    (placed-list v variable_tag (Vars ∷ []) (var_after lenient v dims) (at field.VarsTag o) (at field.VarsCount o) refl refl
    (λ before k. placed-var v dims (padded_total dims (record_vars dims before)) k))
    (λ vars. tt)))))

pub placed-header : (from : Bytes) → ArePlaced (fields [] (header_by lenient) from)
placed-header from = (shown [] (header_by lenient) from whole-header).0

pub shown-faults : (from : Bytes) → Shows (run (header_by lenient) from) (fields [] (header_by lenient) from)
shown-faults from = (shown [] (header_by lenient) from whole-header).1
