-- A header is spelled as it is written exactly if its fields are as they are written.
use Rattle.nccheck_laws.proofs.Prelude.{Text, attribute_tag, att_after, is_name, BadName, HeaderTruncated, nat_tests, common_steps, w32, FormatFault, Dim, Var, Header, Version, BadCount, Bytes, count_width, padded_size, Step, Part, under, Spells, Tag, Count, Item, Vsize, strict, checked, variable_tag, dimid_after, var_after, vsize_of, header_part, number, limited_part, offset_part, name_part, type_part, each, counted, list_head, list_part, dim_part, dim_list, att_part, att_list, dimid_part, shape_part, var_part, var_list, version_part, magic_part, numrecs_part, header_by, Field, fields, AreWritten, bytes_eq, Att, NcType, TooLarge, count_limit, is_within_limits, count_part, first, drop-append_seam, mul-div_cancel, NumRecs, BadTag, code_of, type_in, WrittenFieldsAreCanonical, done, bytes, decoded, chain, Padding, ignored, AreBytes, print, IsPrintable, printed, Width, to_be_bytes, has_nonzero, SpellsHeader, header_fields, lenient, without_values, header_spelling, header-printable, CanonicalFieldsAreWritten, ◌≡◌, ℕ, suc, zero, ◌==◌, ◌||◌, not, Bool, true, false, List, [], ◌∷◌, ◌++◌, length, take, drop, Some, Ok, refl, sym, ap, ◌∙◌, subst, arith, append_assoc, append-nil, codes, if◌then◌else◌, slice_get, eqb-true, replicate}
use lib.ListN.{length-replicate}
use Rattle.nc_types.specs.Bytes.{padding_len}
use Rattle.std.proofs.lemmas.Slice.Eq.{bytes_eq-Decides}
use Rattle.nc_base.proofs.SoundLaws.{some_size}
use Rattle.nc_base.proofs.SoundSpelling.{passed, spelled-sound}
use Rattle.nccheck_laws.proofs.StrictHeaders.{strict-fields, strict-headers}
use Rattle.nccheck_laws.proofs.Vsizes.{spelled-whole}
use Rattle.nccheck_laws.proofs.Spellings.{odd_padding, odd_list, any_odd, IsSized, AreSized, are-written}
use Rattle.nccheck_laws.proofs.Written.{whole_field, at-start, bytes-fields, decoded-fields, chain-fields, first-written, later-written, first-bytes, later-bytes, IsWidth, is-width-32, is-width-count, is-width-offset}
use Rattle.nccheck_laws.proofs.Leaves.{leaf-spelled}
use Rattle.nccheck_laws.proofs.IndexedSlots.{at-middle}

-- ---- parts

-- Nothing is odd in these fields, and the sizes of variables are as they are written in this header; so they are as they are written. (Of a
-- tag `IsWritten` says something only if the field after it is a count. In a header it always is.)
abbrev pub AreCanonical : Header → List Field → Type 0
AreCanonical h fs = (any_odd fs ≡ false) × AreSized h fs

-- so are those of a part that these fields follow, if it is spelled as it is written
abbrev IsShown : {A : Type 0} → Header → List Field → List Step → Part A → Bytes → A → Bytes → Type 0
IsShown h next steps p from y rest =
    from ≡ print p y ++ rest → (after : List Field) → AreCanonical h (next ++ after) → AreCanonical h (fields steps p from ++ (next ++ after))

-- all other fields always are
abbrev Shows : {A : Type 0} → Header → List Field → List Step → Part A → Bytes → A → Bytes → Type 0
Shows h next (Tag ∷ steps) p from y rest = IsShown h next (Tag ∷ steps) p from y rest
Shows h next (Padding ∷ steps) p from y rest = IsShown h next (Padding ∷ steps) p from y rest
Shows h next (Vsize ∷ steps) p from y rest = IsShown h next (Vsize ∷ steps) p from y rest
Shows h next steps p from y rest = Unit {0}

-- A part, which these fields follow, is written as it was spelled exactly if its fields are as they are written: each value that is read is
-- the one that is written, if the fields there are; and where it is, they are.
abbrev IsKept : {A : Type 0} → Header → List Field → List Step → Part A → Bytes → A → Bytes → Type 0
IsKept h next steps (done x) from y rest = Unit {0}
IsKept h next steps (bytes n cut) from content rest = Unit {0}
IsKept h next steps (decoded {A = A} decode encode p) from y rest =
    (x : A) → Spells p from x rest → decode x ≡ Ok y
    → IsKept h next steps p from x rest × (AreBytes from → AreWritten h (fields steps p from) → encode y ≡ x)
IsKept h next steps (under step p) from x rest = IsKept h next (step ∷ steps) p from x rest × Shows h next (step ∷ steps) p from x rest
IsKept h next steps (chain {A = A} get p later) from y rest =
    (x : A) (middle : Bytes) → Spells p from x middle → Spells (later x) middle y rest
    → (AreWritten h (fields steps p from ++ fields steps (later x) middle) → get y ≡ Some x)
    × (get y ≡ Some x → IsKept h (fields steps (later x) middle) steps p from x middle × IsKept h next steps (later x) middle y rest)

kept : {A : Type 0} (h : Header) (next : List Field) (steps : List Step) (p : Part A) (from : Bytes) (y : A) (rest : Bytes)
    → Spells p from y rest → IsKept h next steps p from y rest → AreBytes from → AreWritten h (fields steps p from) → from ≡ print p y ++ rest
unfolding Spells print fields
kept h next steps (done x) from y rest s k are w = sym s.1
kept h next steps (bytes n cut) from content rest s k are w = s.1
kept h next steps (decoded decode encode p) from y rest (x, s, e) k are w =
    let here = subst (AreWritten h) (decoded-fields steps decode encode p from x y rest s e) w in
    let one = k x s e in
    kept h next steps p from x rest s one.0 are here ∙ ap (λ x. print p x ++ rest) (sym (one.1 are here))
kept h next steps (under step p) from x rest s k are w = kept h next (step ∷ steps) p from x rest s k.0 are w
kept h next steps (chain {A = A} get p later) from y rest (x, middle, s, t) k are w =
    let both = subst (AreWritten h) (chain-fields steps get p later from x middle s) w in
    let got = (k x middle s t).0 both in
    let one = (k x middle s t).1 got in
    let front : from ≡ print p x ++ middle = kept h _ steps p from x middle s one.0 are (first-written h _ _ both) in
    let back : middle ≡ print (later x) y ++ rest =
    kept h next steps (later x) middle y rest t one.1 (later-bytes (print p x) middle (subst AreBytes front are)) (later-written h _ _ both) in
    front ∙ ap (λ bs. print p x ++ bs) back ∙ rw got (sym (append_assoc (print p x) (print (later x) y) rest))

-- fields under these steps always are as they are written
abbrev IsPlain : Header → List Step → Type 0
IsPlain h steps = (f : Field) (after : List Field) → (odd_padding steps f ≡ false) × (odd_list steps f after ≡ false) × IsSized h steps f

canonical : {A : Type 0} (h : Header) (next : List Field) (steps : List Step) (p : Part A) (from : Bytes) (y : A) (rest : Bytes)
    → IsPlain h steps → IsKept h next steps p from y rest → IsPrintable p y → IsShown h next steps p from y rest
unfolding print fields
canonical h next steps (done x) from y rest plain k good is after w = w
canonical h next steps (bytes n cut) from content rest plain k good is after w =
    let one = plain (whole_field steps from n) (next ++ after) in
    subst (λ fs. AreCanonical h (fs ++ (next ++ after))) (sym (bytes-fields steps n cut from content rest good is)) (grind arith)
canonical h next steps (decoded decode encode p) from y rest plain k (good, e) is after w =
    let s = subst (λ bs. Spells p bs (encode y) rest) (sym is) (printed p (encode y) rest good) in
    subst (λ fs. AreCanonical h (fs ++ (next ++ after))) (sym (decoded-fields steps decode encode p from (encode y) y rest s e))
    (canonical h next steps p from (encode y) rest plain (k (encode y) s e).0 good is after w)
canonical h next steps (under step p) from x rest plain k good is after w =
    by-step step k.1 (λ plain. canonical h next (step ∷ steps) p from x rest plain k.0 good is after w)
  where
    by-step : (step : Step) → Shows h next (step ∷ steps) p from x rest
        → (IsPlain h (step ∷ steps) → AreCanonical h (fields (step ∷ steps) p from ++ (next ++ after)))
        → AreCanonical h (fields (step ∷ steps) p from ++ (next ++ after))
    by-step Tag shows go = shows is after w
    by-step Padding shows go = shows is after w
    by-step Vsize shows go = shows is after w
    by-step step shows go = go (λ f after. (refl, refl, tt))
canonical h next steps (chain get p later) from y rest plain k (x, got, good, more) is after w =
    let back = print (later x) y ++ rest in
    let front : from ≡ print p x ++ back = is ∙ rw got (append_assoc (print p x) (print (later x) y) rest) in
    let s = subst (λ bs. Spells p bs x back) (sym front) (printed p x back good) in
    let one = (k x back s (printed (later x) y rest more)).1 got in
    subst (λ fs. AreCanonical h (fs ++ (next ++ after))) (sym (chain-fields steps get p later from x back s))
    (subst (AreCanonical h) (sym (append_assoc (fields steps p from) (fields steps (later x) back) (next ++ after)))
    (canonical h _ steps p from x back plain one.0 good front (next ++ after)
    (canonical h next steps (later x) back y rest plain one.1 more refl after w)))

-- ---- numbers and padding

kept-number : (h : Header) (next : List Field) (steps : List Step) (w : Width) (from : Bytes) (n : ℕ) (rest : Bytes) → IsWidth w
    → IsKept h next steps (number w) from n rest
unfolding Spells number
kept-number h next steps w from n rest wide digits (count, is) e =
    (tt, λ are written. ap (to_be_bytes w) (sym (cc)) ∙ wide digits (first-bytes digits rest (subst AreBytes is are)) count)

no-nonzero : (n : ℕ) → has_nonzero (replicate n 0) ≡ false
no-nonzero zero = refl
no-nonzero (suc n) = no-nonzero n

-- what is ignored, and is written as zeros
kept-ignored : (h : Header) (next : List Field) (steps : List Step) (n : ℕ) (from : Bytes) (u : Unit {0}) (rest : Bytes)
    → Spells (ignored n) from u rest → IsKept h next steps (under Padding (ignored n)) from u rest
unfolding Spells fields ignored print
kept-ignored h next steps n from u rest s = (
  λ content s e. (tt, λ are written. sym (sym (at-start content rest n s.0) ∙ ap (take n) (sym s.1) ∙ written.0)),
  λ is after w.
      let f = leaf-spelled (Padding ∷ steps) (ignored n) from u rest refl s in
      let zeros = ap has_nonzero (ap (take n) is ∙ at-start (replicate n 0) rest n (length-replicate n 0)) ∙ no-nonzero n in
      subst (λ fs. AreCanonical h (fs ++ (next ++ after))) (sym f.listed) (grind arith),
)

-- ---- values that pass a test

-- what is got of the whole, a part under a step that says nothing else of it, and what follows
chained : {P Q R S : Type 0} → P → R → S → P × (Q → (R × Unit {0}) × S)
chained got one more = (got, λ is. ((one, tt), more))

kept-checked : {A : Type 0} (h : Header) (next : List Field) (steps : List Step) (test : A → Bool) (fault : FormatFault) (p : Part A)
    (from : Bytes) (y : A) (rest : Bytes) → ((x : A) → IsKept h next steps p from x rest)
    → IsKept h next steps (checked test fault p) from y rest
kept-checked h next steps test fault p from y rest k x s e = (k x, λ are w. sym (passed (test x) x y fault e).1)

kept-limited : (h : Header) (next : List Field) (steps : List Step) (limit : ℕ) (v : Version) (from : Bytes) (n : ℕ) (rest : Bytes)
    → IsKept h next steps (limited_part limit v) from n rest
unfolding limited_part
kept-limited h next steps limit v from n rest = grind (arith, kept-checked, kept-number, is-width-count)

kept-offset : (h : Header) (next : List Field) (steps : List Step) (v : Version) (from : Bytes) (n : ℕ) (rest : Bytes)
    → IsKept h next steps (offset_part v) from n rest
unfolding offset_part
kept-offset h next steps v from n rest = grind (arith, kept-checked, kept-number, is-width-offset)

kept-name : (h : Header) (next : List Field) (steps : List Step) (v : Version) (from text rest : Bytes)
    → IsKept h next steps (name_part strict v) from text rest
unfolding Spells name_part
kept-name h next steps v from text rest n m s t =
    chained (λ w. grind (arith, passed)) (kept-limited h _ _ (count_limit v) v from n m)
    (λ content m2 s2 t2. chained (λ w. grind arith)
    (kept-checked h [] (Text ∷ steps) is_name BadName (bytes n HeaderTruncated) m content m2 (λ x. tt))
    (λ u m3 s3 t3. (λ w. refl, λ got. (kept-ignored h _ _ (padding_len n) m2 u m3 s3, tt))))

code-same : (v : Version) (code : ℕ) (ty : NcType) → type_in v code ≡ Ok ty → code_of ty ≡ code
code-same v code ty e = grind (arith, nat_tests)

kept-type : (h : Header) (next : List Field) (steps : List Step) (v : Version) (from : Bytes) (ty : NcType) (rest : Bytes)
    → IsKept h next steps (type_part strict v) from ty rest
unfolding type_part
kept-type h next steps v from ty rest code s e = (kept-number h next steps w32 from code rest is-width-32, λ are w. code-same v code ty e)

-- ---- lists

-- the elements of a list after those before
record Joined {A : Type 0} (n : ℕ) (before all : List A) : Type 0 where
  pub xs : List A
  pub joined : all ≡ before ++ xs
  pub count : length xs ≡ n

each-joined : {A : Type 0} (element : List A → Part A) (n : ℕ) (before : List A) (from : Bytes) (all : List A) (rest : Bytes)
    → Spells (each element n before) from all rest → Joined n before all
unfolding Spells each
each-joined element zero before from all rest s = record { xs = []; joined = s.0 ∙ sym (append-nil before); count = refl }
each-joined element (suc n) before from all rest (x, middle, s, t) = grind (arith, common_steps, each-joined element n (before ++ x ∷ []) middle all rest t)

-- each element is kept, where it stands in this list
abbrev KeepsEach : {A : Type 0} → Header → List Step → (List A → Part A) → List A → Type 0
KeepsEach {A = A} h steps element all =
    (next : List Field) (before : List A) (x : A) (back : List A) (from rest : Bytes) → all ≡ before ++ x ∷ back
    → Spells (element before) from x rest → IsKept h next (Item (length before) ∷ steps) (element before) from x rest

kept-each : {A : Type 0} (h : Header) (next : List Field) (steps : List Step) (element : List A → Part A) (n : ℕ) (before : List A)
    (from : Bytes) (all : List A) (rest : Bytes) → KeepsEach h steps element all → IsKept h next steps (each element n before) from all rest
unfolding Spells each
kept-each h next steps element zero before from all rest go = tt
kept-each h next steps element (suc n) before from all rest go = λ x middle s t.
    let j = each-joined element n (before ++ x ∷ []) middle all rest t in
    let whole : all ≡ before ++ x ∷ j.xs = j.joined ∙ append_assoc before (x ∷ []) j.xs in (
      λ w. ap (λ ys. first (drop (length before) ys)) whole ∙ ap first (drop-append_seam before (x ∷ j.xs)),
      λ got. ((go _ before x j.xs from middle whole s, tt), kept-each h next steps element n (before ++ x ∷ []) middle all rest go),
    )

abbrev tag_part : ℕ → Part ℕ
tag_part tag = checked (λ t. (t == 0) || (t == tag)) BadTag (number w32)

-- the number of elements after this tag
abbrev elements_part : Version → ℕ → Part ℕ
elements_part v found = checked (λ n. not (found == 0) || (n == 0)) BadCount (count_part v)

-- what is written of a list's tag is the tag that is there, if that is as it is written; and so it is then
tag-kept : (h : Header) (steps : List Step) (v : Version) (tag : ℕ) (from middle rest : Bytes) (found n : ℕ)
    → Spells (tag_part tag) from found middle → Spells (elements_part v found) middle n rest
    → let tags = fields (Tag ∷ steps) (tag_part tag) from in
    let counts = fields (Count ∷ steps) (elements_part v found) middle in
    (AreWritten h (tags ++ counts) → (if n == 0 then 0 else tag) ≡ found)
    × ((if n == 0 then 0 else tag) ≡ found → (after : List Field) → AreCanonical h (counts ++ after) → AreCanonical h (tags ++ (counts ++ after)))
unfolding limited_part number
tag-kept h steps v tag from middle rest found n s t =
    let a = leaf-spelled (Tag ∷ steps) (tag_part tag) from found middle refl s in
    let b = leaf-spelled (Count ∷ steps) (elements_part v found) middle n rest refl t in
    (λ w. grind (arith, eqb-true), λ own after w. grind arith)

kept-head : (h : Header) (next : List Field) (steps : List Step) (v : Version) (tag : ℕ) (from : Bytes) (n : ℕ) (rest : Bytes)
    → IsKept h next steps (list_head v tag) from n rest
unfolding Spells list_head fields
kept-head h next steps v tag from n rest found m s t =
    let kept = tag-kept h steps v tag from m rest found n s t in (
      λ w. ap Some (kept.0 w),
      λ got. (
        (grind (arith, kept-checked, kept-number, is-width-32), λ is. kept.1 (cc)),
        (grind (arith, kept-checked, kept-limited), tt),
      ),
    )

kept-list : {A : Type 0} (h : Header) (next : List Field) (steps : List Step) (v : Version) (tag : ℕ) (element : List A → Part A)
    (from : Bytes) (all : List A) (rest : Bytes) → KeepsEach h steps element all → IsKept h next steps (list_part v tag element) from all rest
unfolding list_part
kept-list h next steps v tag element from all rest go n m s t =
    let j = each-joined element n [] m all rest t in (
      λ w. ap Some (ap length j.joined ∙ j.count),
      λ got. (kept-head h _ steps v tag from n m, kept-each h next steps element n [] m all rest go),
    )

-- ---- dimensions, attributes and variables

kept-dims : (h : Header) (next : List Field) (steps : List Step) (v : Version) (from : Bytes) (dims : List Dim) (rest : Bytes)
    → IsKept h next steps (dim_list strict v) from dims rest
unfolding Spells dim_list dim_part
kept-dims h next steps v from dims rest = grind (arith, kept-list, kept-name, kept-limited, passed)

kept-att : (h : Header) (next : List Field) (steps : List Step) (v : Version) (from : Bytes) (att : Att) (rest : Bytes)
    → IsKept h next steps (att_part strict v) from att rest
unfolding Spells att_part
kept-att h next steps v from att rest text m s t =
    chained (λ w. grind arith) (kept-name h _ _ v from text m)
    (λ ty m2 s2 t2. chained (λ w. grind arith) (kept-type h _ _ v m ty m2)
    (λ n m3 s3 t3. chained (λ w. grind (arith, mul-div_cancel, some_size)) (kept-limited h _ _ (count_limit v) v m2 n m3)
    (λ vals m4 s4 t4. chained (λ w. grind arith) tt (λ u m5 s5 t5. (λ w. refl, λ got. (kept-ignored h _ _ _ m4 u m5 s5, tt))))))

kept-atts : (h : Header) (next : List Field) (steps : List Step) (v : Version) (from : Bytes) (atts : List Att) (rest : Bytes)
    → IsKept h next steps (att_list strict v) from atts rest
unfolding att_list
kept-atts h next steps v from atts rest =
    kept-list h next steps v attribute_tag (att_after strict v) from atts rest (λ next before x back from rest is s. kept-att h next _ v from x rest)

kept-shape : (h : Header) (next : List Field) (steps : List Step) (v : Version) (dims : List Dim) (from : Bytes) (ids : List ℕ) (rest : Bytes)
    → IsKept h next steps (shape_part v dims) from ids rest
unfolding Spells shape_part counted dimid_part
kept-shape h next steps v dims from ids rest n m s t =
    let j = each-joined (dimid_after v dims) n [] m ids rest t in (
      λ w. ap Some (ap length j.joined ∙ j.count),
      λ got. (
        (kept-limited h _ (Count ∷ steps) (count_limit v) v from n m, tt),
        kept-each h next steps (dimid_after v dims) n [] m ids rest (grind (arith, kept-checked, kept-number, is-width-count)),
      ),
    )

-- the size of a variable is what is written for it
vsize-written : (h : Header) (i : ℕ) (steps : List Step) (from : Bytes) (vsize : ℕ) (rest : Bytes) (more : List Field) (var : Var)
    → slice_get h.vars i ≡ Some var → Spells (number (count_width h.version)) from vsize rest
    → AreWritten h (fields (Item i ∷ steps) (under Vsize (number (count_width h.version))) from ++ more)
    → vsize_of h.version (padded_size h.dims var) ≡ vsize
unfolding fields number
vsize-written h i steps from vsize rest more var there s w =
    let f = leaf-spelled (Vsize ∷ Item i ∷ steps) (number (count_width h.version)) from vsize rest refl s in grind arith

vsize-shown : (h : Header) (i : ℕ) (steps : List Step) (from : Bytes) (vsize : ℕ) (rest : Bytes) (var : Var)
    → slice_get h.vars i ≡ Some var → Spells (number (count_width h.version)) from vsize rest
    → vsize_of h.version (padded_size h.dims var) ≡ vsize → (after : List Field) → AreCanonical h after
    → AreCanonical h (fields (Vsize ∷ Item i ∷ steps) (number (count_width h.version)) from ++ after)
unfolding number
vsize-shown h i steps from vsize rest var there s own after w =
    let f = leaf-spelled (Vsize ∷ Item i ∷ steps) (number (count_width h.version)) from vsize rest refl s in grind arith

kept-var : (h : Header) (next : List Field) (i : ℕ) (steps : List Step) (total : ℕ) (from : Bytes) (var : Var) (rest : Bytes)
    → slice_get h.vars i ≡ Some var → IsKept h next (Item i ∷ steps) (var_part strict h.version h.dims total) from var rest
unfolding Spells var_part
kept-var h next i steps total from var rest there text m s t =
    chained (λ w. cc) (kept-name h _ _ h.version from text m)
    (λ ids m2 s2 t2. chained (λ w. cc) (kept-shape h _ _ h.version h.dims m ids m2)
    (λ atts m3 s3 t3. chained (λ w. cc) (kept-atts h _ _ h.version m2 atts m3)
    (λ ty m4 s4 t4. chained (λ w. cc)
    (kept-checked h _ _ (is_within_limits h.dims total ids) TooLarge (type_part strict h.version) m3 ty m4
    (λ x. kept-type h _ _ h.version m3 x m4))
    (λ vsize m5 s5 t5. (
      λ w. ap Some (vsize-written h i steps m4 vsize m5 _ var there s5 w),
      λ got. (
        (
          kept-number h _ _ (count_width h.version) m4 vsize m5 (is-width-count h.version),
          λ is after. vsize-shown h i steps m4 vsize m5 var there s5 (cc) _,
        ),
        λ begin m6 s6 t6. chained (λ w. cc) (kept-offset h _ _ h.version m5 begin m6) tt,
      ),
    )))))

kept-vars : (h : Header) (next : List Field) (steps : List Step) (v : Version) (dims : List Dim) (from : Bytes) (vars : List Var)
    (rest : Bytes) → v ≡ h.version → dims ≡ h.dims → vars ≡ h.vars → IsKept h next steps (var_list strict v dims) from vars rest
unfolding Spells var_list
kept-vars h next steps v dims from vars rest version same all = rw (version, same, all)
    (kept-list h next steps h.version variable_tag (var_after strict h.version h.dims) from h.vars rest
    (λ next before x back from rest is s.
    kept-var h next (length before) steps _ from x rest (ap (λ (vars : List Var). slice_get vars (length before)) is ∙ at-middle before x back)))

-- ---- the whole

three-letters : (letters : Bytes) → bytes_eq letters (codes "CDF") ≡ true → letters ≡ codes "CDF"
three-letters letters e = grind (arith, bytes_eq-Decides letters (codes "CDF"))

kept-numrecs : (h : Header) (next : List Field) (steps : List Step) (v : Version) (from : Bytes) (n : NumRecs) (rest : Bytes)
    → IsKept h next steps (numrecs_part strict v) from n rest
unfolding numrecs_part
kept-numrecs h next steps v from n rest = grind (arith, kept-number, is-width-count)

kept-header : (h : Header) (from rest : Bytes) → IsKept h [] [] (header_by strict) from h rest
unfolding Spells header_by magic_part version_part
kept-header h from rest = grind (arith, kept-numrecs, kept-dims, kept-atts, kept-vars, passed, three-letters, common_steps)

pub written-fields : WrittenFieldsAreCanonical
written-fields from h rest are s written =
    kept h [] [] header_part from h rest s (kept-header h from rest) are (subst (AreWritten h) (strict-fields from h rest s) written)

-- a header that is spelled as it is written has fields as they are written
pub header-canonical : (from : Bytes) (h : Header) (rest : Bytes) → SpellsHeader from h rest → from ≡ header_spelling h ++ rest
    → AreCanonical h (header_fields from)
header-canonical from h rest s is =
    let kept = spelled-sound from h rest s in
    let printable = header-printable h kept.sound kept.names kept.begins in
    let are = canonical h [] [] header_part from h rest (λ f after. (refl, refl, tt)) (kept-header h from rest) printable is [] (refl, tt) in
    rw (strict-fields from h rest s) (simp append-nil at are)

pub canonical-fields : CanonicalFieldsAreWritten
canonical-fields from h rest s is =
    let spelled = spelled-whole [] (header_by lenient) from (without_values h) rest (strict-headers from h rest s).0 in
    let are = header-canonical from h rest s is in are-written h (header_fields from) spelled are.0 are.1
