-- Findings at fields that are kept as numbers.
use Rattle.nc_rules.proofs.Prelude.{IsPermutation, IsPermutation-map, IsPermutation-append, IsPermutation-refl, option_map, option_to_list, Version, Header, FormatFault, Listing, Entry, Slot, FileLayout, LayoutFinding, each_slot, layout_findings, IsSoundLayout, layout_of, Fact, Finding, NumberField, NumberFields, Indexed, indexed, vsize_findings, whole_findings, is_vsize, named, vsize_finding, found_at, located, number_field, HoldsNumbers, found_at_number, located_number, vsize_finding_at, vsize_findings_at, ◌≡◌, ℕ, ◌+◌, List, [], ◌∷◌, ◌++◌, map, slice_get, Option, Some, Result, Ok, Err, OnOk, SomeIff, append_assoc, arith, refl, sym, ap, ap₂, subst, ◌∙◌}
use Rattle.std.proofs.lemmas.Option.{slice_get-map}
use Rattle.nc_types.specs.Bytes.{Bytes}
use Rattle.nc_rules.specs.Superblocks.{hdf5_truncated}
use Rattle.nc_rules.specs.code.WholeHeaders.{HasSoundLayout}

-- at a field in this place of a list
placed : (fs : List Indexed) (i : ℕ) (what : Fact) → found_at_number (slice_get (map number_field fs) i) what ≡ found_at (slice_get fs i) what
placed fs i what = grind (arith, slice_get-map)

pub located-numbers : (fields : List Indexed) (ns : NumberFields) (l : LayoutFinding) → HoldsNumbers fields ns → located_number ns l ≡ located fields l
located-numbers fields ns l h = grind (arith, placed, h.numrecs, h.vsizes, h.begins)

sized : (v : Version) (slot : Slot) (o : Option Indexed) → vsize_finding_at v slot (option_map number_field o) ≡ vsize_finding v slot o
sized v slot o = grind arith

sizes : (v : Version) (fs : List Indexed) (i : ℕ) (slots : List Slot)
    → each_slot (λ i slot. option_to_list (vsize_finding_at v slot (slice_get (map number_field fs) i))) i slots ≡ each_slot (λ i slot. option_to_list (vsize_finding v slot (slice_get fs i))) i slots
sizes v fs i [] = refl
sizes v fs i (slot ∷ slots) = grind (arith, slice_get-map, sized, sizes v fs (i + 1) slots)

pub vsizes-numbers : (fields : List Indexed) (ns : NumberFields) (layout : FileLayout) → HoldsNumbers fields ns → vsize_findings_at layout ns.vsizes ≡ vsize_findings layout fields
unfolding vsize_findings
vsizes-numbers fields ns layout h =
    ap (λ (xs : List NumberField). vsize_findings_at layout xs) h.vsizes ∙ sizes layout.version (named is_vsize fields) 0 layout.slots

map-same : {A B : Type 0} (f g : A → B) (xs : List A) → ((x : A) → f x ≡ g x) → map f xs ≡ map g xs
map-same f g [] same = refl
map-same f g (x ∷ xs) same = grind (arith, same x, map-same f g xs same)

-- the findings at their fields, in whichever order they were found
pub pushed-located : (ns : NumberFields) (layout : FileLayout) (of_layout slice : List LayoutFinding) (old new : List Finding) {A E : Type 0} (result : Result A E) → IsPermutation (layout_findings layout) of_layout
    → slice ≡ of_layout → OnOk result (new ≡ old ++ map (located_number ns) slice) → OnOk result (IsPermutation (old ++ map (located_number ns) (layout_findings layout)) new)
pushed-located ns layout of_layout slice old new (Ok x) p same is =
    subst (λ (xs : List Finding). IsPermutation (old ++ map (located_number ns) (layout_findings layout)) xs) (sym is)
    (IsPermutation-append old old _ _ (IsPermutation-refl old) (IsPermutation-map (located_number ns) _ _ (subst (λ (xs : List LayoutFinding). IsPermutation (layout_findings layout) xs) (sym same) p)))
pushed-located ns layout of_layout slice old new (Err e) p same is = tt

is-that : (answer : Option FileLayout) (P : Type 0) (that x : FileLayout) → SomeIff answer P that → answer ≡ Some x → x ≡ that
is-that answer P that x is some = grind arith

-- what is found of a whole header
pub whole-findings : (l : Listing) (h : Header) (layout : FileLayout) (ns : NumberFields) (entries : List Entry) (found one two : List Finding) (answer : Option FileLayout) → l.header ≡ Ok h
    → SomeIff answer (IsSoundLayout (layout_of h l.end l.file_len)) (layout_of h l.end l.file_len) → answer ≡ Some layout → entries ≡ l.entries → HoldsNumbers (indexed entries) ns
    → one ≡ found ++ vsize_findings_at layout ns.vsizes → IsPermutation (one ++ map (located_number ns) (layout_findings layout)) two → IsPermutation (found ++ whole_findings l) two
unfolding whole_findings
whole-findings l h layout ns entries found one two answer whole is_layout is_some same holds first p =
    let is : layout ≡ layout_of h l.end l.file_len = is-that answer _ _ layout is_layout is_some in
    rw (whole, sym is, sym same)
    (subst (λ xs. IsPermutation xs two)
    (ap₂ (λ (xs ys : List Finding). xs ++ ys) (first ∙ ap (λ xs. found ++ xs) (vsizes-numbers (indexed entries) ns layout holds))
    (map-same (located_number ns) (located (indexed entries)) (layout_findings layout) (λ x. located-numbers (indexed entries) ns x holds))
    ∙ append_assoc found _ _) p)

-- what is found if the header isn't whole
pub broken-findings : (l : Listing) (fault : FormatFault) (start : Bytes) (cut : Option Finding) (found new : List Finding) {A E : Type 0} (result : Result A E) → l.header ≡ Err fault → start ≡ l.start
    → cut ≡ hdf5_truncated start l.file_len → OnOk result (new ≡ found ++ option_to_list cut) → OnOk result (HasSoundLayout l → IsPermutation (found ++ whole_findings l) new)
unfolding whole_findings
broken-findings l fault start cut found new (Ok x) broken same is more =
    λ sound. rw (broken, more, is, same) (IsPermutation-refl (found ++ option_to_list (hdf5_truncated l.start l.file_len)))
broken-findings l fault start cut found new (Err e) broken same is more = tt
