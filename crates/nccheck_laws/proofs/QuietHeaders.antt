-- A report finds nothing about the spelling of a header exactly if it is spelled as it is written.
use Rattle.nccheck_laws.proofs.Prelude.{nat_tests, common_steps, option_map, list_any_none, list_any-append, list_any-IsPermutation, Var, Header, Version, Bytes, SpellsHeader, Step, vsize_of, header_by, Entry, FieldKind, Owner, Field, lenient, field_steps, owner_steps, whole_content, header_fields, without_values, number_of, IsWrittenVsize, Slot, layout_of, layout_findings, Finding, Indexed, indexed_from, indexed, is_vsize, named, vsize_finding, whole_findings, vsize_findings, all_findings, is_of_spelling, padded_slab_len, padded_size, slot_of, LayoutFinding, Listing, Report, IsReport, file_of, slice_get-map, with_begins, data_of, QuietSpellingsAreCanonical, CanonicalSpellingsAreQuiet, QuietHeadersAreCanonical, GeneratedFilesHaveQuietSpellings, ◌≡◌, ◌↔◌, ℕ, suc, ◌+◌, ◌||◌, Bool, true, false, List, [], ◌∷◌, ◌++◌, length, map, Option, Some, None, Ok, refl, sym, ap, ◌∙◌, subst, arith, slice_get, IfSome, option_to_list, if◌then◌else◌}
use Rattle.nc_findings.specs.Contents.{number_of as content_number}
use Rattle.nccheck_laws.proofs.StrictHeaders.{strict-headers}
use Rattle.nccheck_laws.proofs.WrittenParts.{written-fields, header-canonical}
use Rattle.nccheck_laws.proofs.Vsizes.{Counts, spelled-whole, is_vsize_at, AreNumbered, header-numbered}
use Rattle.nccheck_laws.proofs.Spellings.{IsSized, AreSized, AreOf, none, more, are-of, any_odd, any_spelling, header-odd, are-written}
use Rattle.nccheck_laws.proofs.FirstFaults.{faultless}
use Rattle.nccheck_laws.proofs.FoundNone.{quiet-from, each-quiet}
use Rattle.nccheck_laws.proofs.IndexedSlots.{At}
use Rattle.nccheck_laws.proofs.LayoutFacts.{read-header, whole-header, same-layout, all-located}
use Rattle.nccheck_laws.proofs.CleanLayouts.{read-as}

-- ---- the sizes of variables among entries and fields

abbrev sizes_of : List Field → List ℕ
sizes_of [] = []
sizes_of (f ∷ fs) = if is_vsize_at f.steps then number_of f ∷ sizes_of fs else sizes_of fs

same-kind : (place : FieldKind) (o : Owner) → is_vsize place ≡ is_vsize_at (field_steps place ++ owner_steps o)
same-kind place o = grind arith

-- a size of a variable is a number
size-number : (steps : List Step) (f : Field) → is_vsize_at steps ≡ true
    → content_number (whole_content steps f.size f.start) ≡ number_of f
size-number steps f is = grind arith

abbrev entry_number : Indexed → ℕ
entry_number g = content_number g.entry.content

named-sizes : (k : ℕ) {es : List Entry} {fs : List Field} → AreOf es fs
    → map entry_number (named is_vsize (indexed_from k es)) ≡ sizes_of fs
named-sizes k none = refl
named-sizes k (more {e = e} {f = f} is rest) =
    grind (arith, common_steps, same-kind e.place.field e.place.owner, is.steps, is.content, size-number f.steps f, named-sizes (k + 1) rest)

-- ---- sizes that are as they are written

-- each of these sizes is that of its variable, the first one that of the variable at this index
AreSizes : Header → ℕ → List ℕ → Type 0
AreSizes h k ns = (i m n : ℕ) → slice_get ns i ≡ Some n → m ≡ k + i → IsWrittenVsize h m n

sizes-more : (h : Header) (k x : ℕ) (ns : List ℕ) → IsWrittenVsize h k x → AreSizes h (k + 1) ns → AreSizes h k (x ∷ ns)
unfolding AreSizes
sizes-more h k x ns first others v5 m n there at = grind (arith, first, λ (i : ℕ). others i m n)

sizes-sized : (h : Header) (k : ℕ) (fs : List Field) → AreNumbered k fs → AreSizes h k (sizes_of fs) ↔ AreSized h fs
unfolding AreSizes
sizes-sized h k [] at = (λ are. tt, λ are i m n there at. absurd cc)
sizes-sized h k (f ∷ fs) at = by-test (is_vsize_at f.steps) refl at (λ k at. sizes-sized h k fs at)
  where
    by-test : (b : Bool) → is_vsize_at f.steps ≡ b → Counts b k f.steps (λ k. AreNumbered k fs)
        → ((k : ℕ) → AreNumbered k fs → AreSizes h k (sizes_of fs) ↔ AreSized h fs)
        → AreSizes h k (if b then number_of f ∷ sizes_of fs else sizes_of fs) ↔ (IsSized h f.steps f × AreSized h fs)
    by-test true is at go = (
      λ are. (
        subst (λ steps. IsSized h steps f) (sym at.0) (are 0 k _ refl (omega arith)),
        (go (k + 1) at.1).0 (λ i m n there at. are (suc i) m n there (omega arith)),
      ),
      λ are. sizes-more h k _ (sizes_of fs) (subst (λ steps. IsSized h steps f) at.0 are.0) ((go (k + 1) at.1).1 are.1),
    )
    by-test false is at go = (λ are. (grind arith), λ are. (go k at).1 are.1)

-- ---- what is found at them

size-found : (v : Version) (x : Slot) (g : Indexed)
    → any_spelling (option_to_list (vsize_finding v x (Some g))) ≡ false ↔ (entry_number g ≡ vsize_of v (padded_slab_len x))
size-found v x g = (λ quiet. grind (arith, nat_tests), λ is. grind (arith, nat_tests))

-- what is found at the size of the variable of this slot
abbrev found_at : Version → List Indexed → ℕ → Slot → List Finding
found_at v gs i slot = option_to_list (vsize_finding v slot (slice_get gs i))

-- the variable of a slot, and the field of its size
slot-size : (h : Header) (gs : List Indexed) (i : ℕ) (x : Slot) (o : Option Indexed) (p : Option Var) → slice_get h.vars i ≡ p
    → At (map (slot_of h.dims) h.vars) i x
    → any_spelling (option_to_list (vsize_finding h.version x o)) ≡ false
    ↔ ((n : ℕ) → option_map entry_number o ≡ Some n → IsWrittenVsize h i n)
slot-size h gs i x None p is at = (λ quiet n there. absurd cc, λ each. refl)
slot-size h gs i x (Some g) p is at =
    let there = sym at ∙ slice_get-map (slot_of h.dims) h.vars i ∙ ap (option_map (slot_of h.dims)) is in by-var p is there
  where
    by-var : (p : Option Var) → slice_get h.vars i ≡ p → Some x ≡ option_map (slot_of h.dims) p
        → any_spelling (option_to_list (vsize_finding h.version x (Some g))) ≡ false
        ↔ ((n : ℕ) → Some (entry_number g) ≡ Some n → IsWrittenVsize h i n)
    by-var None is there = absurd cc
    by-var (Some var) is there =
        let slot : x ≡ slot_of h.dims var = cc in
        rw (slot, is) (
          λ quiet n same. let number : entry_number g ≡ n = cc in
              subst (λ n. n ≡ vsize_of h.version (padded_size h.dims var)) number
              ((size-found h.version (slot_of h.dims var) g).0 quiet),
          λ each. (size-found h.version (slot_of h.dims var) g).1 (each (entry_number g) refl),
        )

sizes-found : (h : Header) (end file_len : ℕ) (gs : List Indexed) (ns : List ℕ) → map entry_number (named is_vsize gs) ≡ ns
    → any_spelling (vsize_findings (layout_of h end file_len) gs) ≡ false ↔ AreSizes h 0 ns
unfolding vsize_findings AreSizes
sizes-found h end file_len gs ns same =
    let fs = named is_vsize gs in
    let slots = map (slot_of h.dims) h.vars in
    let test = λ (f : Finding). is_of_spelling f.fact in
    let number = λ (i : ℕ). sym (slice_get-map entry_number fs i) ∙ ap (λ (ns : List ℕ). slice_get ns i) same in (
      λ quiet i m n there at.
          let here : m ≡ i = omega arith in
          rw here (written i (λ x in_slots. quiet-from test (found_at h.version fs) 0 slots i i quiet x in_slots (omega arith)) n (number i ∙ there)),
      λ each. each-quiet test (found_at h.version fs) 0 slots (λ i m x in_slots at.
          let here : m ≡ i = omega arith in
          rw here ((slot-size h fs i x (slice_get fs i) (slice_get h.vars i) refl in_slots).1
          (λ n is. each i i n (sym (number i) ∙ is) (omega arith)))),
    )
  where
    -- of a variable without a slot nothing is said
    written : (i : ℕ) → ((x : Slot) → At (map (slot_of h.dims) h.vars) i x → any_spelling (found_at h.version (named is_vsize gs) i x) ≡ false)
        → (n : ℕ) → option_map entry_number (slice_get (named is_vsize gs) i) ≡ Some n → IsWrittenVsize h i n
    written i quiet n is = by-var (slice_get h.vars i) refl
      where
        by-var : (p : Option Var) → slice_get h.vars i ≡ p → IfSome p (λ (var : Var). n ≡ vsize_of h.version (padded_size h.dims var))
        by-var None there = tt
        by-var (Some var) there =
            let at = slice_get-map (slot_of h.dims) h.vars i ∙ ap (option_map (slot_of h.dims)) there in
            subst (λ (p : Option Var). IfSome p (λ (var : Var). n ≡ vsize_of h.version (padded_size h.dims var))) there
            ((slot-size h (named is_vsize gs) i (slot_of h.dims var) (slice_get (named is_vsize gs) i) (slice_get h.vars i) refl at).0
            (quiet (slot_of h.dims var) at) n is)

-- ---- the whole

whole-spelling : (l : Listing) (h : Header) → l.header ≡ Ok (without_values h)
    → any_spelling (whole_findings l) ≡ any_spelling (vsize_findings (layout_of h l.end l.file_len) (indexed l.entries))
whole-spelling l h read =
    let gs = indexed l.entries in
    let layout = layout_of h l.end l.file_len in
    let at = all-located is_of_spelling (λ x. false) (λ x. refl) gs (layout_findings layout) in
    let never = list_any_none (λ (l : LayoutFinding). false) (layout_findings layout) (λ k d lt. refl) in
    grind (arith, list_any-append, whole-header l (without_values h) read, same-layout h l.end l.file_len)

-- nothing is found about the spelling exactly if no field is odd and each size is as it is written
spelling-quiet : (bytes : Bytes) (r : Report) (h : Header) (rest : Bytes) → IsReport bytes r → SpellsHeader bytes h rest
    → any_spelling r.findings ≡ false ↔ ((any_odd (header_fields bytes) ≡ false) × AreSized h (header_fields bytes))
unfolding all_findings
spelling-quiet bytes r h rest report s =
    let l = r.listing in
    let k = without_values h in
    let fs = header_fields bytes in
    let spelled = (strict-headers bytes h rest s).0 in
    let are = are-of (length bytes) l.entries fs report.listing.entries (spelled-whole [] (header_by lenient) bytes k rest spelled) in
    let sized = sizes-sized h 0 fs (header-numbered lenient bytes k rest spelled) in
    let sizes = sizes-found h l.end l.file_len (indexed l.entries) (sizes_of fs) (named-sizes 0 are) in
    let found : any_spelling r.findings
    ≡ (any_odd fs || any_spelling (vsize_findings (layout_of h l.end l.file_len) (indexed l.entries))) =
    sym (list_any-IsPermutation (λ (f : Finding). is_of_spelling f.fact) (all_findings l) r.findings report.all)
    ∙ grind (arith, list_any-append, header-odd l.start l.entries fs are, whole-spelling l h (read-header bytes r h rest report s).0) in (
      λ quiet. (grind arith, sized.0 (sizes.0 (grind arith))),
      λ both. let quiet = sizes.1 (sized.1 both.1) in grind (arith, both.0),
    )

pub quiet-spellings : QuietSpellingsAreCanonical
quiet-spellings from r h rest are report s quiet = grind (arith, common_steps, strict-headers, written-fields, spelled-whole, are-written, spelling-quiet)

pub canonical-quiet : CanonicalSpellingsAreQuiet
canonical-quiet bytes r h rest report s is =
    (spelling-quiet bytes r h rest report s).1 (header-canonical bytes h rest s is)

-- and a header without a fault is read
pub quiet-headers : QuietHeadersAreCanonical
quiet-headers from r are report sound quiet =
    let s = (faultless from r report).0 sound in (s.0, s.1, s.2, quiet-spellings from r s.0 s.1 are report s.2 quiet)

-- so a report finds nothing about the spelling of a generated file
pub generated-spellings : GeneratedFilesHaveQuietSpellings
generated-spellings d r good fits report =
    let s = read-as d good fits in
    canonical-quiet (file_of d) r (with_begins d.header) (data_of d.header d.arrays) report s.spelled s.written
