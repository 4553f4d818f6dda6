-- Which findings are faults: of those at fields alone, the ones at entries that the strict rules refuse; of all others, none.
use Rattle.nccheck_laws.proofs.Prelude.{Bytes, Some, cut_before, hdf5_truncated, if◌then◌else◌, is_hdf5, least_length, nat_lt, then_some, Slot, Contains, list_any-append, All-nil, All-cons, All-append, Contains-append_right, Version, Entry, FieldKind, Listing, FormatFault, Header, layout_of, FileLayout, layout_findings, Fact, Finding, Indexed, indexed_from, indexed, each_before, facts_of, field_at, finding, findings_at, field_findings, floating_findings, is_first, attribute_findings, finding_by_kind, attribute_finding, ahead_of, vsize_findings, whole_findings, is_vsize, named, vsize_finding, located, layout_facts, header_findings, all_findings, is_fault, has_any, Ahead, each_after, floating_finding, name_findings, duplicate_name, All-map, ◌≡◌, ℕ, ◌+◌, ◌||◌, ◌⊎◌, Bool, true, false, List, [], ◌∷◌, ◌++◌, flat_map, map, inl, inr, slice_get, Option, None, Result, Ok, Err, refl, sym, ◌∙◌, arith, All, option_to_list, contains-here}
use Rattle.std.specs.Option.{option_and_then}
use Rattle.nc_findings.specs.declared.finding.Fact.TheVariants as fact
use Rattle.nccheck_laws.proofs.Refusals.{refusal_of}
use Rattle.nccheck_laws.proofs.FaultFindings.{facts-fault, fault_among, quiet-type}
use Rattle.nccheck_laws.proofs.FoundNone.{each-quiet}

-- ---- findings that are no faults

-- the fact is about the layout, or that an HDF5 file is too short
abbrev pub is_layout : Fact → Bool
is_layout (fact.Layout fact) = true
is_layout (fact.Hdf5Truncated file_len end) = true
is_layout fact = false

-- the fact is a fault or about the layout
abbrev pub is_odd : Fact → Bool
is_odd x = is_fault x || is_layout x

-- none of these findings is
abbrev pub ArePlain : List Finding → Type 0
ArePlain fs = has_any is_odd fs ≡ false

-- a test that fewer facts pass
pub fewer : (test other : Fact → Bool) → ((x : Fact) → test x ≡ false → other x ≡ false) → (fs : List Finding)
    → has_any test fs ≡ false → has_any other fs ≡ false
fewer test other is [] none = refl
fewer test other is (f ∷ fs) none = grind (arith, is f.fact, fewer test other is fs)

pub names-fail : (test : Fact → Bool) → ((n : ℕ) → test (fact.DuplicateName n) ≡ false) → (earlier fs : List Indexed)
    → has_any test (each_after duplicate_name earlier fs) ≡ false
names-fail test never earlier [] = refl
names-fail test never earlier (f ∷ fs) =
    grind (arith, list_any-append, names-fail test never (earlier ++ f ∷ []) fs)

pub plain-names : (fs : List Indexed) → ArePlain (name_findings fs)
unfolding name_findings
plain-names fs = names-fail is_odd (λ n. refl) [] fs

plain-by_name : (first : Bool) (place : FieldKind) (f : Indexed) (ahead : Ahead) → ArePlain (option_to_list (finding_by_kind first place f ahead))
plain-by_name first v1 f ahead = grind arith

attributes-from : (all fs : List Indexed) → ArePlain (each_before (attribute_finding all) fs)
attributes-from all [] = refl
attributes-from all (f ∷ after) =
    grind (arith, list_any-append, plain-by_name (is_first all f) f.entry.place.field f (ahead_of after), attributes-from all after)

pub plain-attributes : (fs : List Indexed) → ArePlain (attribute_findings fs)
unfolding attribute_findings
plain-attributes fs = attributes-from fs fs

-- ---- a whole header

plain-vsize : (v : Version) (x : Slot) (o : Option Indexed) → ArePlain (option_to_list (vsize_finding v x o))
plain-vsize v x o = grind arith

pub plain-vsizes : (layout : FileLayout) (fs : List Indexed) → ArePlain (vsize_findings layout fs)
unfolding vsize_findings
plain-vsizes layout fs =
    each-quiet _ _ 0 layout.slots (λ k m x at is. plain-vsize layout.version x (slice_get (named is_vsize fs) m))

-- ---- faults

-- what is a fault lies at such an offset
abbrev pub FaultsLieAt : (ℕ → Type 0) → Finding → Type 0
FaultsLieAt Q f = is_fault f.fact ≡ true → Q f.offset

-- an entry that is refused lies at such an offset
abbrev pub RefusedLiesAt : (ℕ → Type 0) → Entry → Type 0
RefusedLiesAt Q e = (refusal_of e ≡ None) ⊎ Q e.offset

never-lies : (Q : ℕ → Type 0) (f : Finding) → is_fault f.fact ≡ false → FaultsLieAt Q f
never-lies Q f quiet is = absurd (let never : true ≡ false = sym is ∙ quiet in cc)

plain-lie : (Q : ℕ → Type 0) (fs : List Finding) → ArePlain fs → All (FaultsLieAt Q) fs
plain-lie Q [] plain = All-nil (FaultsLieAt Q)
plain-lie Q (f ∷ fs) plain = All-cons (FaultsLieAt Q) f fs (never-lies Q f (grind arith)) (plain-lie Q fs (grind arith))

-- an HDF5 file that is too short
cut-lies : (Q : ℕ → Type 0) (start : Bytes) (file_len : ℕ) → All (FaultsLieAt Q) (option_to_list (hdf5_truncated start file_len))
cut-lies Q start file_len = by-tests (is_hdf5 start) (least_length start)
  where
    cut : ℕ → Finding
    cut end = record { offset = file_len; field = None; fact = fact.Hdf5Truncated file_len end }

    by-length : (b : Bool) (end : ℕ) → All (FaultsLieAt Q) (option_to_list (then_some b (cut end)))
    by-length true end = All-cons (FaultsLieAt Q) (cut end) [] (never-lies Q (cut end) refl) (All-nil (FaultsLieAt Q))
    by-length false end = All-nil (FaultsLieAt Q)

    by-tests : (b : Bool) (o : Option ℕ) → All (FaultsLieAt Q) (option_to_list (if b then option_and_then (cut_before file_len) o else None))
    by-tests true (Some end) = by-length (nat_lt file_len end) end
    by-tests true None = All-nil (FaultsLieAt Q)
    by-tests false o = All-nil (FaultsLieAt Q)

-- findings about the layout
whole-lie : (Q : ℕ → Type 0) (l : Listing) → All (FaultsLieAt Q) (whole_findings l)
unfolding whole_findings
whole-lie Q l = by-header l.header
  where
    by-header : (o : Result Header FormatFault)
        → All (FaultsLieAt Q) (elim o as (λ o. List Finding) [ Ok h ↦ layout_facts (layout_of h l.end l.file_len) (indexed l.entries) | Err fault ↦ option_to_list (hdf5_truncated l.start l.file_len) ])
    by-header (Err fault) = cut-lies Q l.start l.file_len
    by-header (Ok h) =
        let layout = layout_of h l.end l.file_len in
        let fs = indexed l.entries in
        All-append (FaultsLieAt Q) _ _ (plain-lie Q _ (plain-vsizes layout fs))
        (All-map (FaultsLieAt Q) (located fs) (layout_findings layout) (λ k x lt. never-lies Q (located fs _) (grind arith)))

-- what is found at one entry
facts-lie : (Q : ℕ → Type 0) (f : Indexed) (facts : List Fact) → (fault_among facts ≡ None) ⊎ Q f.entry.offset → All (FaultsLieAt Q) (map (finding f) facts)
facts-lie Q f facts (inr at) = All-map (FaultsLieAt Q) (finding f) facts (λ k x lt is. at)
facts-lie Q f [] (inl none) = All-nil (FaultsLieAt Q)
facts-lie Q f (x ∷ facts) (inl none) =
    All-cons (FaultsLieAt Q) (finding f x) _ (never-lies Q (finding f x) (grind arith)) (facts-lie Q f facts (inl (grind arith)))

fields-lie : (Q : ℕ → Type 0) (start : Bytes) (i : ℕ) (es : List Entry) → ((e : Entry) → Contains es e → RefusedLiesAt Q e)
    → All (FaultsLieAt Q) (flat_map (findings_at start) (indexed_from i es))
fields-lie Q start i [] lies = All-nil (FaultsLieAt Q)
fields-lie Q start i (e ∷ es) lies =
    let refused : (fault_among (facts_of start e) ≡ None) ⊎ Q e.offset = elim (lies e (contains-here e es)) [ inl none ↦ inl (facts-fault start e.size e.content e.place.field e.place.owner e.fault (quiet-type e none) ∙ none) | inr at ↦ inr at ] in
    All-append (FaultsLieAt Q) (findings_at start (field_at i e)) _ (facts-lie Q (field_at i e) (facts_of start e) refused)
    (fields-lie Q start (i + 1) es (λ x has. lies x (Contains-append_right (e ∷ []) es x has)))

floating-lies : (Q : ℕ → Type 0) (i : ℕ) (es : List Entry) → ((e : Entry) → Contains es e → RefusedLiesAt Q e)
    → All (FaultsLieAt Q) (option_to_list (floating_finding (indexed_from i es)))
floating-lies Q i [] lies = All-nil (FaultsLieAt Q)
floating-lies Q i (e ∷ es) lies = grind (arith, floating-lies Q (i + 1) es (λ x has. lies x (Contains-append_right (e ∷ []) es x has)), contains-here, Contains-append_right, quiet-type, All-cons, All-nil)

pub all-lie : (Q : ℕ → Type 0) (l : Listing) → ((e : Entry) → Contains l.entries e → RefusedLiesAt Q e)
    → All (FaultsLieAt Q) (all_findings l)
unfolding all_findings header_findings field_findings floating_findings
all-lie Q l lies =
    All-append (FaultsLieAt Q) _ _
    (All-append (FaultsLieAt Q) _ _
    (All-append (FaultsLieAt Q) _ _
    (All-append (FaultsLieAt Q) _ _ (fields-lie Q l.start 0 l.entries lies) (floating-lies Q 0 l.entries lies))
    (plain-lie Q _ (plain-names (indexed l.entries))))
    (plain-lie Q _ (plain-attributes (indexed l.entries))))
    (whole-lie Q l)
