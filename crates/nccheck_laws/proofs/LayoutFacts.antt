-- What a report finds about the layout is what is found in the layout of the header; so it finds that values are missing exactly if some
-- variable of the header has a first missing value.
use Rattle.nccheck_laws.proofs.Prelude.{FormatFault, Dim, Header, Var, Bytes, SpellsHeader, reads, stops, Listing, without_values, layout_of, slot_of, Report, indexed, layout_facts, whole_findings, IsReport, var_without_values, list_any, list_any-append, list_any-IsPermutation, list_any_none, strict, Entry, Content, FieldKind, layout_findings, spelled-layout, Fact, Finding, Indexed, field_at, indexed_from, finding, facts_with, findings_at, field_findings, floating_findings, header_findings, vsize_findings, located, all_findings, has_any, finds, is_of_missing, is_missing, LayoutFact, LayoutFinding, ReportsTellMissingValues, is_of_layout, ◌≡◌, ℕ, ◌+◌, List, [], ◌∷◌, length, map, Ok, refl, ap, arith, Bool, true, false, flat_map, Option, Some, None, sym, ◌∙◌, common_steps}
use Rattle.nccheck_laws.proofs.StrictHeaders.{strict-headers}
use Rattle.nc_findings.specs.declared.entry.Content.TheVariants as content
use Rattle.nc_findings.specs.declared.finding.Fact.TheVariants as fact
use Rattle.nccheck_laws.proofs.FaultFindings.{fault-fact}
use Rattle.nccheck_laws.proofs.MissingValues.{missing-found}
use Rattle.nccheck_laws.proofs.QuietRules.{is_layout, is_odd, fewer, plain-names, plain-attributes, plain-vsizes}

-- ---- the header of a listing

pub whole-header : (l : Listing) (h : Header) → l.header ≡ Ok h
    → whole_findings l ≡ layout_facts (layout_of h l.end l.file_len) (indexed l.entries)
unfolding whole_findings
whole-header l h same = cc

-- the values of attributes take no part in the layout
same-slots : (dims : List Dim) (vars : List Var) → map (slot_of dims) (map var_without_values vars) ≡ map (slot_of dims) vars
same-slots dims [] = refl
same-slots dims (var ∷ vars) = ap (λ slots. slot_of dims var ∷ slots) (same-slots dims vars)

pub same-layout : (h : Header) (header_end file_len : ℕ)
    → layout_of (without_values h) header_end file_len ≡ layout_of h header_end file_len
same-layout h header_end file_len = grind (arith, same-slots)

-- the header that is listed, and where it ends
pub read-header : (bytes : Bytes) (r : Report) (h : Header) (rest : Bytes) → IsReport bytes r → SpellsHeader bytes h rest
    → (r.listing.header ≡ Ok (without_values h)) × (r.listing.end + length rest ≡ length bytes)
read-header bytes r h rest report spelled = grind (arith, common_steps, reads, strict-headers, stops)

-- ---- findings at fields

other-facts : (start : Bytes) (f : Indexed) (o : Option FormatFault) (place : FieldKind) (size : ℕ) (c : Content)
    → has_any is_layout (map (finding f) (facts_with start o place size c)) ≡ false
other-facts start f (Some fault) place size c = fault-fact (λ x. has_any is_layout (finding f x ∷ []) ≡ false) start fault refl refl refl refl
other-facts start f None place size (content.Number n) = grind arith
other-facts start f None place size (content.Bytes bs) = grind arith
other-facts start f None place size c = refl

other-fields : (start : Bytes) (i : ℕ) (es : List Entry) → has_any is_layout (flat_map (findings_at start) (indexed_from i es)) ≡ false
other-fields start i [] = refl
other-fields start i (e ∷ es) =
    grind (arith, list_any-append, other-facts start (field_at i e) e.fault e.place.field e.size e.content, other-fields start (i + 1) es)

no-layout : (fs : List Finding) → has_any is_odd fs ≡ false → has_any is_layout fs ≡ false
no-layout fs plain = fewer is_odd is_layout (λ x none. grind arith) fs plain

-- ---- findings about the layout

pub all-located : (test : Fact → Bool) (kind : LayoutFact → Bool) → ((x : LayoutFact) → test (fact.Layout x) ≡ kind x) → (fs : List Indexed)
    (ls : List LayoutFinding)
    → has_any test (map (located fs) ls) ≡ list_any (λ (l : LayoutFinding). kind l.fact) ls
all-located test kind agree fs [] = refl
all-located test kind agree fs (l ∷ ls) = grind (arith, all-located test kind agree fs ls, agree l.fact)

-- the test is passed by facts about the layout of this kind
pub record IsOfLayout (test : Fact → Bool) (kind : LayoutFact → Bool) : Type 0 where
  pub agree : (x : LayoutFact) → test (fact.Layout x) ≡ kind x
  pub other : (x : Fact) → is_layout x ≡ false → test x ≡ false

pub of-layout : (kind : LayoutFact → Bool) → IsOfLayout (is_of_layout kind) kind
of-layout kind = record { agree = λ x. refl; other = λ x other. grind arith }

-- the fact is that an HDF5 file is too short
abbrev pub is_cut : Fact → Bool
is_cut (fact.Hdf5Truncated file_len end) = true
is_cut fact = false

of-cut : IsOfLayout is_cut (λ x. false)
of-cut = record { agree = λ x. refl; other = λ x other. grind arith }

pub of-missing : IsOfLayout is_missing is_of_missing
of-missing = record { agree = λ x. refl; other = λ x other. grind arith }

listing-tells : (test : Fact → Bool) (kind : LayoutFact → Bool) → IsOfLayout test kind → (l : Listing) (h : Header) → l.header ≡ Ok h
    → has_any test (all_findings l) ≡ finds kind (layout_of h l.end l.file_len)
unfolding all_findings header_findings field_findings floating_findings
listing-tells test kind of l h same =
    let fs = indexed l.entries in
    let layout = layout_of h l.end l.file_len in
    let header = fewer is_layout test of.other (header_findings l.start l.entries) (grind (arith, common_steps, list_any-append, plain-names, plain-attributes, other-fields, no-layout)) in
    let sizes = vsize_findings layout fs in
    let vsizes = fewer is_layout test of.other sizes (no-layout sizes (plain-vsizes layout fs)) in
    let facts = all-located test kind of.agree fs (layout_findings layout) in
    grind (arith, list_any-append, whole-header l h same)

-- in a report of a header that is listed to its end
pub report-tells : (test : Fact → Bool) (kind : LayoutFact → Bool) → IsOfLayout test kind → (bytes : Bytes) (r : Report) (h : Header)
    → IsReport bytes r → r.listing.header ≡ Ok h → has_any test r.findings ≡ finds kind (layout_of h r.listing.end (length bytes))
report-tells test kind of bytes r h report same =
    sym (list_any-IsPermutation (λ (f : Finding). test f.fact) (all_findings r.listing) r.findings report.all)
    ∙ listing-tells test kind of r.listing h same ∙ ap (λ n. finds kind (layout_of h r.listing.end n)) report.listing.file_len

-- and of one that can be read
pub read-tells : (test : Fact → Bool) (kind : LayoutFact → Bool) → IsOfLayout test kind → (bytes : Bytes) (r : Report) (h : Header)
    (rest : Bytes) (header_end : ℕ) → IsReport bytes r → SpellsHeader bytes h rest → header_end + length rest ≡ length bytes
    → has_any test r.findings ≡ finds kind (layout_of h header_end (length bytes))
read-tells test kind of bytes r h rest header_end report spelled ends =
    let read = read-header bytes r h rest report spelled in
    let at = read.1 in
    let same : r.listing.end ≡ header_end = omega arith in
    report-tells test kind of bytes r (without_values h) report read.0
    ∙ ap (finds kind) (same-layout h r.listing.end (length bytes) ∙ ap (λ n. layout_of h n (length bytes)) same)

-- ---- the laws

-- no file whose header can be read is a short HDF5 file
pub never-cut : (bytes : Bytes) (r : Report) (h : Header) (rest : Bytes) → IsReport bytes r → SpellsHeader bytes h rest → has_any is_cut r.findings ≡ false
never-cut bytes r h rest report spelled =
    report-tells is_cut (λ x. false) of-cut bytes r (without_values h) report (read-header bytes r h rest report spelled).0
    ∙ list_any_none (λ (l : LayoutFinding). false) (layout_findings (layout_of (without_values h) r.listing.end (length bytes))) (λ k d lt. refl)

pub missing-told : ReportsTellMissingValues
missing-told bytes r h rest report spelled =
    let ends = (read-header bytes r h rest report spelled).1 in
    read-tells is_missing is_of_missing of-missing bytes r h rest r.listing.end report spelled ends
    ∙ missing-found h bytes r.listing.end (spelled-layout strict bytes h rest r.listing.end spelled ends)
