-- What a report says of the values of a file, whatever their types.
use Rattle.nccheck_laws.proofs.Prelude.{list_any-append, list_any_none, list_any-IsPermutation, FormatFault, Header, Bytes, header_by, stops, Entry, Field, fields, Seen, seen_by, seen, lenient, IsOutcome, layout_of, spelled-layout, Fact, Finding, Report, field_at, indexed_from, field_findings, facts_with, finding, findings_at, header_findings, all_findings, has_any, IsReport, is_of_missing, is_missing, is_of_shared_bytes, Severity, fault_fact, is_of_layout, arith, ◌≡◌, ℕ, ◌+◌, inl, inr, Bool, Option, Some, true, false, List, [], ◌∷◌, length, map, flat_map, Result, Ok, Err, refl, sym, ap, ◌∙◌, subst}
use Rattle.nccheck_laws.proofs.MissingValues.{missing-found}
use Rattle.nccheck_laws.proofs.SlabsApart.{quiet-apart}
use Rattle.nc_findings.specs.declared.kind.Severity.TheVariants.{Error}
use Rattle.nc_findings.specs.Kinds.{kind_of, severity_of}
use Rattle.nccheck_laws.specs.ErrorLaws.{HasNoError, ListedHeadersTellMissingValues, ListedHeadersHaveSlabsApart, ReportsWithoutErrorsHaveValues}
use Rattle.nccheck_laws.proofs.FaultFindings.{fault-fact}
use Rattle.nccheck_laws.proofs.FieldPlaces.{HasFault, Shows, is_floating_fault, shown-faults}
use Rattle.nccheck_laws.proofs.FirstFaults.{first-told, later-told}
use Rattle.nccheck_laws.proofs.LayoutFacts.{of-layout, of-missing, report-tells}
use Rattle.nccheck_laws.proofs.QuietRules.{fewer}
use Rattle.nccheck_laws.proofs.ValuesApart.{values-apart}

-- ---- a header that is listed to its end

pub missing-listed : ListedHeadersTellMissingValues
missing-listed bytes r h report same =
    let l = r.listing in
    let spelled = subst (IsOutcome bytes report.listing.rest) same report.listing.header in
    report-tells is_missing is_of_missing of-missing bytes r h report same
    ∙ missing-found h bytes l.end (spelled-layout lenient bytes h report.listing.rest l.end spelled report.listing.end)

pub apart-listed : ListedHeadersHaveSlabsApart
apart-listed bytes r h report same none =
    let kind = is_of_shared_bytes in
    quiet-apart (layout_of h r.listing.end (length bytes))
    (sym (report-tells (is_of_layout kind) kind (of-layout kind) bytes r h report same) ∙ none)

-- ---- a header that isn't

abbrev is_error : Severity → Bool
is_error Error = true
is_error severity = false

abbrev tells_error : Fact → Bool
tells_error fact = is_error (severity_of (kind_of fact))

own-error : (start : Bytes) (i : ℕ) (e : Entry) (o : Option FormatFault) (fault : FormatFault) → o ≡ Some fault → tells_error (fault_fact start fault) ≡ true
    → has_any tells_error (map (finding (field_at i e)) (facts_with start o e.place.field e.size e.content)) ≡ true
own-error start i e o fault is error = rw is (grind arith)

finds-error : (start : Bytes) (len i : ℕ) (es : List Entry) (fs : List Field) (fault : FormatFault) → map seen_by es ≡ map (seen len) fs → HasFault fault fs
    → is_floating_fault fault ≡ false → has_any tells_error (flat_map (findings_at start) (indexed_from i es)) ≡ true
unfolding seen
finds-error start len i [] [] fault same h plain = absurd h
finds-error start len i [] (f ∷ fs) fault same h plain = absurd cc
finds-error start len i (e ∷ es) [] fault same h plain = absurd cc
finds-error start len i (e ∷ es) (f ∷ fs) fault same (inl is) plain =
    let first : seen_by e ≡ seen len f = cc in
    let error = fault-fact (λ x. tells_error x ≡ true) start fault refl refl refl (grind arith) in
    first-told (λ f. tells_error f.fact) (findings_at start (field_at i e)) (flat_map (findings_at start) (indexed_from (i + 1) es))
    (own-error start i e e.fault fault (ap (λ (s : Seen). s.fault) first ∙ is) error)
finds-error start len i (e ∷ es) (f ∷ fs) fault same (inr h) plain =
    let others : map seen_by es ≡ map (seen len) fs = cc in
    later-told (λ f. tells_error f.fact) (findings_at start (field_at i e)) (flat_map (findings_at start) (indexed_from (i + 1) es))
    (finds-error start len (i + 1) es fs fault others h plain)

-- if reading stops, then an error is found
stopped-finds : (bytes : Bytes) (r : Report) (fault : FormatFault) → IsReport bytes r → r.listing.header ≡ Err fault
    → has_any tells_error r.findings ≡ true
unfolding field_findings header_findings all_findings
stopped-finds bytes r fault report same =
    let l = r.listing in
    let rest = report.listing.rest in
    let told = stops (header_by lenient) bytes fault rest (subst (IsOutcome bytes rest) same report.listing.header) in
    let shown = subst (λ o. Shows o (fields [] (header_by lenient) bytes)) told (shown-faults bytes) in
    let found = finds-error l.start (length bytes) 0 l.entries (fields [] (header_by lenient) bytes) fault report.listing.entries shown.0 shown.1 in
    sym (list_any-IsPermutation (λ (f : Finding). tells_error f.fact) (all_findings l) r.findings report.all)
    ∙ grind (arith, list_any-append)

-- ---- no error

no-error : (r : Report) → HasNoError r → has_any tells_error r.findings ≡ false
no-error r none = list_any_none (λ (f : Finding). tells_error f.fact) r.findings (λ k d lt. grind (arith, none k d lt))

header-listed : (bytes : Bytes) (r : Report) → IsReport bytes r → HasNoError r → (o : Result Header FormatFault) → r.listing.header ≡ o
    → (h : Header) × (r.listing.header ≡ Ok h)
header-listed bytes r report none (Ok h) same = (h, same)
header-listed bytes r report none (Err fault) same =
    absurd (let never = sym (no-error r none) ∙ stopped-finds bytes r fault report same in cc)

pub values-had : ReportsWithoutErrorsHaveValues
values-had bytes r report none =
    let listed = header-listed bytes r report none r.listing.header refl in
    let h = listed.0 in
    let missing = fewer tells_error is_missing (λ x plain. grind arith) r.findings (no-error r none) in
    let shared = fewer tells_error (is_of_layout is_of_shared_bytes) (λ x plain. grind arith) r.findings (no-error r none) in
    let slabs = apart-listed bytes r h report listed.1 shared in (
      h,
      listed.1,
      record { whole = sym (missing-listed bytes r h report listed.1) ∙ missing; slabs = slabs; apart = values-apart h r.listing.end (length bytes) slabs },
    )
