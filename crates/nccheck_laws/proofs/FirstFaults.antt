-- The first fault of a report is that of the first entry that the strict rules refuse.
use Rattle.nccheck_laws.proofs.Prelude.{nat_tests, list_any, list_any-append, list_any-IsPermutation, Contains, All-cons, Contains-append_right, FormatFault, FloatingType, Bytes, header_part, header_by, run, Entry, lenient, first_refusal, header_fields, Fact, Finding, Report, Indexed, field_at, indexed_from, finding, facts_of, findings_at, field_findings, floating_findings, header_findings, all_findings, IsReport, is_fault, All-contains, All-permutation, left_after, is_floating_in, floating_finding, is_eq, tied_itself, All-head, All-tail, Contains-append_cases, Any-from_list_any, strict_fault, HasNoFault, IsReadable, FindsFirst, FaultlessHeadersAreReadable, FirstFaultIsReaders, min, ◌≡◌, ◌==◌, ◌&&◌, ℕ, ◌+◌, ◌≤◌, ◌⊎◌, inl, inr, Bool, true, false, List, [], ◌∷◌, ◌++◌, length, map, flat_map, Option, Some, None, refl, sym, ap, ◌∙◌, subst, arith, le_refl, All, option_to_list, contains-here}
use Rattle.nc_base.specs.contracts.fault.FormatFaultOrd.TheImpl as faults
use Rattle.nc_base.specs.contracts.fault.FormatFaultOrd.TheImpl.Laws as fault_laws
use Rattle.nc_base.proofs.PartPlaces.{stops-in}
use Rattle.nccheck_laws.proofs.FieldOrder.{fields-descend}
use Rattle.nccheck_laws.proofs.StrictHeaders.{strict-headers, unrefused-headers, strict-faults}
use Rattle.nccheck_laws.proofs.Refusals.{refusal_of, FirstRefused, none-refused, first-refused}
use Rattle.nccheck_laws.proofs.FaultFindings.{fault_among, facts-fault, floating-fault, quiet-type}
use Rattle.nccheck_laws.proofs.QuietRules.{FaultsLieAt, RefusedLiesAt, all-lie}
use Rattle.nccheck_laws.proofs.SameFindings.{same-fault}

-- ---- a finding at the first entry that is refused

abbrev is_same : Option FormatFault → FormatFault → Bool
is_same (Some a) b = is_eq (faults.ghosts.cmp a b)
is_same None b = false

-- the finding is this fault, at this offset
abbrev tells : FormatFault → ℕ → Finding → Bool
tells fault offset f = is_same (strict_fault f.fact) fault && (f.offset == offset)

itself : (fault : FormatFault) → is_eq (faults.ghosts.cmp fault fault) ≡ true
itself fault = ap is_eq (tied_itself fault_laws.total-law fault)

same-told : (o : Option FormatFault) (fault : FormatFault) → is_same o fault ≡ true → o ≡ Some fault
same-told o fault is = grind (arith, same-fault)

facts-tell : (fault : FormatFault) (i : Indexed) (facts : List Fact) → fault_among facts ≡ Some fault
    → list_any (tells fault i.entry.offset) (map (finding i) facts) ≡ true
facts-tell fault i [] is = absurd cc
facts-tell fault i (x ∷ facts) is = grind (arith, nat_tests, itself fault, facts-tell fault i facts)

-- a test that some finding passes, or a later one
pub first-told : (test : Finding → Bool) (xs ys : List Finding) → list_any test xs ≡ true → list_any test (xs ++ ys) ≡ true
first-told test xs ys is = grind (arith, list_any-append)

pub later-told : (test : Finding → Bool) (xs ys : List Finding) → list_any test ys ≡ true → list_any test (xs ++ ys) ≡ true
later-told test xs ys is = grind (arith, list_any-append)

fields-tell : (start : Bytes) (fault : FormatFault) (i : ℕ) (front : List Entry) (e : Entry) (back : List Entry) → fault_among (facts_of start e) ≡ Some fault
    → list_any (tells fault e.offset) (flat_map (findings_at start) (indexed_from i (front ++ e ∷ back))) ≡ true
fields-tell start fault i [] e back is =
    first-told (tells fault e.offset) (findings_at start (field_at i e)) (flat_map (findings_at start) (indexed_from (i + 1) back))
    (facts-tell fault (field_at i e) (facts_of start e) is)
fields-tell start fault i (x ∷ front) e back is =
    later-told (tells fault e.offset) (findings_at start (field_at i x)) (flat_map (findings_at start) (indexed_from (i + 1) (front ++ e ∷ back)))
    (fields-tell start fault (i + 1) front e back is)

-- the first floating type
floating-tells : (i : ℕ) (front : List Entry) (e : Entry) (back : List Entry) → All (λ (x : Entry). refusal_of x ≡ None) front
    → is_floating_in e.place.field e.content ≡ true
    → list_any (tells FloatingType e.offset) (option_to_list (floating_finding (indexed_from i (front ++ e ∷ back)))) ≡ true
floating-tells i [] e back none is = grind (arith, nat_tests, itself FloatingType)
floating-tells i (x ∷ front) e back none is =
    let first = quiet-type x (All-head (λ (x : Entry). refusal_of x ≡ None) x front none) in
    grind (arith, floating-tells (i + 1) front e back (All-tail (λ (x : Entry). refusal_of x ≡ None) x front none) is)

entries-tell : (start : Bytes) (fault : FormatFault) (front : List Entry) (e : Entry) (back : List Entry)
    → All (λ (x : Entry). refusal_of x ≡ None) front → refusal_of e ≡ Some fault
    → list_any (tells fault e.offset) (header_findings start (front ++ e ∷ back)) ≡ true
unfolding header_findings field_findings floating_findings
entries-tell start fault front e back none refused = by-floating (is_floating_in e.place.field e.content) refl
  where
    by-floating : (b : Bool) → is_floating_in e.place.field e.content ≡ b
        → list_any (tells fault e.offset) (header_findings start (front ++ e ∷ back)) ≡ true
    by-floating true is =
        let told = floating-tells 0 front e back none is in grind (arith, list_any-append, floating-fault e fault refused is)
    by-floating false plain =
        let told = fields-tell start fault 0 front e back (facts-fault start e.size e.content e.place.field e.place.owner e.fault plain ∙ refused) in
        grind (arith, list_any-append)

-- ---- no fault before it

after-first : (len : ℕ) (es : List Entry) (fault : FormatFault) (rest : Bytes) (r : FirstRefused len es fault rest) (x : Entry)
    → Contains es x → RefusedLiesAt (λ n. r.entry.offset ≤ n) x
after-first len es fault rest r x has = by-cases (Contains-append_cases r.front (r.entry ∷ r.back) x (subst (λ es. Contains es x) r.is has))
  where
    by-cases : Contains r.front x ⊎ Contains (r.entry ∷ r.back) x → RefusedLiesAt (λ n. r.entry.offset ≤ n) x
    by-cases (inl before) = inl (All-contains (λ (e : Entry). refusal_of e ≡ None) r.front x r.before before)
    by-cases (inr after) =
        inr (All-contains (λ (e : Entry). r.entry.offset ≤ e.offset) (r.entry ∷ r.back) x
        (All-cons (λ (e : Entry). r.entry.offset ≤ e.offset) r.entry r.back (le_refl r.entry.offset) r.after) after)

-- ---- the laws

refused-first : (bytes : Bytes) (r : Report) (fault : FormatFault) (rest : Bytes) → IsReport bytes r
    → first_refusal (header_fields bytes) ≡ Some (fault, rest) → FirstRefused (length bytes) r.listing.entries fault rest
refused-first bytes r fault rest report refused =
    first-refused (length bytes) (length bytes) (left_after (run (header_by lenient) bytes))
    (header_fields bytes) r.listing.entries fault rest report.listing.entries
    (le_refl (length bytes)) (fields-descend [] (header_by lenient) bytes) refused

report-tells : (bytes : Bytes) (r : Report) (fault : FormatFault) (rest : Bytes) → IsReport bytes r
    → (first : FirstRefused (length bytes) r.listing.entries fault rest) → list_any (tells fault first.entry.offset) r.findings ≡ true
unfolding all_findings
report-tells bytes r fault rest report first =
    sym (list_any-IsPermutation (tells fault first.entry.offset) (all_findings r.listing) r.findings report.all)
    ∙ grind (arith, list_any-append, entries-tell r.listing.start fault first.front first.entry first.back first.before first.refused)

finds-first : (bytes : Bytes) (r : Report) (fault : FormatFault) (rest : Bytes) (end : ℕ) → IsReport bytes r
    → FirstRefused (length bytes) r.listing.entries fault rest → end + length rest ≡ length bytes → FindsFirst r fault end
finds-first bytes r fault rest end report first at =
    let low = λ (n : ℕ). first.entry.offset ≤ n in
    let found = Any-from_list_any (tells fault first.entry.offset) r.findings (report-tells bytes r fault rest report first) in
    let is : is_same (strict_fault found.1.fact) fault ≡ true = grind arith in
    let begins : found.1.offset ≡ first.entry.offset = grind (arith, nat_tests) in
    let ended : end ≡ min (first.entry.offset + first.entry.size) (length bytes) = omega (arith, first.ends.within, first.ends.left) in
    record {
      found = found.1;
      in_report = (found.0, found.2, found.3);
      fact = same-told (strict_fault found.1.fact) fault is;
      first = subst (λ n. All (λ (f : Finding). is_fault f.fact ≡ true → n ≤ f.offset) r.findings) (sym begins)
          (All-permutation (FaultsLieAt low) (all_findings r.listing) r.findings report.all
          (all-lie low r.listing (after-first (length bytes) r.listing.entries fault rest first)));
      field = first.entry;
      in_listing = subst (λ (es : List Entry). Contains es first.entry) (sym first.is)
          (Contains-append_right first.front (first.entry ∷ first.back) first.entry (contains-here first.entry first.back));
      begins = begins;
      ends = subst (λ n. end ≡ min (first.entry.offset + first.entry.size) n) (sym report.listing.file_len) ended;
    }

pub first-fault : FirstFaultIsReaders
first-fault bytes r fault end report stop =
    let stopped = (stops-in header_part bytes stop.steps stop.from_start fault stop.rest stop.stops).0 in
    finds-first bytes r fault stop.rest end report
    (refused-first bytes r fault stop.rest report ((strict-faults bytes fault stop.rest).0 stopped)) stop.ends

-- a report without a fault
readable : (bytes : Bytes) (r : Report) → IsReport bytes r → HasNoFault r → (o : Option (FormatFault × Bytes))
    → first_refusal (header_fields bytes) ≡ o → IsReadable bytes
readable bytes r report none None is = unrefused-headers bytes is
readable bytes r report none (Some (fault, rest)) is =
    let first = refused-first bytes r fault rest report is in
    let found = Any-from_list_any (tells fault first.entry.offset) r.findings (report-tells bytes r fault rest report first) in
    let quiet = All-contains (λ (f : Finding). is_fault f.fact ≡ false) r.findings found.1 none (found.0, found.2, found.3) in
    absurd (grind (arith, same-told (strict_fault found.1.fact) fault))

no-fault : (bytes : Bytes) (r : Report) → IsReport bytes r → first_refusal (header_fields bytes) ≡ None → HasNoFault r
no-fault bytes r report none =
    let quiet = none-refused (length bytes) (header_fields bytes) r.listing.entries report.listing.entries none in
    let lie = all-lie (λ n. ⊥) r.listing (λ x has. inl (All-contains (λ (e : Entry). refusal_of e ≡ None) r.listing.entries x quiet has)) in
    let all = All-permutation (FaultsLieAt (λ n. ⊥)) (all_findings r.listing) r.findings report.all lie in
    λ k x lt. grind (arith, all k x lt)

pub faultless : FaultlessHeadersAreReadable
faultless bytes r report = (
  λ none. readable bytes r report none (first_refusal (header_fields bytes)) refl,
  λ is. no-fault bytes r report (strict-headers bytes is.0 is.1 is.2).1,
)
