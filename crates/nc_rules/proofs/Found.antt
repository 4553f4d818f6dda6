-- All findings of a listing, and their order.
use Rattle.nc_rules.proofs.Prelude.{IsPermutation, IsTotalOrder, options_total, nat_cmp_total, on_total, then_total, IsPermutation-trans, IsPermutation-append_left, Listing, Fact, Finding, Kind, header_findings, whole_findings, all_findings, finding_cmp, ℕ, ◌++◌, List, Option}
use Rattle.nc_findings.specs.contracts.finding.FactOrd.TheImpl.Laws as fact_laws
use Rattle.nc_findings.specs.contracts.kind.KindOrd.TheImpl.Laws as kind_laws
use Rattle.nc_findings.specs.Kinds.{kind_of}

-- what the findings are sorted by
abbrev pub key : Finding → ℕ × Kind × Fact × Option ℕ
key f = (f.offset, kind_of f.fact, f.fact, f.field)

pub findings-total : IsTotalOrder finding_cmp
findings-total =
    then_total
    (then_total (then_total (on_total (λ (f : Finding). f.offset) nat_cmp_total) (on_total (λ (f : Finding). kind_of f.fact) kind_laws.total-law))
    (on_total (λ (f : Finding). f.fact) fact_laws.total-law))
    (on_total (λ (f : Finding). f.field) (options_total nat_cmp_total))

pub all-found : (l : Listing) (of_header more found : List Finding) → IsPermutation (header_findings l.start l.entries) of_header → IsPermutation (of_header ++ whole_findings l) more → IsPermutation more found
    → IsPermutation (all_findings l) found
unfolding all_findings
all-found l of_header more found p q r =
    IsPermutation-trans _ more found (IsPermutation-trans _ (of_header ++ whole_findings l) more (IsPermutation-append_left (whole_findings l) (header_findings l.start l.entries) of_header p) q) r
