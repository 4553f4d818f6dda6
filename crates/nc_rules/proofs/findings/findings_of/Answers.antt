use Rattle.nc_rules.proofs.Prelude.{IsPermutation, Entry, header_findings, List, subst}
use Rattle.nc_types.specs.Bytes.{Bytes}
use Rattle.nc_rules.proofs.Found.{all-found}
use Rattle.nc_rules.proofs.findings.findings_of.Goals as goal

pub returns-clause-all : goal.returns-clause-all
returns-clause-all c sound =
    let of_fields = subst (λ (start : Bytes). IsPermutation (header_findings start c.as_slice.result.now) c.in_ok-found.found) c.as_slice-start.ensures c.in_ok-found.ensures in
    all-found c.args.listing.now _ _ _ (subst (λ (es : List Entry). IsPermutation (header_findings c.args.listing.now.start es) c.in_ok-found.found) c.as_slice.ensures of_fields)
    (c.in_ok-push_whole_findings.ensures sound) c.in_order.ensures.all
