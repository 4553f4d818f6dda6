use Rattle.nc_rules.proofs.Prelude.{IsPermutation, IsPermutation-append_right, Finding, header_findings, ◌≡◌, List, [], ◌++◌, sym, subst, arith, append_assoc}
use Rattle.nc_rules.proofs.header_rules.header_findings.Goals as goal

-- what has been appended part by part, the last part in another order
appended : (a b c d found start one two three : List Finding) → start ≡ [] → one ≡ start ++ a → two ≡ one ++ b → three ≡ two ++ c
    → IsPermutation d found → IsPermutation (a ++ b ++ c ++ d) (three ++ found)
appended a b c d found start one two three is0 is1 is2 is3 same = grind (arith, append_assoc, IsPermutation-append_right (a ++ b ++ c) d found same)

pub returns : goal.returns
unfolding header_findings
returns c =
    let attributes = c.in_ok-push_attribute_findings.ensures in
    subst (λ (xs : List Finding). IsPermutation (header_findings c.args.start.now c.args.entries.now) xs) (sym attributes.1)
    (appended _ _ _ _ attributes.0 _ _ _ _ c.new-found.ensures c.in_ok-push_field_findings.ensures c.in_ok-push_floating_finding.ensures
    c.in_ok-names.ensures.found attributes.2)
