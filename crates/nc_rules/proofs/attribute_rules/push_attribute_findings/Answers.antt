use Rattle.nc_rules.proofs.Prelude.{option_to_list, Finding, Ahead, Indexed, field_at, indexed, indexed_from, ahead_of, attribute_finding, attribute_findings, finding_by_kind, is_first, ahead_with, each_backward, ◌≡◌, ◌-◌, ◌++◌, Bool, List, drop, ap, sym, ◌∙◌, append_assoc, arith}
use Rattle.nc_rules.proofs.IndexedLists.{rest-before, ahead_with-is, each_backward-permutation}
use Rattle.nc_rules.proofs.NameKeys.{first-of}
use Rattle.nc_rules.proofs.attribute_rules.push_attribute_findings.Goals as goal

pub loop-i-preserved : goal.loop-i-preserved
loop-i-preserved c =
    let es = c.args.entries.now in
    let n = c.loop-i.i in
    let f = field_at (n - 1) c.index-entries-i.result in
    let after = indexed_from n (drop n es) in
    let old : List Finding = c.args.found.now in
    let rule = attribute_finding (indexed es) in
    let later = each_backward rule after in
    let place = f.entry.place.field in
    let first = is_first (indexed es) f in
    let next = rest-before es n c.index-entries-i.result c.loop-i-test.true c.loop-i.auto.i c.index-entries-i.is in
    record {
      ahead = c.put_before.ensures ∙ ap (ahead_with f) c.loop-i.invariant.ahead ∙ ahead_with-is f after ∙ ap ahead_of (sym next);
      found = c.in_ok-push_attribute_finding.ensures
          ∙ ap (λ (b : Bool). c.loop-i.found ++ option_to_list (finding_by_kind b place f c.loop-i.ahead))
          (first-of c.args.names.now (indexed es) f c.requires)
          ∙ ap (λ (xs : List Finding). xs ++ option_to_list (finding_by_kind first place f c.loop-i.ahead)) c.loop-i.invariant.found
          ∙ append_assoc old later _
          ∙ ap (λ (a : Ahead). old ++ (later ++ option_to_list (finding_by_kind first place f a))) c.loop-i.invariant.ahead
          ∙ ap (λ (fs : List Indexed). old ++ each_backward rule fs) (sym next);
    }

pub returns : goal.returns
unfolding attribute_findings
returns c =
    let es = c.args.entries.now in
    let old : List Finding = c.args.found.now in
    let rule = attribute_finding (indexed es) in
    let first : c.loop-i.i ≡ 0 = omega arith in (
      each_backward rule (indexed es),
      c.loop-i.invariant.found ∙ ap (λ n. old ++ each_backward rule (indexed_from n (drop n es))) first,
      each_backward-permutation rule (indexed es),
    )
