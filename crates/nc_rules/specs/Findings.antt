-- Definition. All that is found in a file with a listing, and the order of findings.
use Rattle.std.specs.Prelude.{◌≡◌, ◌++◌, false, List}
use Rattle.std.specs.declared.cmp.Ordering.{Ordering}
use Rattle.std.specs.Option.{option_cmp}
use Rattle.std.specs.Ordering.{is_gt, nat_cmp, ordering_then}
use Rattle.nc_findings.specs.declared.{finding.Finding.Finding, listing.Listing.Listing}
use Rattle.nc_findings.specs.contracts.finding.FactOrd.TheImpl as facts
use Rattle.nc_findings.specs.contracts.kind.KindOrd.TheImpl as kinds
use Rattle.nc_findings.specs.Kinds.{kind_of}
use Rattle.nc_rules.specs.HeaderRules.{header_findings}
use Rattle.nc_rules.specs.WholeHeader.{whole_findings}

-- all that is found in a file with this listing
unfoldable pub all_findings : Listing → List Finding
all_findings l = header_findings l.start l.entries ++ whole_findings l

-- by offset; then by kind, in the order of the kinds; then by fact, in the order of the facts and of the numbers that they have; then by
-- field, with none first
abbrev pub finding_cmp : Finding → Finding → Ordering
finding_cmp f g =
    ordering_then
    (ordering_then
    (ordering_then (nat_cmp f.offset g.offset) (kinds.ghosts.cmp (kind_of f.fact) (kind_of g.fact)))
    (facts.ghosts.cmp f.fact g.fact))
    (option_cmp nat_cmp f.field g.field)

-- a finding doesn't come after another one
abbrev pub IsInOrder : Finding → Finding → Type 0
IsInOrder f g = is_gt (finding_cmp f g) ≡ false
