-- Definition. Findings at the begin of a block, from the blocks that precede it: it begins inside of one of them (netCDF-C's
-- `NC_check_voffs` refuses that), inside of the padding of one, or some bytes after them. The NetCDF Classic Format Specification pads the
-- data of each variable, and allows unused bytes.
use Rattle.std.specs.Prelude.{ℕ, ◌-◌, max, not, nat_lt, nat_le, ◌==◌, ◌&&◌, List, ◌++◌, filter, map, fold, find, Option}
use Rattle.std.specs.List.{list_any}
use Rattle.std.specs.Option.{option_to_list, option_map_or}
use Rattle.nc_layout.specs.declared.{blocks.Extent.Extent}
use Rattle.nc_findings.specs.declared.{layout_fact.LayoutFinding.LayoutFinding}
use Rattle.nc_findings.specs.declared.layout_fact.Block.{Block}
use Rattle.nc_findings.specs.declared.layout_fact.Block.TheVariants.{Records}
use Rattle.nc_findings.specs.declared.layout_fact.LayoutPlace.TheVariants as places
use Rattle.nc_findings.specs.declared.layout_fact.LayoutFact.TheVariants as facts
use Rattle.nc_layout.specs.Blocks.{precedes, before}
use Rattle.nc_layout.specs.FindingIf.{finding_if}

-- the greatest end of these blocks, with or without their padding (`end` says which); 0 if there are none
abbrev pub greatest_end : (Extent → ℕ) → List Extent → ℕ
greatest_end end bs = fold max 0 (map end bs)

-- the first of these blocks in the order: none precedes it
abbrev pub first_block : List Extent → Option Extent
first_block bs = find (λ b. not (list_any (λ c. precedes c b) bs)) bs

-- the first of these blocks that has their greatest end
abbrev pub first_at_end : (Extent → ℕ) → List Extent → Option Extent
first_at_end end bs = first_block (filter (λ b. end b == greatest_end end bs) bs)

-- what that block belongs to (of no use without blocks)
abbrev pub block_at_end : (Extent → ℕ) → List Extent → Block
block_at_end end bs = option_map_or (λ (b : Extent). b.block) (first_at_end end bs) Records

-- it begins before the values of an earlier block end
abbrev pub overlap : List Extent → Extent → Option LayoutFinding
overlap earlier b =
    let end = greatest_end (λ (c : Extent). c.end) earlier in
    finding_if (nat_lt b.begin end) (places.Begin b.var) (facts.Overlap b.begin end (block_at_end (λ (c : Extent). c.end) earlier))

-- it begins before the padding of an earlier block ends, but after all values of earlier ones
abbrev pub unpadded : List Extent → Extent → Option LayoutFinding
unpadded earlier b =
    let end = greatest_end (λ (c : Extent). c.padded_end) earlier in
    finding_if (nat_le (greatest_end (λ (c : Extent). c.end) earlier) b.begin && nat_lt b.begin end) (places.Begin b.var)
    (facts.Unpadded b.begin end (block_at_end (λ (c : Extent). c.padded_end) earlier))

-- it begins after the header and the padding of all earlier blocks
abbrev pub gap : ℕ → List Extent → Extent → Option LayoutFinding
gap header_end earlier b =
    let end = max header_end (greatest_end (λ (c : Extent). c.padded_end) earlier) in
    finding_if (nat_lt end b.begin) (places.Data end) (facts.Gap (b.begin - end) b.block)

-- all findings at the begin of a block, if these blocks precede it
abbrev pub findings_after : ℕ → List Extent → Extent → List LayoutFinding
findings_after header_end earlier b =
    option_to_list (overlap earlier b) ++ option_to_list (unpadded earlier b) ++ option_to_list (gap header_end earlier b)

-- all findings at the begin of a block of these
unfoldable pub block_findings : ℕ → List Extent → Extent → List LayoutFinding
block_findings header_end bs b = findings_after header_end (before bs b) b
