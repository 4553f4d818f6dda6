-- For contracts. One pass over the blocks in their order.
use Rattle.std.specs.Prelude.{◌≡◌, ℕ, ◌-◌, max, nat_lt, nat_le, ◌&&◌, if◌then◌else◌, List, [], ◌∷◌, ◌++◌, Option, Some, None, IsPermutation, flat_map}
use Rattle.std.specs.Option.{option_to_list, option_and_then, option_map_or}
use Rattle.nc_layout.specs.declared.{blocks.Extent.Extent, block_rules.Reached.Reached}
use Rattle.nc_findings.specs.declared.{layout_fact.LayoutFinding.LayoutFinding}
use Rattle.nc_findings.specs.declared.layout_fact.LayoutPlace.TheVariants as places
use Rattle.nc_findings.specs.declared.layout_fact.LayoutFact.TheVariants as facts
use Rattle.nc_layout.specs.FindingIf.{finding_if}
use Rattle.nc_layout.specs.BlockRules.{block_findings}

abbrev pub value_end : Extent → ℕ
value_end b = b.end

abbrev pub padding_end : Extent → ℕ
padding_end b = b.padded_end

-- of some block and the next one, the one that ends later; the first, if they end at one offset
abbrev pub further : (Extent → ℕ) → Option Extent → Extent → Option Extent
further end None next = Some next
further end (Some b) next = Some (if nat_lt (end b) (end next) then next else b)

-- what the blocks reach, with one more
abbrev pub reached_with : Reached → Extent → Reached
reached_with reached b =
    record { values = further value_end reached.values b; padding = further padding_end reached.padding b }

-- before the first block
abbrev pub nothing_reached : Reached
nothing_reached = record { values = None; padding = None }

-- the end of a block, if there is one
abbrev pub end_of : (Extent → ℕ) → Option Extent → ℕ
end_of end b = option_map_or end b 0

abbrev pub overlap_after : Reached → Extent → Option LayoutFinding
overlap_after reached b =
    option_and_then (λ (c : Extent). finding_if (nat_lt b.begin c.end) (places.Begin b.var) (facts.Overlap b.begin c.end c.block))
    reached.values

abbrev pub unpadded_after : Reached → Extent → Option LayoutFinding
unpadded_after reached b =
    option_and_then (λ (c : Extent).
    finding_if (nat_le (end_of value_end reached.values) b.begin && nat_lt b.begin c.padded_end) (places.Begin b.var)
    (facts.Unpadded b.begin c.padded_end c.block))
    reached.padding

abbrev pub gap_after : ℕ → Reached → Extent → Option LayoutFinding
gap_after header_end reached b =
    let end = max header_end (end_of padding_end reached.padding) in
    finding_if (nat_lt end b.begin) (places.Data end) (facts.Gap (b.begin - end) b.block)

-- the findings at the begin of this block, after blocks that reach this far
abbrev pub findings_at : ℕ → Reached → Extent → List LayoutFinding
findings_at header_end reached b =
    option_to_list (overlap_after reached b) ++ option_to_list (unpadded_after reached b) ++ option_to_list (gap_after header_end reached b)

-- the findings at each of these blocks, after blocks that reach this far
abbrev pub swept : ℕ → Reached → List Extent → List LayoutFinding
swept header_end reached [] = []
swept header_end reached (b ∷ bs) = findings_at header_end reached b ++ swept header_end (reached_with reached b) bs

-- the findings at these blocks have been appended, in some order
abbrev pub AppendedBlockFindings : ℕ → List Extent → List LayoutFinding → List LayoutFinding → Type 0
AppendedBlockFindings header_end bs old new =
    (found : List LayoutFinding) × (new ≡ old ++ found) × IsPermutation (flat_map (block_findings header_end bs) bs) found
