-- Definition. A finding under a condition.
use Rattle.std.specs.Prelude.{Bool, if◌then◌else◌, Option, None, Some}
use Rattle.nc_findings.specs.declared.{layout_fact.LayoutPlace.LayoutPlace, layout_fact.LayoutFact.LayoutFact, layout_fact.LayoutFinding.LayoutFinding}

-- a finding, if the condition holds
abbrev pub finding_if : Bool → LayoutPlace → LayoutFact → Option LayoutFinding
finding_if holds place fact = if holds then Some (record { place = place; fact = fact }) else None
