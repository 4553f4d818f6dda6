-- Definition. Findings at the number of records (`numrecs` of the NetCDF Classic Format Specification, which lets a writer put the mark
-- `STREAMING` there).
use Rattle.std.specs.Prelude.{true, nat_lt, ◌&&◌, List, ◌++◌, is_none, Option, None}
use Rattle.std.specs.Option.{option_to_list}
use Rattle.nc_base.specs.declared.header.NumRecs.{NumRecs}
use Rattle.nc_base.specs.declared.header.NumRecs.TheVariants.{Known, Streaming}
use Rattle.nc_layout.specs.declared.{slot.FileLayout.FileLayout}
use Rattle.nc_findings.specs.declared.{layout_fact.LayoutFinding.LayoutFinding}
use Rattle.nc_findings.specs.declared.layout_fact.LayoutPlace.TheVariants as places
use Rattle.nc_findings.specs.declared.layout_fact.LayoutFact.TheVariants as facts
use Rattle.nc_layout.specs.Slots.{records_begin, records_by_length}
use Rattle.nc_layout.specs.FindingIf.{finding_if}

-- the mark in place of a number
abbrev pub streaming : FileLayout → NumRecs → Option LayoutFinding
streaming layout (Known n) = None
streaming layout Streaming = finding_if true places.NumRecs (facts.Streaming (records_by_length layout))

-- records without a record slot
abbrev pub unused_records : FileLayout → NumRecs → Option LayoutFinding
unused_records layout (Known n) = finding_if (nat_lt 0 n && is_none (records_begin layout.slots)) places.NumRecs (facts.UnusedRecords n)
unused_records layout Streaming = None

unfoldable pub numrecs_findings : FileLayout → List LayoutFinding
numrecs_findings layout = option_to_list (streaming layout layout.numrecs) ++ option_to_list (unused_records layout layout.numrecs)
