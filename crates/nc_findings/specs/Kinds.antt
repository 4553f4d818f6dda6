-- Definition. The kinds of findings, how grave each is, and their words.
use Rattle.std.specs.Prelude.{codes}
use Rattle.nc_types.specs.Bytes.{Bytes}
use Rattle.nc_base.specs.declared.fault.FormatFault.{FormatFault}
use Rattle.nc_base.specs.declared.fault.FormatFault.TheVariants as fault
use Rattle.nc_findings.specs.declared.layout_fact.LayoutFact.{LayoutFact}
use Rattle.nc_findings.specs.declared.layout_fact.LayoutFact.TheVariants as layout
use Rattle.nc_findings.specs.declared.{finding.Fact.Fact, kind.Kind.Kind, kind.Severity.Severity}
use Rattle.nc_findings.specs.declared.finding.Fact.TheVariants as fact
use Rattle.nc_findings.specs.declared.kind.Kind.TheVariants.{NotNetcdf, Hdf5, Hdf5Truncated, Gzip, EmptyFile, UnknownVersion, HeaderTruncated, BadTag, BadCount, BadName, NameCharacters, FloatingType, BadType, BadShape, TwoRecordDims, TooLarge, BadOffset, LargeCount, Streaming, UnusedRecords, EmptyList, LongName, DuplicateName, NotNfc, Padding, EmptyAttribute, TrailingNul, FillValue, HighRank, Vsize, OddVsize, LargeVariable, BeginInHeader, Overlap, Unpadded, Order, AfterRecords, RecordPlace, Gap, Missing, EndPadding, Trailing}
use Rattle.nc_findings.specs.declared.kind.Severity.TheVariants.{Error, Violation, Note}

-- ---- of facts

abbrev pub kind_of_fault : FormatFault → Kind
kind_of_fault fault.NotNetcdf = NotNetcdf
kind_of_fault (fault.UnknownVersion version) = UnknownVersion
kind_of_fault fault.HeaderTruncated = HeaderTruncated
kind_of_fault fault.BadTag = BadTag
kind_of_fault fault.BadCount = BadCount
kind_of_fault fault.BadName = BadName
kind_of_fault fault.FloatingType = FloatingType
kind_of_fault fault.BadType = BadType
kind_of_fault fault.BadShape = BadShape
kind_of_fault fault.TwoRecordDims = TwoRecordDims
kind_of_fault fault.BadOffset = BadOffset
kind_of_fault fault.TooLarge = TooLarge

abbrev pub kind_of_layout : LayoutFact → Kind
kind_of_layout (layout.Streaming n) = Streaming
kind_of_layout (layout.UnusedRecords n) = UnusedRecords
kind_of_layout (layout.LargeVariable var n limit) = LargeVariable
kind_of_layout (layout.BeginInHeader begin end) = BeginInHeader
kind_of_layout (layout.Overlap begin end of) = Overlap
kind_of_layout (layout.Unpadded begin end of) = Unpadded
kind_of_layout (layout.Order begin least of) = Order
kind_of_layout (layout.AfterRecords begin most) = AfterRecords
kind_of_layout (layout.RecordPlace begin place) = RecordPlace
kind_of_layout (layout.Gap n of) = Gap
kind_of_layout (layout.Missing n end of) = Missing
kind_of_layout (layout.EndPadding n end) = EndPadding
kind_of_layout (layout.Trailing n end records) = Trailing

abbrev pub kind_of : Fact → Kind
kind_of (fact.Fault fault) = kind_of_fault fault
kind_of fact.Hdf5 = Hdf5
kind_of (fact.Hdf5Truncated file_len end) = Hdf5Truncated
kind_of fact.Gzip = Gzip
kind_of fact.EmptyFile = EmptyFile
kind_of fact.NameCharacters = NameCharacters
kind_of fact.LargeCount = LargeCount
kind_of fact.EmptyList = EmptyList
kind_of fact.LongName = LongName
kind_of (fact.DuplicateName first) = DuplicateName
kind_of fact.NotNfc = NotNfc
kind_of fact.Padding = Padding
kind_of fact.EmptyAttribute = EmptyAttribute
kind_of fact.TrailingNul = TrailingNul
kind_of (fact.FillType code) = FillValue
kind_of fact.FillCount = FillValue
kind_of fact.HighRank = HighRank
kind_of (fact.Vsize size) = Vsize
kind_of (fact.OddVsize size) = OddVsize
kind_of (fact.Layout fact) = kind_of_layout fact

-- ---- of kinds

-- A note is legal or without any effect, but odd. A violation breaks a rule of the format or a limit of netCDF-C, or netCDF-C may read it as
-- something else, but each value can be had. All others are errors: values can't be had, or can't be trusted. The header can't be read on,
-- values aren't in the file, or netCDF-C refuses to open it.
abbrev pub severity_of : Kind → Severity
severity_of FloatingType = Note
severity_of UnusedRecords = Note
severity_of EmptyList = Note
severity_of EmptyAttribute = Note
severity_of TrailingNul = Note
severity_of OddVsize = Note
severity_of Gap = Note
severity_of EndPadding = Note
severity_of NameCharacters = Violation
severity_of LargeCount = Violation
severity_of Streaming = Violation
severity_of LongName = Violation
severity_of DuplicateName = Violation
severity_of NotNfc = Violation
severity_of Padding = Violation
severity_of FillValue = Violation
severity_of HighRank = Violation
severity_of Vsize = Violation
severity_of Trailing = Violation
severity_of kind = Error

-- ---- their words

unfoldable pub severity_word : Severity → Bytes
severity_word Error = codes "error"
severity_word Violation = codes "violation"
severity_word Note = codes "note"

unfoldable pub kind_word : Kind → Bytes
kind_word NotNetcdf = codes "not-netcdf"
kind_word Hdf5 = codes "hdf5"
kind_word Hdf5Truncated = codes "hdf5-truncated"
kind_word Gzip = codes "gzip"
kind_word EmptyFile = codes "empty-file"
kind_word UnknownVersion = codes "unknown-version"
kind_word HeaderTruncated = codes "header-truncated"
kind_word BadTag = codes "bad-tag"
kind_word BadCount = codes "bad-count"
kind_word BadName = codes "bad-name"
kind_word NameCharacters = codes "name-characters"
kind_word FloatingType = codes "floating-type"
kind_word BadType = codes "bad-type"
kind_word BadShape = codes "bad-shape"
kind_word TwoRecordDims = codes "two-record-dims"
kind_word TooLarge = codes "too-large"
kind_word BadOffset = codes "bad-offset"
kind_word LargeCount = codes "large-count"
kind_word Streaming = codes "streaming"
kind_word UnusedRecords = codes "unused-records"
kind_word EmptyList = codes "empty-list"
kind_word LongName = codes "long-name"
kind_word DuplicateName = codes "duplicate-name"
kind_word NotNfc = codes "not-nfc"
kind_word Padding = codes "padding"
kind_word EmptyAttribute = codes "empty-attribute"
kind_word TrailingNul = codes "trailing-nul"
kind_word FillValue = codes "fill-value"
kind_word HighRank = codes "high-rank"
kind_word Vsize = codes "vsize"
kind_word OddVsize = codes "odd-vsize"
kind_word LargeVariable = codes "large-variable"
kind_word BeginInHeader = codes "begin-in-header"
kind_word Overlap = codes "overlap"
kind_word Unpadded = codes "unpadded"
kind_word Order = codes "order"
kind_word AfterRecords = codes "after-records"
kind_word RecordPlace = codes "record-place"
kind_word Gap = codes "gap"
kind_word Missing = codes "missing"
kind_word EndPadding = codes "end-padding"
kind_word Trailing = codes "trailing"
