-- The word of each kind names it, by computing.
use Rattle.std.proofs.Common.{refl}
use Rattle.nc_findings.specs.declared.kind.Kind.TheVariants.{NotNetcdf, Hdf5, Hdf5Truncated, Gzip, EmptyFile, UnknownVersion, HeaderTruncated, BadTag, BadCount, BadName, NameCharacters, FloatingType, BadType, BadShape, TwoRecordDims, TooLarge, BadOffset, LargeCount, Streaming, UnusedRecords, EmptyList, LongName, DuplicateName, NotNfc, Padding, EmptyAttribute, TrailingNul, FillValue, HighRank, Vsize, OddVsize, LargeVariable, BeginInHeader, Overlap, Unpadded, Order, AfterRecords, RecordPlace, Gap, Missing, EndPadding, Trailing}
unfoldable use Rattle.nc_findings.specs.Kinds.{kind_word}
use Rattle.check_options.specs.KindWords.{EachWordNamesItsKind}
unfoldable use Rattle.check_options.specs.KindWords.{kind_named}
use Rattle.check_options.proofs.kind_words.kind_named.Goals as goal

named : EachWordNamesItsKind
unfolding kind_word kind_named
named NotNetcdf = refl
named Hdf5 = refl
named Hdf5Truncated = refl
named Gzip = refl
named EmptyFile = refl
named UnknownVersion = refl
named HeaderTruncated = refl
named BadTag = refl
named BadCount = refl
named BadName = refl
named NameCharacters = refl
named FloatingType = refl
named BadType = refl
named BadShape = refl
named TwoRecordDims = refl
named TooLarge = refl
named BadOffset = refl
named LargeCount = refl
named Streaming = refl
named UnusedRecords = refl
named EmptyList = refl
named LongName = refl
named DuplicateName = refl
named NotNfc = refl
named Padding = refl
named EmptyAttribute = refl
named TrailingNul = refl
named FillValue = refl
named HighRank = refl
named Vsize = refl
named OddVsize = refl
named LargeVariable = refl
named BeginInHeader = refl
named Overlap = refl
named Unpadded = refl
named Order = refl
named AfterRecords = refl
named RecordPlace = refl
named Gap = refl
named Missing = refl
named EndPadding = refl
named Trailing = refl

pub returns-clause-all : goal.returns-clause-all
returns-clause-all c = named
