-- The file of a text is dumped, and the dump generates it again.
use Rattle.std.proofs.Common.{ap, arith}
use Rattle.nc_base.proofs.Fitting.{Fits-from_fits}
use Rattle.cdl_laws.proofs.MeaningsAreGood.{meanings_are_good}
use Rattle.ncgen.specs.Generated.{file_or_fault, generated}
use Rattle.nc_file.proofs.FileLaws.{generated-dumped}
use Rattle.cdl_laws.proofs.TextReadsBack.{text_reads_back}
use Rattle.ncgen_laws.specs.Laws.{DumpsGenerateBack, FilesOfTextsAreDumped}

pub files_dumped : FilesOfTextsAreDumped
unfolding generated
files_dumped text v file bytes e = grind (arith, meanings_are_good text v, Fits-from_fits, generated-dumped)

pub dumps_generate : DumpsGenerateBack
unfolding generated
dumps_generate d o text sayable full is-text = ap file_or_fault (text_reads_back d o text sayable full is-text)
