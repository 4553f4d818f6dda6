-- A generated file is read back and dumped.
use Rattle.nc_file.proofs.Prelude.{file_of, file-holds}
use Rattle.nc_base.specs.FileLaws.{FilesHoldOneDataset, FilesAreDumpedAsTheirText, GeneratedFilesAreDumped}
use Rattle.nc_base.proofs.HeldDump.{held-dump, dump-held, one-held}

pub files-hold-one : FilesHoldOneDataset
files-hold-one bytes d other s t = one-held bytes d other s t

pub files-dumped : FilesAreDumpedAsTheirText
files-dumped bytes d s o text ending = (dump-held bytes d o text ending s, held-dump bytes d o text ending s)

pub generated-dumped : GeneratedFilesAreDumped
generated-dumped d good fits = files-dumped (file_of d) d (file-holds d good fits)
