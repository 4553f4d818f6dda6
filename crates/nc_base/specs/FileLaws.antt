-- Law. What holds of the file of a dataset.
use Rattle.std.specs.Prelude.{◌≡◌, ◌↔◌}
use Rattle.nc_types.specs.Bytes.{Bytes}
use Rattle.nc_base.specs.declared.dataset.Dataset.{Dataset}
use Rattle.nc_base.specs.Headers.{IsGood}
use Rattle.nc_base.specs.Datasets.{HoldsDataset, IsText, Fits}
use Rattle.nc_base.specs.Dump.{Options, Ending, IsDump}
use Rattle.nc_base.specs.GeneratedFile.{file_of}

-- the file of each good dataset that fits holds that dataset
abbrev pub FilesHoldTheirDatasets : Type 0
FilesHoldTheirDatasets = (d : Dataset) → IsGood d → Fits d.header → HoldsDataset (file_of d) d

-- no bytes hold two datasets
abbrev pub FilesHoldOneDataset : Type 0
FilesHoldOneDataset = (bytes : Bytes) (d other : Dataset) → HoldsDataset bytes d → HoldsDataset bytes other → d ≡ other

-- the dump of a file that holds a dataset is the text of that dataset, under all options
abbrev pub FilesAreDumpedAsTheirText : Type 0
FilesAreDumpedAsTheirText = (bytes : Bytes) (d : Dataset) → HoldsDataset bytes d
    → (o : Options) (text : Bytes) (ending : Ending) → IsDump bytes o text ending ↔ IsText d o text ending

-- and so is the dump of the file of a good dataset that fits
abbrev pub GeneratedFilesAreDumped : Type 0
GeneratedFilesAreDumped = (d : Dataset) → IsGood d → Fits d.header
    → (o : Options) (text : Bytes) (ending : Ending) → IsDump (file_of d) o text ending ↔ IsText d o text ending
