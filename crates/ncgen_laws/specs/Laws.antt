-- Law. What holds of the file of a text.
use Rattle.std.specs.Prelude.{◌≡◌, ◌↔◌, Ok}
use Rattle.nc_types.specs.Bytes.{Bytes, AreBytes}
use Rattle.nc_base.specs.declared.{dataset.Dataset.Dataset}
use Rattle.nc_types.specs.declared.{version.Version.Version}
use Rattle.nc_base.specs.Dump.{Ending, IsDump, Options, whole}
use Rattle.nc_base.specs.Datasets.{IsText}
use Rattle.nc_base.specs.GeneratedFile.{file_of}
use Rattle.nc_base.specs.Sayable.{IsSayable, trimmed}
use Rattle.cdl_statements.specs.Meaning.{meaning}
use Rattle.cdl_laws.specs.RoundTrip.{IsFull}
use Rattle.ncgen.specs.Generated.{file_or_fault, generated}

-- the file is that of the dataset that the text means, and under all options its dump is the text of that dataset
pub record IsDumpedAs (text : Bytes) (v : Version) (file : Bytes) : Type 0 where
  pub dataset : Dataset
  pub meant : meaning text v ≡ Ok dataset
  pub is_file : file ≡ file_of dataset
  pub dumped : (o : Options) (dump : Bytes) (ending : Ending) → IsDump file o dump ending ↔ IsText dataset o dump ending

-- the file of each text of bytes is dumped as the text of the dataset that it declares
abbrev pub FilesOfTextsAreDumped : Type 0
FilesOfTextsAreDumped = (text : Bytes) (v : Version) (file : Bytes) → AreBytes text → generated text v ≡ Ok file → IsDumpedAs text v file

-- What is generated from a full dump of a dataset that a text can declare, at any width: the file of that dataset without the NULs
-- at the end of its attributes, or that it doesn't fit.
abbrev pub DumpsGenerateBack : Type 0
DumpsGenerateBack = (d : Dataset) (o : Options) (text : Bytes) → IsSayable d → IsFull o → IsText d o text whole
    → generated text d.header.version ≡ file_or_fault (Ok (trimmed d))
