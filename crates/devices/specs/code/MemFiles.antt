-- For contracts. The bytes that a path names among files in memory.
use Rattle.std.specs.Prelude.{ℕ, Bool, List, Option, option_map, find}
use Rattle.std.specs.Str.{bytes_eq}
use Rattle.devices.specs.declared.{testing.mem_files.MemFiles.MemFiles, testing.mem_files.MemFile.MemFile}

-- the file has this path
abbrev pub is_at : MemFile → List ℕ → Bool
is_at file path = bytes_eq file.path.now path

-- the first file with this path
abbrev pub file_named : List MemFile → List ℕ → Option MemFile
file_named files path = find (λ (file : MemFile). is_at file path) files

-- its bytes
abbrev pub bytes_named : List MemFile → List ℕ → Option (List ℕ)
bytes_named files path = option_map (λ (file : MemFile). file.bytes.now) (file_named files path)

-- the files of the list
abbrev pub files_of : MemFiles → List MemFile
files_of listed = listed.files.now
