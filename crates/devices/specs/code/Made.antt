-- For contracts. What outputs in memory were given.
use Rattle.std.specs.Prelude.{ℕ, ◌≡◌, List, map, Some, Result, Ok, Err, string_bytes}
use Rattle.devices.specs.Creators.{CreatorView, Output, give}
use Rattle.devices.specs.declared.{testing.made.MadeFile.MadeFile, testing.made.MadeFiles.MadeFiles, memory.MemSink.MemSink}

-- a path and what it was given
abbrev pub output_of : MadeFile → Output
output_of made = record { path = string_bytes made.path; bytes = Some made.bytes.bytes.items }

-- what paths were given
abbrev pub given_of : List MadeFile → List Output
given_of made = map output_of made

-- the creator as the contracts of all creators see it
abbrev pub view_of : MadeFiles → CreatorView
view_of files = record { given = given_of files.made.items; creations = files.creations; failures = files.failures }

-- the path was given what the sink took, or memory was refused, and nothing else changed
abbrev pub Gave : {A E : Type 0} → MadeFiles → MadeFiles → List ℕ → MemSink → Result A E → Type 0
Gave old new path sink (Ok done) = (given_of new.made.items ≡ give (given_of old.made.items) path (Some sink.bytes.items)) × (new.creations ≡ old.creations) × (new.failures ≡ old.failures)
Gave old new path sink (Err failure) = (given_of new.made.items ≡ given_of old.made.items) × (new.creations ≡ old.creations) × (new.failures ≡ old.failures)
