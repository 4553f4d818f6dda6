-- For contracts. What options say.
use Rattle.std.specs.Prelude.{◌≡◌, ℕ, String, Bool, ◌&&◌, List, Option, option_map, is_none, string_bytes}
use Rattle.ncgen.specs.CommandLine.{Asked, output_in}
use Rattle.ncgen.specs.declared.options.GenOptions.{GenOptions}

-- this is the path of the output, if there is one
abbrev pub IsOutputIn : {A : Type 0} → Bool → Option (List ℕ) → Option (List ℕ) → Option (String A) → Type 0
IsOutputIn is_binary output file path = option_map string_bytes path ≡ output_in is_binary output file

-- an output is asked for by `-b`, and neither `-o` nor the text's path names it
abbrev pub is_unnamed : Bool → Option (List ℕ) → Option (List ℕ) → Bool
is_unnamed is_binary output file = is_binary && is_none output && is_none file

-- what the options ask for
abbrev pub asked_for : GenOptions → Asked
asked_for o = record { version = o.kind; output = option_map string_bytes o.out; file = option_map string_bytes o.file }
