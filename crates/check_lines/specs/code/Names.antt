-- For contracts. Names and fields that are borrowed, and what is known of the fields that were passed.
use Rattle.std.specs.Borrow.{Bor}
use Rattle.std.specs.Prelude.{ℕ, ◌≡◌, ◌≤◌, List, length, take, Option, option_map}
use Rattle.nc_findings.specs.declared.entry.Entry.{Entry}
use Rattle.check_lines.specs.Paths.{KnownNames, names_after}
use Rattle.check_lines.specs.declared.{known_names.Names.Names, passed.Passed.Passed}

-- the bytes that are borrowed, if any are
abbrev pub bytes_of : Option (Bor (List ℕ)) → Option (List ℕ)
bytes_of name = option_map (λ (bytes : Bor (List ℕ)). bytes.now) name

-- the field that is borrowed, if one is
abbrev pub entry_in : Option (Bor Entry) → Option Entry
entry_in entry = option_map (λ (e : Bor Entry). e.now) entry

-- the names that the code knows
abbrev pub known : Names → KnownNames
known names = record { element = bytes_of names.element; att = bytes_of names.att }

-- the first fields of these were passed, and their names are known
pub record IsPassed (entries : List Entry) (passed : Passed) : Type 0 where
  pub within : passed.count ≤ length entries
  pub names : known passed.names ≡ names_after (take passed.count entries)
