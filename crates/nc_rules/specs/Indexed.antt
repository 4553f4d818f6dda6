-- Definition. The fields of a listing with their indices, and findings at them.
use Rattle.std.specs.Prelude.{ℕ, ◌+◌, List, [], ◌∷◌, ◌++◌, Option, Some}
use Rattle.std.specs.Option.{option_to_list}
use Rattle.nc_findings.specs.declared.entry.Entry.{Entry}
use Rattle.nc_findings.specs.declared.{finding.Fact.Fact, finding.Finding.Finding}

-- a field of a listing, and its index there
pub record Indexed : Type 0 where
  pub index : ℕ
  pub entry : Entry

-- this field, with its index in the listing
abbrev pub field_at : ℕ → Entry → Indexed
field_at i entry = record { index = i; entry = entry }

-- these fields, the first of which has this index
abbrev pub indexed_from : ℕ → List Entry → List Indexed
indexed_from i [] = []
indexed_from i (entry ∷ entries) = field_at i entry ∷ indexed_from (i + 1) entries

-- the fields of a listing, each with its index
abbrev pub indexed : List Entry → List Indexed
indexed entries = indexed_from 0 entries

-- this fact is found at the field of this index and offset
abbrev pub finding_at : ℕ → ℕ → Fact → Finding
finding_at index offset fact = record { offset = offset; field = Some index; fact = fact }

-- this fact is found at this field
abbrev pub finding : Indexed → Fact → Finding
finding f fact = finding_at f.index f.entry.offset fact

-- what a rule finds at each field, if it looks at the fields after it
abbrev pub each_before : (Indexed → List Indexed → Option Finding) → List Indexed → List Finding
each_before rule [] = []
each_before rule (f ∷ after) = option_to_list (rule f after) ++ each_before rule after

-- what a rule finds at each field, if it looks at the fields before it, of which these are the first
abbrev pub each_after : (List Indexed → Indexed → Option Finding) → List Indexed → List Indexed → List Finding
each_after rule earlier [] = []
each_after rule earlier (f ∷ fs) = option_to_list (rule earlier f) ++ each_after rule (earlier ++ f ∷ []) fs
