-- Definition. The arguments of a command, as a parse reads them, and what its entries say of them.
use Rattle.std.specs.Borrow.{Bor}
use Rattle.std.specs.Prelude.{Bool, true, false, List, [], ◌∷◌, codes, map, Option, Some, None, slice_get}
use Rattle.std.specs.Option.{option_map_or}
use Rattle.std.specs.Str.{bytes_eq}
use Rattle.nc_types.specs.Bytes.{Bytes}
use Rattle.clap.specs.Words.{App, Kinds, Row, Rule, new_rule, one_of}
use Rattle.clap.specs.declared.builder.ArgAction.TheVariants.{Set, SetTrue}

-- an option of one letter that takes no value (all options may be given once; `new_rule` alone is a word that may be missing)
abbrev pub flag : Bytes → Bytes → Rule
flag id letter = record (new_rule id) { short = slice_get letter 0; action = Some SetTrue }

-- an option of one letter that takes a value
abbrev pub option : Bytes → Bytes → Rule
option id letter = record (new_rule id) { short = slice_get letter 0; action = Some Set }

-- a command that answers no request for help or the version
abbrev pub quiet : App → App
quiet app = record app { top = record app.top { disable_help_flag = true; disable_version_flag = true } }

-- the flag with this id is given: its row has the value `true`
abbrev pub is_given : List Row → Bytes → Bool
is_given rows id = option_map_or (λ (value : Bytes). bytes_eq value (codes "true")) (one_of id rows) false

abbrev pub texts_of : List (Bor Bytes) → List Bytes
texts_of words = map (λ (w : Bor Bytes). w.now) words

-- what is asked for, if the words have no fault
abbrev pub if_faultless : {A : Type 0} → Kinds → Option A → Option A
if_faultless [] asked = asked
if_faultless (kind ∷ kinds) asked = None
