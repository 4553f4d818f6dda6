-- Law. What the strict rules of `Grammar` read of a header, told from its fields as the lenient rules list them. Both read the same, up to
-- the first field that the strict rules refuse: the first wrong one, or before it a name that isn't valid, the code of a floating type, or a
-- number that is too large for a length or a number of records.
use Rattle.std.specs.Prelude.{ℕ, ◌≡◌, ◌↔◌, ◌==◌, ◌||◌, nat_lt, if◌then◌else◌, List, [], ◌∷◌, length, drop, map, Option, Some, None}
use Rattle.nc_base.specs.declared.{fault.FormatFault.FormatFault, header.Att.Att, header.Var.Var, header.Header.Header}
use Rattle.nc_base.specs.declared.fault.FormatFault.TheVariants.{BadCount, BadName, FloatingType}
use Rattle.nc_types.specs.Bytes.{Bytes}
use Rattle.nc_types.specs.Names.{is_name}
use Rattle.nc_base.specs.Parts.{Step, Records, Name, Length, Text, TypeCode, Spells}
use Rattle.nc_base.specs.Grammar.{header_by, header_part, SpellsHeader}
use Rattle.nc_base.specs.code.PartRuns.{StopsWith}
use Rattle.nc_findings.specs.declared.entry.Content.{Content}
use Rattle.nc_findings.specs.declared.entry.Content.TheVariants as content
use Rattle.nc_fields.specs.Fields.{Field, fields}
use Rattle.nc_fields.specs.Entries.{whole_content}
use Rattle.nc_fields.specs.Lenient.{lenient}
use Rattle.nc_rules.specs.FieldRules.{is_large_count, is_large_numrecs}

-- ---- the fields that the strict rules refuse

-- why they refuse a field of this many bytes, with this content at the end of these steps, which has this fault by the lenient rules, or none
abbrev pub refusal_in : ℕ → Content → List Step → Option FormatFault → Option FormatFault
refusal_in size (content.Bytes bytes) (Text ∷ steps) None = if is_name bytes then None else Some BadName
refusal_in size (content.Number code) (TypeCode ∷ steps) fault = if (code == 5) || (code == 6) then Some FloatingType else fault
refusal_in size (content.Number n) (Records ∷ steps) None = if is_large_numrecs size n then Some BadCount else None
refusal_in size (content.Number n) (Length ∷ Name ∷ steps) fault = fault
refusal_in size (content.Number n) (Length ∷ steps) None = if is_large_count size n then Some BadCount else None
refusal_in size c steps fault = fault

-- why they refuse a field
abbrev pub refusal : Field → Option FormatFault
refusal f =
    if nat_lt (length f.start) f.size then f.fault else refusal_in f.size (whole_content f.steps f.size f.start) f.steps f.fault

-- why they refuse the first field that they refuse, and the bytes after it
abbrev pub first_refusal : List Field → Option (FormatFault × Bytes)
first_refusal [] = None
first_refusal (f ∷ fields) = elim (refusal f) [ Some fault ↦ Some (fault, drop f.size f.start) | None ↦ first_refusal fields ]

-- ---- what isn't kept

abbrev pub att_without_values : Att → Att
att_without_values att = record att { vals = [] }

abbrev pub var_without_values : Var → Var
var_without_values var = record var { atts = map att_without_values var.atts }

abbrev pub without_values : Header → Header
without_values h = record h { gatts = map att_without_values h.gatts; vars = map var_without_values h.vars }

-- ---- the laws

-- the fields of the header that these bytes begin with
abbrev pub header_fields : Bytes → List Field
header_fields bytes = fields [] (header_by lenient) bytes

abbrev pub SpellsLeniently : Bytes → Header → Bytes → Type 0
SpellsLeniently = Spells (header_by lenient)

-- what spells a header by the strict rules spells it by the lenient ones, too, but for the values, and no field is refused
abbrev pub StrictHeadersAreLenient : Type 0
StrictHeadersAreLenient = (bytes : Bytes) (h : Header) (rest : Bytes) → SpellsHeader bytes h rest
    → SpellsLeniently bytes (without_values h) rest × (first_refusal (header_fields bytes) ≡ None)

-- what spells a header by the lenient rules spells one by the strict rules, too, which has this one's parts but for the values, if no field
-- is refused
abbrev pub LenientHeadersAreStrict : Type 0
LenientHeadersAreStrict = (bytes : Bytes) (h : Header) (rest : Bytes) → SpellsLeniently bytes h rest
    → first_refusal (header_fields bytes) ≡ None → (whole : Header) × SpellsHeader bytes whole rest × (h ≡ without_values whole)

-- if no field is refused, then the bytes spell a header by the strict rules
abbrev pub UnrefusedHeadersAreSpelled : Type 0
UnrefusedHeadersAreSpelled = (bytes : Bytes) → first_refusal (header_fields bytes) ≡ None
    → (h : Header) × (rest : Bytes) × SpellsHeader bytes h rest

-- the strict rules stop with a fault, and these bytes after it, exactly if the first field that they refuse is refused so
abbrev pub StrictFaultsAreFirstRefusals : Type 0
StrictFaultsAreFirstRefusals = (bytes : Bytes) (fault : FormatFault) (rest : Bytes)
    → StopsWith header_part bytes fault rest ↔ (first_refusal (header_fields bytes) ≡ Some (fault, rest))
