-- What the strict rules read of a header, told from the fields that the lenient rules list.
use Rattle.nccheck_laws.proofs.Prelude.{FormatFault, Header, Bytes, header_by, header_part, SpellsHeader, Outcome, run, reads, stops, fields, lenient, first_refusal, header_fields, without_values, Tells, tells, StopsWith, SpellsLeniently, StrictHeadersAreLenient, LenientHeadersAreStrict, UnrefusedHeadersAreSpelled, StrictFaultsAreFirstRefusals, arith, ◌≡◌, [], Some, None, Ok, subst}
use Rattle.nccheck_laws.proofs.Agreement.{Agrees}
use Rattle.nccheck_laws.proofs.AgreeingParts.{agree-header}

abbrev HeaderOutcome : Type 0
HeaderOutcome = Outcome Header

-- both outcomes, with what each says of the bytes
abbrev Both : Bytes → HeaderOutcome → HeaderOutcome → Type 0
Both from o r = Agrees without_values o r (fields [] header_part from) (header_fields from)

agreed : (from : Bytes) → Both from (run header_part from) (run (header_by lenient) from)
agreed = agree-header.at

-- ---- a header by the strict rules

-- it spells one by the lenient rules, too, but for the values, no field is refused, and both have the same fields
strict-lenient : (from : Bytes) (h : Header) (rest : Bytes) (r : HeaderOutcome) → Both from (Ok (h, rest)) r
    → Tells (header_by lenient) from r
    → SpellsLeniently from (without_values h) rest × (first_refusal (header_fields from) ≡ None)
    × (header_fields from ≡ fields [] header_part from)
strict-lenient from h rest v3 v4 told = grind arith

strict-both : (from : Bytes) (h : Header) (rest : Bytes) → SpellsHeader from h rest
    → SpellsLeniently from (without_values h) rest × (first_refusal (header_fields from) ≡ None)
    × (header_fields from ≡ fields [] header_part from)
strict-both from h rest spelled =
    strict-lenient from h rest (run (header_by lenient) from)
    (subst (λ o. Both from o (run (header_by lenient) from)) (reads header_part from h rest spelled) (agreed from))
    (tells (header_by lenient) from)

pub strict-headers : StrictHeadersAreLenient
strict-headers from h rest spelled = let both = strict-both from h rest spelled in (both.0, both.1)

pub strict-fields : (from : Bytes) (h : Header) (rest : Bytes) → SpellsHeader from h rest → header_fields from ≡ fields [] header_part from
strict-fields from h rest spelled = (strict-both from h rest spelled).2

-- ---- no refused field

lenient-strict : (from : Bytes) (h : Header) (rest : Bytes) (o : HeaderOutcome) → Both from o (Ok (h, rest)) → Tells header_part from o
    → first_refusal (header_fields from) ≡ None
    → (whole : Header) × SpellsHeader from whole rest × (h ≡ without_values whole)
lenient-strict from h rest v3 v4 told none = grind arith

pub lenient-headers : LenientHeadersAreStrict
lenient-headers from h rest spelled none =
    lenient-strict from h rest (run header_part from)
    (subst (λ r. Both from (run header_part from) r) (reads (header_by lenient) from h rest spelled) (agreed from))
    (tells header_part from) none

unrefused : (from : Bytes) (o r : HeaderOutcome) → Both from o r → Tells header_part from o → first_refusal (header_fields from) ≡ None
    → (h : Header) × (rest : Bytes) × SpellsHeader from h rest
unrefused from v1 r v3 told none = grind arith

pub unrefused-headers : UnrefusedHeadersAreSpelled
unrefused-headers from none =
    unrefused from (run header_part from) (run (header_by lenient) from) (agreed from) (tells header_part from) none

-- ---- faults

refused : (from : Bytes) (fault : FormatFault) (rest : Bytes) (o r : HeaderOutcome) → Both from o r → Tells header_part from o
    → first_refusal (header_fields from) ≡ Some (fault, rest)
    → StopsWith header_part from fault rest
refused from fault rest v3 v4 v5 told is = grind arith

pub strict-faults : StrictFaultsAreFirstRefusals
strict-faults from fault rest = (
  λ stopped. subst (λ o. Both from o (run (header_by lenient) from)) (stops header_part from fault rest stopped) (agreed from),
  λ is. refused from fault rest (run header_part from) (run (header_by lenient) from) (agreed from) (tells header_part from) is,
)
