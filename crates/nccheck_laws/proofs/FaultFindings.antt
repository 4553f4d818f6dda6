-- Among the facts of an entry that the strict rules refuse is the fault with which they do, but for a floating type.
use Rattle.nccheck_laws.proofs.Prelude.{FormatFault, BadCount, FloatingType, Entry, Content, FieldKind, Owner, field_steps, owner_steps, refusal_in, Fact, facts_with, Length, bytes_eq, Bytes, Fault, is_floating_in, is_hdf5, NotNetcdf, Hdf5, Gzip, EmptyFile, gzip_signature, fault_fact, is_large_count, strict_fault, ◌≡◌, ℕ, ◌==◌, Bool, true, false, cond, List, [], ◌∷◌, ◌++◌, length, take, Option, Some, None, refl, sym, ◌∙◌, arith}
use Rattle.nc_findings.specs.declared.entry.Content.TheVariants as content
use Rattle.nc_findings.specs.declared.place.FieldKind.TheVariants as field
use Rattle.nccheck_laws.proofs.Refusals.{refusal_of}

-- ---- the facts of one entry

-- a dimension's length may be refused for its size, whatever it belongs to
length-refusal : (size n : ℕ) (o : Owner)
    → refusal_in size (content.Number n) (Length ∷ owner_steps o) None ≡ cond (is_large_count size n) (Some BadCount) None
length-refusal size n o = grind arith

-- a field that isn't refused has no floating type
pub quiet-type : (e : Entry) → refusal_of e ≡ None → is_floating_in e.place.field e.content ≡ false
quiet-type e none = grind arith

-- ---- the facts of a refused entry

-- a field's fault, or what stands at the start of a file in place of `CDF`
pub fault-fact : (P : Fact → Type 0) (start : Bytes) (fault : FormatFault) → P Hdf5 → P Gzip → P EmptyFile → P (Fault fault) → P (fault_fact start fault)
fault-fact P start NotNetcdf hdf5 gzip empty is =
    by-tests (is_hdf5 start) (bytes_eq gzip_signature (take 2 start)) (length start == 0)
  where
    by-tests : (a b d : Bool) → P (cond a Hdf5 (cond b Gzip (cond d EmptyFile (Fault NotNetcdf))))
    by-tests true b d = hdf5
    by-tests false true d = gzip
    by-tests false false true = empty
    by-tests false false false = is
fault-fact P start fault hdf5 gzip empty is = is

-- the fault of the first of these facts that is one
abbrev pub fault_among : List Fact → Option FormatFault
fault_among [] = None
fault_among (x ∷ xs) = elim (strict_fault x) [ Some fault ↦ Some fault | None ↦ fault_among xs ]

own-fault : (start : Bytes) (fault : FormatFault) → fault_among (fault_fact start fault ∷ []) ≡ Some fault
own-fault start NotNetcdf = fault-fact (λ x. fault_among (x ∷ []) ≡ Some NotNetcdf) start NotNetcdf refl refl refl refl
own-fault start fault = refl

pub facts-fault : (start : Bytes) (size : ℕ) (c : Content) (place : FieldKind) (owner : Owner) (o : Option FormatFault) → is_floating_in place c ≡ false
    → fault_among (facts_with start o place size c) ≡ refusal_in size c (field_steps place ++ owner_steps owner) o
facts-fault start size c place owner (Some fault) plain = own-fault start fault ∙ sym (grind arith)
facts-fault start size (content.Number n) field.NumRecs owner None plain = grind arith
facts-fault start size (content.Number n) field.Length owner None plain = rw (length-refusal size n owner) (grind arith)
facts-fault start size (content.Number n) field.NameLength owner None plain = grind arith
facts-fault start size (content.Number n) field.Rank owner None plain = grind arith
facts-fault start size (content.Number n) field.Type owner None plain = grind arith
facts-fault start size (content.Bytes bs) field.Name owner None plain = grind arith
facts-fault start size (content.Bytes bs) field.NamePadding owner None plain = grind arith
facts-fault start size (content.Bytes bs) field.Padding owner None plain = grind arith
facts-fault start size c place owner None plain = refl

pub floating-fault : (e : Entry) (fault : FormatFault) → refusal_of e ≡ Some fault → is_floating_in e.place.field e.content ≡ true
    → fault ≡ FloatingType
floating-fault e fault refused is = grind arith
