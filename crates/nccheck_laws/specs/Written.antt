-- Law. Which fields show that a header is spelled as it is written: what fills up a name or an attribute is zeros, no list without elements
-- has a tag other than 0, and each vsize is the one that is written for its variable. Nothing else in a header can be spelled in two ways.
use Rattle.std.specs.Prelude.{ℕ, ◌≡◌, ◌==◌, ◌&&◌, not, false, List, [], ◌∷◌, ◌++◌, take, replicate, slice_get, IfSome}
use Rattle.nc_base.specs.declared.{header.Var.Var, header.Header.Header}
use Rattle.nc_types.specs.Bytes.{Bytes, AreBytes}
use Rattle.nc_base.specs.Sizes.{padded_size}
use Rattle.nc_base.specs.Parts.{Step, Tag, Count, Item, Padding, Vsize}
use Rattle.nc_base.specs.Grammar.{SpellsHeader, header_spelling}
use Rattle.nc_types.specs.Versions.{vsize_of}
use Rattle.nc_fields.specs.Fields.{Field}
use Rattle.nc_fields.specs.Entries.{number_in}
use Rattle.nccheck_laws.specs.Agreement.{header_fields}

-- the bytes of a whole field
abbrev pub bytes_of : Field → Bytes
bytes_of f = take f.size f.start

-- the number that a field is
abbrev pub number_of : Field → ℕ
number_of f = number_in f.size (bytes_of f)

-- of a list's tag, and the field with these steps and this number: a list without elements has the tag 0
abbrev pub IsWrittenCount : ℕ → List Step → ℕ → Type 0
IsWrittenCount tag (Count ∷ steps) count = (not (tag == 0) && (count == 0)) ≡ false
IsWrittenCount tag steps count = Unit {0}

-- of a list's tag that these fields follow
abbrev pub IsWrittenTag : ℕ → List Field → Type 0
IsWrittenTag tag [] = Unit {0}
IsWrittenTag tag (f ∷ after) = IsWrittenCount tag f.steps (number_of f)

-- of the vsize of the variable at this index
abbrev pub IsWrittenVsize : Header → ℕ → ℕ → Type 0
IsWrittenVsize h i vsize = IfSome (slice_get h.vars i) (λ (var : Var). vsize ≡ vsize_of h.version (padded_size h.dims var))

-- a field with these steps, which these fields follow, is as it is written in this header (all others always are)
abbrev pub IsWritten : Header → List Step → Field → List Field → Type 0
IsWritten h (Padding ∷ steps) f after = bytes_of f ≡ replicate f.size 0
IsWritten h (Tag ∷ steps) f after = IsWrittenTag (number_of f) after
IsWritten h (Vsize ∷ Item i ∷ steps) f after = IsWrittenVsize h i (number_of f)
IsWritten h steps f after = Unit {0}

-- each of these fields is as it is written in this header
abbrev pub AreWritten : Header → List Field → Type 0
AreWritten h [] = Unit {0}
AreWritten h (f ∷ fields) = IsWritten h f.steps f fields × AreWritten h fields

-- a header whose fields are as they are written is spelled as it is written
abbrev pub WrittenFieldsAreCanonical : Type 0
WrittenFieldsAreCanonical = (bytes : Bytes) (h : Header) (rest : Bytes) → AreBytes bytes → SpellsHeader bytes h rest
    → AreWritten h (header_fields bytes) → bytes ≡ header_spelling h ++ rest

-- and the fields of a header that is spelled so are as they are written
abbrev pub CanonicalFieldsAreWritten : Type 0
CanonicalFieldsAreWritten = (bytes : Bytes) (h : Header) (rest : Bytes) → SpellsHeader bytes h rest → bytes ≡ header_spelling h ++ rest
    → AreWritten h (header_fields bytes)
