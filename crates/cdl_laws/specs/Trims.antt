-- Law. Datasets without the NULs at the end of their attributes: what of them a second text keeps, and when their fill values change.
use Rattle.std.specs.Prelude.{◌≡◌, ◌↔◌, Bool, true, false, ◌&&◌, ◌==◌, nat_lt, length, find, All, None, Some, Ok}
use Rattle.nc_types.specs.Bytes.{Bytes, AreBytes}
use Rattle.nc_base.specs.declared.{dataset.Dataset.Dataset, header.Att.Att, header.Var.Var}
use Rattle.nc_types.specs.declared.{version.Version.Version}
use Rattle.nc_base.specs.Dump.{Options, whole}
use Rattle.nc_base.specs.Datasets.{IsText}
use Rattle.nc_base.specs.Fill.{fill_value, is_fill_att}
use Rattle.nc_base.specs.HeadText.{without_trailing_nuls}
use Rattle.nc_base.specs.Sayable.{IsSayable, trimmed_var, trimmed}
use Rattle.nc_base.specs.ValueText.{is_char}
use Rattle.cdl_statements.specs.Meaning.{meaning}
use Rattle.cdl_laws.specs.RoundTrip.{IsFull}

-- ---- a second round trip

-- once trimmed, trimmed for good
abbrev pub TrimsOnce : Type 0
TrimsOnce = (d : Dataset) → trimmed (trimmed d) ≡ trimmed d

-- and what could be declared still can
abbrev pub TrimmedIsSayable : Type 0
TrimmedIsSayable = (d : Dataset) → IsSayable d → IsSayable (trimmed d)

-- so a second round trip changes nothing
abbrev pub SecondTripIsSame : Type 0
SecondTripIsSame = (d : Dataset) (o p : Options) (first second : Bytes) → IsSayable d → IsFull o → IsFull p → IsText d o first whole → IsText (trimmed d) p second whole
    → (meaning first d.header.version ≡ Ok (trimmed d)) × (meaning second d.header.version ≡ Ok (trimmed d))

-- ---- the fill values of characters

-- one character and then NULs, at least one: no fill value, but one without the NULs
abbrev pub is_cut : Att → Bool
is_cut att = is_char att.ty && (length (without_trailing_nuls att.vals) == 1) && nat_lt 1 (length att.vals)

-- the first attribute named `_FillValue` is such
abbrev pub has_cut_fill : Var → Bool
has_cut_fill var = elim (find is_fill_att var.atts) [ None ↦ false | Some att ↦ is_cut att ]

-- that is all that can change the fill value of a variable of characters
abbrev pub FillValueSurvivesTrim : Type 0
FillValueSurvivesTrim = (var : Var) → is_char var.ty ≡ true → (fill_value (trimmed_var var) ≡ fill_value var) ↔ (has_cut_fill var ≡ false)

abbrev pub HasPlainFill : Var → Type 0
HasPlainFill var = is_char var.ty ≡ true → has_cut_fill var ≡ false

-- so what a text means is sayable if and only if no variable of characters has such a fill value
abbrev pub MeaningsAreSayable : Type 0
MeaningsAreSayable = (text : Bytes) (v : Version) (d : Dataset) → AreBytes text → meaning text v ≡ Ok d
    → IsSayable d ↔ All HasPlainFill d.header.vars

-- the dump of what a text means, and the dump of what that means, mean one dataset
abbrev pub MeaningsComeBack : Type 0
MeaningsComeBack = (text : Bytes) (v : Version) (d : Dataset) (o p : Options) (first second : Bytes) → AreBytes text → meaning text v ≡ Ok d
    → All HasPlainFill d.header.vars → IsFull o → IsFull p → IsText d o first whole → IsText (trimmed d) p second whole
    → (meaning first v ≡ Ok (trimmed d)) × (meaning second v ≡ Ok (trimmed d))
