-- Law. If nothing is found at the begins of variables and blocks, then each variable begins right after what comes before it: those that
-- aren't record variables follow the header in its order, each with its padding, and then come the slabs of the first record. If nothing
-- is found at the end of the file either, then the file ends after the last of its padded slabs. Such begins and such a length have no
-- findings, in a sound layout. Without the findings that let slabs share bytes, no two slabs have a byte in common. Where values are
-- missing, a slab isn't whole.
use Rattle.std.specs.Prelude.{◌≡◌, ◌≤◌, ◌<◌, IsSome, ◌⊎◌, ℕ, ◌+◌, ◌*◌, Bool, true, false, if◌then◌else◌, List, filter, take, sum_by, slice_get, IfSome}
use Rattle.std.specs.List.{All, AllPairs, list_any}
use Rattle.nc_layout.specs.declared.{slot.Slot.Slot, slot.FileLayout.FileLayout, file_end.SlabPlace.SlabPlace}
use Rattle.nc_findings.specs.declared.{layout_fact.LayoutFact.LayoutFact, layout_fact.LayoutFinding.LayoutFinding}
use Rattle.nc_findings.specs.declared.layout_fact.LayoutFact.TheVariants.{BeginInHeader, Overlap, Unpadded, Order, AfterRecords, RecordPlace, Gap, Missing, EndPadding, Trailing}
use Rattle.nc_layout.specs.Slots.{padded_slab_len, is_fixed, record_size, record_count}
use Rattle.nc_layout.specs.SlotRules.{bytes_before}
use Rattle.nc_layout.specs.FileEnd.{values_end, all_slabs, first_cut_slab}
use Rattle.nc_layout.specs.Findings.{IsSoundLayout, layout_findings}

-- a finding at the begin of a variable or of a block
abbrev pub is_of_begin : LayoutFact → Bool
is_of_begin (BeginInHeader begin header_end) = true
is_of_begin (Overlap begin end of) = true
is_of_begin (Unpadded begin end of) = true
is_of_begin (Order begin least of) = true
is_of_begin (AfterRecords begin most) = true
is_of_begin (RecordPlace begin expected) = true
is_of_begin (Gap bytes before) = true
is_of_begin fact = false

-- a finding at the end of the file
abbrev pub is_of_end : LayoutFact → Bool
is_of_end (Missing file_len end slab) = true
is_of_end (EndPadding file_len end) = true
is_of_end (Trailing file_len end records) = true
is_of_end fact = false

-- none of the findings is of this kind
abbrev pub FindsNone : (LayoutFact → Bool) → FileLayout → Type 0
FindsNone kind layout = list_any (λ (finding : LayoutFinding). kind finding.fact) (layout_findings layout) ≡ false

-- the bytes of the blocks of these slots that aren't record slots, with their padding
abbrev pub fixed_bytes : List Slot → ℕ
fixed_bytes slots = sum_by padded_slab_len (filter is_fixed slots)

-- right after the header and the padded slabs that come before that of the slot at this index
abbrev pub canonical_begin : FileLayout → ℕ → Slot → ℕ
canonical_begin layout i slot =
    if slot.is_record
    then layout.header_end + fixed_bytes layout.slots + bytes_before layout.slots i
    else layout.header_end + fixed_bytes (take i layout.slots)

abbrev pub HasCanonicalBegins : FileLayout → Type 0
HasCanonicalBegins layout = (i : ℕ) → IfSome (slice_get layout.slots i) (λ (slot : Slot). slot.begin ≡ canonical_begin layout i slot)

abbrev pub QuietBeginsAreCanonical : Type 0
QuietBeginsAreCanonical = (layout : FileLayout) → FindsNone is_of_begin layout → HasCanonicalBegins layout

-- the length of a file that ends after the last of its padded slabs
abbrev pub canonical_len : FileLayout → ℕ
canonical_len layout = layout.header_end + fixed_bytes layout.slots + record_count layout * record_size layout.slots

abbrev pub QuietLengthIsCanonical : Type 0
QuietLengthIsCanonical = (layout : FileLayout) → IsSoundLayout layout → FindsNone is_of_begin layout → FindsNone is_of_end layout
    → layout.file_len ≡ canonical_len layout

-- the converses: nothing is found at canonical begins, nor at the end of a file of the canonical length
abbrev pub CanonicalBeginsAreQuiet : Type 0
CanonicalBeginsAreQuiet = (layout : FileLayout) → IsSoundLayout layout → HasCanonicalBegins layout → FindsNone is_of_begin layout

abbrev pub CanonicalLengthIsQuiet : Type 0
CanonicalLengthIsQuiet = (layout : FileLayout) → IsSoundLayout layout → HasCanonicalBegins layout → layout.file_len ≡ canonical_len layout
    → FindsNone is_of_end layout

-- a finding at a begin that lets two slabs share a byte, or a slab and the header
abbrev pub is_of_shared_bytes : LayoutFact → Bool
is_of_shared_bytes (BeginInHeader begin header_end) = true
is_of_shared_bytes (Overlap begin end of) = true
is_of_shared_bytes (RecordPlace begin expected) = true
is_of_shared_bytes fact = false

-- the slabs have no byte in common
abbrev pub AreApart : SlabPlace → SlabPlace → Type 0
AreApart a b = (a.end ≤ b.begin) ⊎ (b.end ≤ a.begin)

-- no two slabs of the file have a byte in common, and none has a byte of the header
pub record SharesNoByte (layout : FileLayout) : Type 0 where
  pub slabs : AllPairs AreApart (all_slabs layout)
  pub header : All (λ (slab : SlabPlace). layout.header_end ≤ slab.begin) (all_slabs layout)

abbrev pub QuietSlabsAreApart : Type 0
QuietSlabsAreApart = (layout : FileLayout) → FindsNone is_of_shared_bytes layout → SharesNoByte layout

-- if the file ends before the values do, then there is a slab that isn't whole, so that `missing` names it
abbrev pub MissingValuesHaveSlab : Type 0
MissingValuesHaveSlab = (layout : FileLayout) → IsSoundLayout layout → layout.file_len < values_end layout → IsSome (first_cut_slab layout)
