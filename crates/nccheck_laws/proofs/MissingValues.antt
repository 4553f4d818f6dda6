-- Values are found to be missing exactly if some variable has a first missing value.
use Rattle.nccheck_laws.proofs.Prelude.{list_any, is_some, All-cons, All-map, All-nil, list_any_none, Header, Var, Bytes, first_missing, FileLayout, block_findings, end_findings, values_end, IsSoundLayout, IsSoundSlot, MissingValuesAreFound, ShortFilesLackValues, finds, is_of_missing, lacks_values, layout_of, slot_of, slot_findings, nat_tests, ◌≡◌, ℕ, ◌≤◌, false, List, [], ◌∷◌, length, map, refl, ap, arith, None, All}
use Rattle.nc_base.specs.Sizes.{record_count, record_size}
pub use Rattle.nc_layout.proofs.HeaderSlots.{unmapped}
use Rattle.nccheck_laws.proofs.WholeSlots.{quiet-values, IsWholeSlot, values-whole, whole-values}
use Rattle.nccheck_laws.proofs.HeaderRecords.{count-is, size-is}
use Rattle.nccheck_laws.proofs.FoundNone.{all-quiet, quiet-end}
use Rattle.nccheck_laws.proofs.WholeVariables.{whole-slot, whole-variable}

-- ---- slots and variables

-- the number and the size of records may be those of the header
abbrev AreWhole : Header → Bytes → Type 0
AreWhole h bytes =
    All (IsWholeSlot (length bytes) (record_size h) (record_count h (length bytes))) (map (slot_of h.dims) h.vars)

-- no value of the variable is missing
abbrev pub HasAll : Header → Bytes → Var → Type 0
HasAll h bytes var = first_missing h bytes var (record_count h (length bytes)) ≡ None

values-present : (h : Header) (bytes : Bytes) (header_end : ℕ) → IsSoundLayout (layout_of h header_end (length bytes))
    → All (HasAll h bytes) h.vars → values_end (layout_of h header_end (length bytes)) ≤ length bytes
values-present h bytes header_end sound all =
    let n = record_count h (length bytes) in
    let slabs = unmapped IsSoundSlot h.dims h.vars sound.sound_slots in
    let whole : AreWhole h bytes = All-map (IsWholeSlot (length bytes) (record_size h) n) (slot_of h.dims) h.vars
    (λ k d lt. whole-slot h bytes _ n (slabs k d lt).some_bytes (all k d lt)) in
    values-whole (layout_of h header_end (length bytes)) sound.header_inside (grind (arith, count-is, size-is))

all-present : (h : Header) (bytes : Bytes) (header_end : ℕ) → IsSoundLayout (layout_of h header_end (length bytes))
    → values_end (layout_of h header_end (length bytes)) ≤ length bytes → All (HasAll h bytes) h.vars
all-present h bytes header_end sound within =
    let n = record_count h (length bytes) in
    let slots = whole-values (layout_of h header_end (length bytes)) sound within in
    let whole : AreWhole h bytes = grind (arith, count-is, size-is) in
    λ k d lt. whole-variable h bytes _ n (unmapped (IsWholeSlot (length bytes) (record_size h) n) h.dims h.vars whole k d lt)

-- ---- tests

pub none-lack : (h : Header) (bytes : Bytes) (vars : List Var) → list_any (lacks_values h bytes) vars ≡ false → All (HasAll h bytes) vars
none-lack h bytes [] none = All-nil _
none-lack h bytes (var ∷ vars) none = grind (arith, none-lack h bytes vars, All-cons)

pub all-have : (h : Header) (bytes : Bytes) (vars : List Var) → All (HasAll h bytes) vars → list_any (lacks_values h bytes) vars ≡ false
all-have h bytes vars all = list_any_none (lacks_values h bytes) vars (λ k d lt. ap is_some (all k d lt))

pub short-lacks : ShortFilesLackValues
short-lacks h bytes header_end sound = grind (arith, nat_tests, all-have, all-present, values-present, none-lack)

-- ---- the finding

values-quiet : (layout : FileLayout) → values_end layout ≤ layout.file_len → finds is_of_missing layout ≡ false
unfolding slot_findings block_findings end_findings
values-quiet layout within =
    all-quiet is_of_missing layout (λ n. refl) (λ n. refl) (λ i x at. grind arith) (grind (arith, nat_tests)) (λ b has. grind arith)

pub missing-found : MissingValuesAreFound
missing-found h bytes header_end sound =
    let layout = layout_of h header_end (length bytes) in
    let found = λ (none : finds is_of_missing layout ≡ false).
    quiet-values is_of_missing layout sound (λ file_len end slab. refl) (quiet-end is_of_missing layout none) in
    grind (arith, nat_tests, short-lacks h bytes header_end sound, values-quiet layout)
