-- The blocks of a file are listed in the order of the header, the records last.
use Rattle.nc_layout.proofs.Prelude.{Contains, AllPairs, option_map_or, nat_tests, Contains-get_or, AllPairs-cons, Slot, FileLayout, Extent, records_begin, record_count, is_listed_before, each_slot, slot_block, fixed_block, records_block, blocks, ◌≡◌, ℕ, ◌+◌, ◌<◌, true, List, [], ◌∷◌, ◌++◌, length, get_or, arith, Option, Some, None}
use Rattle.std.proofs.lemmas.List.{append-nil}
use Rattle.std.proofs.lemmas.List.Quantifiers.{all_pairs_push}
use Rattle.nc_findings.specs.declared.layout_fact.Block.TheVariants.{Var, Records}
use Rattle.nc_layout.proofs.BlockOrder.{Listed, contains-none, contains-cases}

-- the blocks of slots from index i on are listed after those before it, and before the records
fixed_from : (slots : List Slot) (i : ℕ) (b : Extent) → Contains (each_slot fixed_block i slots) b
    → ((j : ℕ) → j < i → is_listed_before (Var j) b.block ≡ true) × (is_listed_before b.block Records ≡ true)
fixed_from [] i b has = absurd (contains-none b has)
fixed_from (slot ∷ slots) i b has =
    grind (arith, nat_tests, fixed_from slots (i + 1) b, contains-cases (slot_block i slot) b (each_slot fixed_block (i + 1) slots))

fixed-listed : (slots : List Slot) (i : ℕ) → AllPairs Listed (each_slot fixed_block i slots)
fixed-listed [] i = λ j k d lt within. absurd (omega arith)
fixed-listed (slot ∷ slots) i =
    let rest = each_slot fixed_block (i + 1) slots in
    let after = λ (k : ℕ) (d : Extent) (lt : k < length rest). fixed_from slots (i + 1) (get_or rest k d) (Contains-get_or rest k d lt) in
    grind (arith, fixed-listed slots (i + 1), AllPairs-cons Listed (slot_block i slot) rest (λ k d lt. (after k d lt).0 i (omega arith)))

with_records : (slots : List Slot) (n : ℕ) (begin : Option ℕ)
    → AllPairs Listed (each_slot fixed_block 0 slots ++ option_map_or (λ b. records_block slots n b ∷ []) begin [])
with_records slots n None = grind (arith, append-nil, fixed-listed)
with_records slots n (Some begin) =
    let fixed = each_slot fixed_block 0 slots in
    all_pairs_push Listed fixed (records_block slots n begin) (fixed-listed slots 0)
    (λ k d lt. (fixed_from slots 0 (get_or fixed k d) (Contains-get_or fixed k d lt)).1)

pub blocks-listed : (layout : FileLayout) → AllPairs Listed (blocks layout)
unfolding blocks
blocks-listed layout = with_records layout.slots (record_count layout) (records_begin layout.slots)
