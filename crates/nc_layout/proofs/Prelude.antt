-- The names that several files of proofs cite from elsewhere, passed on from one place.
pub use Rattle.nc_base.specs.Sizes.{padded_size, padded_total, record_limit, record_vars, slab_limit, slab_size}
pub use Rattle.nc_base.specs.declared.{header.Dim.Dim, header.Header.Header, header.Var.Var}
pub use Rattle.nc_types.specs.declared.{version.Version.Version}
pub use Rattle.nc_layout.specs.Blocks.{before, each_slot, fixed_block, has_values, is_listed_before, precedes, records_block, slot_block}
unfoldable pub use Rattle.nc_layout.specs.Blocks.{blocks}
pub use Rattle.nc_layout.specs.FileEnd.{first_of, first_slab, is_cut, record_slab, slabs_of}
unfoldable pub use Rattle.nc_layout.specs.FileEnd.{all_slabs, first_cut_slab}
pub use Rattle.nc_layout.specs.Findings.{IsSoundLayout, IsSoundSlot}
unfoldable pub use Rattle.nc_layout.specs.Findings.{layout_findings}
pub use Rattle.nc_layout.specs.HeaderLayout.{layout_of, slot_of}
pub use Rattle.nc_layout.specs.SlotRules.{bytes_before, fixed_slot_at, greatest_begin, has_successor, order}
unfoldable pub use Rattle.nc_layout.specs.SlotRules.{slot_findings}
pub use Rattle.nc_layout.specs.Slots.{is_fixed, is_sole_narrow, padded_slab_len, record_count, record_slots, slab_in_record}
unfoldable pub use Rattle.nc_layout.specs.Slots.{record_size, records_begin}
pub use Rattle.nc_layout.specs.code.PassedSlots.{HasPassed, is_record_slot, next_has_successor, order_after, passed_after}
pub use Rattle.nc_layout.specs.code.Records.{slab_if}
pub use Rattle.nc_layout.specs.code.Sweep.{end_of, findings_at, further, padding_end, reached_with, swept, value_end}
pub use Rattle.nc_layout.specs.declared.{block_rules.Reached.Reached, blocks.Extent.Extent, file_end.SlabPlace.SlabPlace, slot.FileLayout.FileLayout, slot.Slot.Slot, slot_rules.PassedSlots.PassedSlots}
pub use Rattle.nc_findings.specs.declared.{layout_fact.Block.Block, layout_fact.LayoutFinding.LayoutFinding}
pub use Rattle.std.proofs.Common.{All, Bool, List, None, Option, Some, [], ap, append_assoc, arith, cond, count_by, drop, false, filter, fold, get_or, if◌then◌else◌, is_some, length, map, max, min, nat_lt, not, refl, rules, set, slice_get, subst, suc, sum_by, sym, take, true, zero, ℕ, ◌&&◌, ◌*◌, ◌++◌, ◌+◌, ◌<◌, ◌==◌, ◌^◌, ◌∙◌, ◌∷◌, ◌≡◌, ◌≤◌, ◌⊎◌}
pub use Rattle.std.proofs.Math.ListN.{take-append-drop}
pub use Rattle.std.proofs.lemmas.Bool.{cases_lt}
pub use Rattle.std.proofs.lemmas.Bool.Decides.{nat_tests}
pub use Rattle.std.proofs.lemmas.Grind.{common_steps, fold-append}
pub use Rattle.std.proofs.lemmas.List.{at_drop_more, get_or-map, length-map, length-take-le, map-append, take_more}
pub use Rattle.std.proofs.lemmas.List.Elements.{All-head, All-map, All-push, All-tail, Contains-append_cases, Contains-append_left, Contains-get_or, Contains-push, Contains-push_cases, filter-append}
pub use Rattle.std.proofs.lemmas.List.Folds.{fold-map, list_any_at, list_any_none, position_or_len_push}
pub use Rattle.std.proofs.lemmas.List.Kept.{AllPairs-cons, AllPairs-filter}
pub use Rattle.std.proofs.lemmas.List.Sorted.{Contains-permutation, IsNonDecreasingBy-from_sort_by_key, IsPermutation-append_comm, IsPermutation-append_left, IsPermutation-append_right, IsPermutation-keeps, IsPermutation-refl, IsPermutation-sym, IsPermutation-trans, answers_always}
pub use Rattle.std.proofs.lemmas.List.Sums.{sum-map, sum_by-append, sum_by-le-sum_by}
pub use Rattle.std.specs.List.{AllPairs, Contains, find, list_any, prefix_len, range_with_len, swap}
pub use Rattle.std.specs.Option.{ForSome, option_map_or, option_to_list}
pub use Rattle.std.specs.Prelude.{IsPermutation, flat_map}
