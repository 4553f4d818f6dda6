-- The names that several files of proofs cite from elsewhere, passed on from one place.
pub use Rattle.nc_base.specs.declared.{fault.FormatFault.FormatFault, header.Header.Header}
pub use Rattle.nc_types.specs.declared.{version.Version.Version}
pub use Rattle.nc_findings.specs.declared.{listing.Listing.Listing, entry.Entry.Entry, layout_fact.LayoutFinding.LayoutFinding, finding.Fact.Fact, finding.Finding.Finding, kind.Kind.Kind}
pub use Rattle.nc_layout.specs.Blocks.{each_slot}
pub use Rattle.nc_layout.specs.Findings.{IsSoundLayout, layout_findings}
pub use Rattle.nc_layout.specs.HeaderLayout.{layout_of}
pub use Rattle.nc_layout.specs.declared.{slot.FileLayout.FileLayout, slot.Slot.Slot}
pub use Rattle.nc_rules.specs.Ahead.{ahead_of}
pub use Rattle.nc_rules.specs.AttributeRules.{attribute_finding, finding_by_kind}
unfoldable pub use Rattle.nc_rules.specs.AttributeRules.{attribute_findings}
pub use Rattle.nc_rules.specs.FieldRules.{findings_at, is_floating, is_not_nfc}
unfoldable pub use Rattle.nc_rules.specs.HeaderRules.{header_findings}
pub use Rattle.nc_rules.specs.Indexed.{Indexed, each_after, each_before, field_at, indexed, indexed_from}
pub use Rattle.nc_rules.specs.NameRules.{NameKey, duplicate_name, first_index, has_key, is_first, is_index, is_same_key, is_same_list, key_of}
pub use Rattle.nc_rules.specs.Findings.{IsInOrder, finding_cmp}
unfoldable pub use Rattle.nc_rules.specs.Findings.{all_findings}
pub use Rattle.nc_rules.specs.WholeHeader.{found_at, is_begin, is_numrecs, is_vsize, located, named, vsize_finding}
unfoldable pub use Rattle.nc_rules.specs.WholeHeader.{vsize_findings, whole_findings}
pub use Rattle.nc_rules.specs.code.FirstNames.{HasFirst, hash, index_if, index_of, is_first_of, is_key_of}
pub use Rattle.nc_rules.specs.code.Passes.{ahead_with, each_backward}
pub use Rattle.nc_rules.specs.code.WholeHeaders.{HoldsNumbers, found_at_number, located_number, number_field, vsize_finding_at, vsize_findings_at}
pub use Rattle.nc_rules.specs.declared.{ahead.Ahead.Ahead, ahead.NumberField.NumberField, names.FirstNames.FirstNames, names.NameScope.NameScope, number_fields.NumberFields.NumberFields}
pub use Rattle.std.proofs.Common.{Bool, Bor, Err, IsTrue, List, None, Ok, OnOk, Option, Result, Some, SomeIff, [], ap, append_assoc, ap₂, arith, cond, drop, false, get_or, if◌then◌else◌, length, map, not, refl, rules, slice_get, subst, suc, sym, take, true, zero, ℕ, ◌&&◌, ◌++◌, ◌+◌, ◌-◌, ◌<◌, ◌==◌, ◌^◌, ◌↔◌, ◌∙◌, ◌∷◌, ◌≡◌, ◌≤◌}
pub use Rattle.std.proofs.lemmas.Bool.{false_from_ne_true}
pub use Rattle.std.proofs.lemmas.Cmp.{nat_cmp_total, on_total, then_total, tied_itself}
pub use Rattle.std.proofs.lemmas.List.{at_drop_more, length-take-le, take_more}
pub use Rattle.std.proofs.lemmas.List.Sorted.{IsPermutation-append, IsPermutation-append_comm, IsPermutation-append_left, IsPermutation-append_right, IsPermutation-map, IsPermutation-refl, IsPermutation-trans, answers_always, ranks_by, sorted_far, sum_by-IsPermutation}
pub use Rattle.std.specs.Bool.{one_answer}
pub use Rattle.std.specs.Cmp.{IsTotalOrder}
pub use Rattle.std.specs.Cmp.Lexicographic.{bytes_decides, options_total, slice_cmp}
pub use Rattle.std.specs.List.{All, AllPairs, sum_by}
pub use Rattle.std.specs.Option.{option_copied, option_map, option_map_or, option_or, option_to_list}
pub use Rattle.std.specs.Ordering.{is_eq, is_gt, is_lt, nat_cmp, ordering_reverse, ordering_then}
pub use Rattle.std.specs.Prelude.{IsPermutation, find, flat_map}
pub use Rattle.std.specs.Str.{IsUtf8, chars, is_utf8}
pub use Rattle.std.specs.declared.{cmp.Ordering.Ordering}
