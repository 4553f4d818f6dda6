-- The names that several files of proofs cite from elsewhere, passed on from one place.
pub use Rattle.nc_base.proofs.FileHolds.{bare-after, file-holds, header-len-bare, len-after, record_size_of-bare, records-bare, sound-after}
pub use Rattle.nc_base.proofs.PartOutcomes.{Tells, printed, reads, stops, tells}
pub use Rattle.nc_base.proofs.Prelude.{be_bytes_4, be_bytes_8, mul-div_cancel}
pub use Rattle.nc_base.proofs.Printable.{header-printable, one-total, total-append}
pub use Rattle.nc_base.proofs.SlabBytes.{fixed-whole, record-whole}
pub use Rattle.nc_types.specs.Bytes.{AreBytes, Bytes}
pub use Rattle.nc_base.specs.Datasets.{Fits, HoldsDataset}
pub use Rattle.nc_base.specs.GeneratedFile.{begin_after, fixed_vars, known_records, record_part, slabs_before, vars_with_begins}
unfoldable pub use Rattle.nc_base.specs.GeneratedFile.{data_of, file_of, with_begins}
pub use Rattle.nc_base.specs.Grammar.{Rules, SpellsHeader, att_after, attribute_tag, checked, count_part, dim_after, dimension_tag, dimid_after, first, header_part, header_spelling, is_within_limits, strict, type_in, var_after, variable_tag}
unfoldable pub use Rattle.nc_base.specs.Grammar.{att_list, att_part, counted, dim_list, dim_part, dimid_part, each, header_by, ignored, limited_part, list_head, list_part, magic_part, name_part, number, numrecs_part, offset_part, shape_part, type_part, var_list, var_part, version_part}
pub use Rattle.nc_base.specs.Headers.{AreArrays, HasValidNames, IsGood, bare, bare_var}
pub use Rattle.nc_types.specs.Names.{IsName, is_name, may_follow_in_name}
pub use Rattle.nc_base.specs.Parts.{Atts, Begin, Count, Dims, Gatts, Item, Length, Magic, Name, Padding, Part, Records, Shape, Step, Tag, Text, TypeCode, Values, Vars, VersionByte, Vsize, bytes, chain, decoded, done, under}
unfoldable pub use Rattle.nc_base.specs.Parts.{Spells, print}
pub use Rattle.nc_base.specs.Places.{distance, ends_after, first_missing, slab_strides, stored_bytes, vectors_below}
unfoldable pub use Rattle.nc_base.specs.Places.{value_offsets}
pub use Rattle.nc_base.specs.Sizes.{has_record_dim, is_record_var, padded_size, padded_total, product, record_size_of, record_vars, slab_lens, slab_size}
pub use Rattle.nc_types.specs.Types.{code_of, size_of}
pub use Rattle.nc_types.specs.Versions.{count_limit, count_width, offset_width, vsize_of}
pub use Rattle.nc_base.specs.code.PartRuns.{IsPrintable, Outcome, StopsWith, and_then, with_rest}
unfoldable pub use Rattle.nc_base.specs.code.PartRuns.{left_after, run}
pub use Rattle.nc_base.specs.declared.{dataset.Dataset.Dataset, fault.FormatFault.FormatFault, header.Att.Att, header.Dim.Dim, header.Header.Header, header.NumRecs.NumRecs, header.Var.Var}
pub use Rattle.nc_types.specs.declared.{nc_type.NcType.NcType, version.Version.Version}
pub use Rattle.nc_base.specs.declared.fault.FormatFault.TheVariants.{BadCount, BadName, BadTag, FloatingType, HeaderTruncated, NotNetcdf, TooLarge, TwoRecordDims}
pub use Rattle.nc_base.specs.declared.header.NumRecs.TheVariants.{Known}
pub use Rattle.nc_fields.proofs.Checks.{IsField, bytes-field, decoded-field, fault_in}
pub use Rattle.nc_fields.specs.Entries.{Seen, field_steps, owner_steps, seen_by, steps_of, whole_content}
unfoldable pub use Rattle.nc_fields.specs.Entries.{seen}
pub use Rattle.nc_fields.specs.Fields.{Field}
unfoldable pub use Rattle.nc_fields.specs.Fields.{fields}
pub use Rattle.nc_fields.specs.Lenient.{any_length_limit, is_no_control, lenient, may_be_name}
pub use Rattle.nc_fields.specs.Listings.{IsListing, IsOutcome, start_of}
pub use Rattle.nc_findings.specs.declared.{listing.Listing.Listing, entry.Content.Content, entry.Entry.Entry, place.FieldKind.FieldKind, place.Owner.Owner, place.Place.Place, layout_fact.Block.Block, layout_fact.LayoutFact.LayoutFact, layout_fact.LayoutFinding.LayoutFinding, layout_fact.Slab.Slab, finding.Fact.Fact, finding.Finding.Finding, report.Report.Report, kind.Severity.Severity}
pub use Rattle.nc_window.proofs.PartRuns.{shorter}
pub use Rattle.nc_layout.proofs.BlockOrder.{contains-cases, contains-filter, contains-here, contains-none, contains-there, filter-contains}
pub use Rattle.nc_layout.proofs.HeaderSlots.{kept-slots, record_slots-are, record_slots-total, slots-total}
pub use Rattle.nc_layout.proofs.SpelledLayouts.{spelled-layout}
pub use Rattle.nc_layout.proofs.SweptBlocks.{greatest_from-above, greatest_from-ge, greatest_from-least}
pub use Rattle.nc_layout.specs.BlockRules.{greatest_end}
unfoldable pub use Rattle.nc_layout.specs.BlockRules.{block_findings}
pub use Rattle.nc_layout.specs.Blocks.{before, each_slot, fixed_block, has_values, precedes, records_block, records_end, slot_block}
unfoldable pub use Rattle.nc_layout.specs.Blocks.{blocks}
pub use Rattle.nc_layout.specs.FileEnd.{first_slab, is_cut, record_slab, slabs_of, used_end, values_end}
unfoldable pub use Rattle.nc_layout.specs.FileEnd.{all_slabs, end_findings, first_cut_slab}
pub use Rattle.nc_layout.specs.Findings.{IsSoundLayout, IsSoundSlot}
unfoldable pub use Rattle.nc_layout.specs.Findings.{layout_findings}
pub use Rattle.nc_layout.specs.HeaderLayout.{layout_of, slot_of}
pub use Rattle.nc_layout.specs.SlotRules.{bytes_before, greatest_begin}
unfoldable pub use Rattle.nc_layout.specs.SlotRules.{slot_findings}
pub use Rattle.nc_layout.specs.Slots.{is_fixed, is_sole_narrow, padded_slab_len, record_slots, slab_in_record}
unfoldable pub use Rattle.nc_layout.specs.Slots.{record_count, record_size, records_begin, records_by_length}
pub use Rattle.nc_layout.specs.code.PassedSlots.{is_record_slot}
pub use Rattle.nc_layout.specs.code.Sweep.{padding_end, value_end}
pub use Rattle.nc_layout.specs.declared.{blocks.Extent.Extent, file_end.SlabPlace.SlabPlace, slot.FileLayout.FileLayout, slot.Slot.Slot}
pub use Rattle.nc_rules.proofs.OneOrder.{UpTo, pairs-head, pairs-tail, same-lists}
pub use Rattle.nc_rules.specs.Ahead.{ahead_of, is_field, next_number, number_at}
pub use Rattle.nc_rules.specs.AttributeRules.{attribute_finding, empty_list, finding_by_kind}
unfoldable pub use Rattle.nc_rules.specs.AttributeRules.{attribute_findings}
pub use Rattle.nc_rules.specs.FieldRules.{facts_of, facts_with, fault_fact, findings_at, floating_finding, gzip_signature, has_nonzero, is_floating_in, is_large_count}
unfoldable pub use Rattle.nc_rules.specs.FieldRules.{field_findings, floating_findings}
unfoldable pub use Rattle.nc_rules.specs.HeaderRules.{header_findings}
pub use Rattle.nc_rules.specs.Indexed.{Indexed, each_after, each_before, field_at, finding, indexed, indexed_from}
pub use Rattle.nc_rules.specs.NameRules.{duplicate_name, is_first}
pub use Rattle.nc_rules.specs.Superblocks.{cut_before, hdf5_truncated, is_hdf5, least_length}
unfoldable pub use Rattle.nc_rules.specs.NameRules.{name_findings}
pub use Rattle.nc_report.specs.Reports.{IsReport}
pub use Rattle.nc_rules.specs.Findings.{finding_cmp}
unfoldable pub use Rattle.nc_rules.specs.Findings.{all_findings}
pub use Rattle.nc_rules.specs.WholeHeader.{is_vsize, layout_facts, located, named, vsize_finding}
unfoldable pub use Rattle.nc_rules.specs.WholeHeader.{vsize_findings, whole_findings}
pub use Rattle.nc_rules.specs.declared.{ahead.Ahead.Ahead}
pub use Rattle.nc_findings.specs.declared.finding.Fact.TheVariants.{EmptyFile, Fault, Gzip, Hdf5}
pub use Rattle.nccheck_laws.specs.Agreement.{LenientHeadersAreStrict, SpellsLeniently, StrictFaultsAreFirstRefusals, StrictHeadersAreLenient, UnrefusedHeadersAreSpelled, att_without_values, first_refusal, header_fields, refusal, refusal_in, var_without_values, without_values}
pub use Rattle.nccheck_laws.specs.FaultLaws.{FaultlessHeadersAreReadable, FindsFirst, FirstFaultIsReaders, HasNoFault, IsReadable, ReportsTellMissingValues, is_fault, is_missing, strict_fault}
pub use Rattle.nccheck_laws.specs.HeaderLaws.{CanonicalBeginsAreGenerated, GeneratedFilesAreQuiet, MissingValuesAreFound, QuietFilesAreGenerated, ShortFilesLackValues, finds, is_of_missing, lacks_values}
pub use Rattle.nccheck_laws.specs.LayoutLaws.{AreApart, CanonicalBeginsAreQuiet, CanonicalLengthIsQuiet, FindsNone, HasCanonicalBegins, MissingValuesHaveSlab, QuietBeginsAreCanonical, QuietLengthIsCanonical, QuietSlabsAreApart, canonical_begin, canonical_len, fixed_bytes, is_of_begin, is_of_end, is_of_shared_bytes}
pub use Rattle.nccheck_laws.specs.ReportLaws.{CanonicalSpellingsAreQuiet, FindsWholeFile, GeneratedFilesAreFoundWhole, GeneratedFilesHaveQuietLayouts, GeneratedFilesHaveQuietSpellings, HasQuietLayout, IsAsGenerated, QuietFilesAreCanonical, QuietHeadersAreCanonical, QuietSpellingsAreCanonical, ShowsAllValues, WholeFilesHoldDatasets, WholeReportsAreDumped, has_any, is_of_layout, is_of_spelling}
pub use Rattle.nccheck_laws.specs.Written.{AreWritten, CanonicalFieldsAreWritten, IsWritten, IsWrittenTag, IsWrittenVsize, WrittenFieldsAreCanonical, bytes_of, number_of}
pub use Rattle.std.proofs.Common.{All, Bool, Err, IfSome, List, None, Ok, Option, Result, Some, [], ap, append-nil, append_assoc, ap₂, arith, codes, cond, drop, eqb-true, false, filter, flat_map, fold, get_or, if◌then◌else◌, inl, inr, le_refl, le_trans, leb, length, length-append, length-take-le, map, max, min, nat_lt, not, refl, replicate, slice_get, subst, suc, sum_by, sym, take, take_while, true, unwrap_or, zero, ℕ, ◌&&◌, ◌*◌, ◌++◌, ◌+◌, ◌-◌, ◌<◌, ◌==◌, ◌||◌, ◌↔◌, ◌∙◌, ◌∷◌, ◌≡◌, ◌≤◌, ◌⊎◌}
pub use Rattle.std.proofs.Math.Nat.{mul-le-mul_right}
pub use Rattle.std.proofs.Math.Seq.{drop-append_seam, take-append_seam, take-length}
pub use Rattle.std.proofs.lemmas.Bool.{cases_lt, false≢true, le-ltb, leb-false, leb-true, lt-ltb, ltb-false}
pub use Rattle.std.proofs.lemmas.Bool.Decides.{nat_tests}
pub use Rattle.std.proofs.lemmas.Cmp.{ranked, tied_itself, upto}
pub use Rattle.std.proofs.lemmas.Grind.{common_steps}
pub use Rattle.std.proofs.lemmas.List.{length-drop, length-map, length-take, map-append, take-append-le}
pub use Rattle.std.proofs.lemmas.List.Elements.{All-append, All-cons, All-contains, All-head, All-map, All-nil, All-tail, All-weaker, Contains-append_cases, Contains-append_left, Contains-append_right, Contains-get_or}
pub use Rattle.std.proofs.lemmas.List.Folds.{Any-from_list_any, list_any-append, list_any_none}
pub use Rattle.std.proofs.lemmas.List.FromFn.{get_or-map-range_with_len, length-map-range_with_len}
pub use Rattle.std.proofs.lemmas.List.Kept.{AllPairs-cons}
pub use Rattle.std.proofs.lemmas.List.Sorted.{All-permutation, IsPermutation-cons, IsPermutation-middle, IsPermutation-refl, IsPermutation-sym, IsPermutation-trans, list_any-IsPermutation}
pub use Rattle.std.proofs.lemmas.List.Sums.{fails_before_first, sum_by-cons, sum_by-le-sum_by, take_while-cons}
pub use Rattle.std.proofs.lemmas.Option.{get_or_from_slice_get, slice_get-get_or, slice_get-map, slice_get_within}
pub use Rattle.std.specs.Int.{Width, byte_len, from_be_bytes, to_be_bytes, w32, w64}
pub use Rattle.std.specs.List.{AllPairs, Contains, concat, list_all, list_any, position, range_with_len}
pub use Rattle.std.specs.Option.{option_cmp, option_map, option_map_or, option_or, option_to_list}
pub use Rattle.std.specs.Ordering.{is_eq, is_gt, nat_cmp, ordering_reverse, ordering_then}
pub use Rattle.std.specs.Prelude.{IsPermutation, is_some, zip}
pub use Rattle.std.specs.Str.{bytes_eq}
pub use Rattle.std.specs.declared.{cmp.Ordering.Ordering}
pub use Rattle.std.specs.declared.cmp.Ordering.TheVariants.{Equal, Greater, Less}
pub use Rattle.std.specs.Bool.{then_some}
