-- The names that proofs of this crate cite from elsewhere, passed on from one place.
pub use Rattle.std.proofs.Common.{◌≡◌, ◌≢◌, ℕ, suc, ◌+◌, ◌-◌, ◌<◌, true, false, List, [], ◌∷◌, length, get_or, take, drop, refl, ap, ◌∙◌, arith, not, get_or-drop, ◌==◌, ◌≤◌, Bool, ◌&&◌, ◌||◌, map, sym, subst, Option, Some, None, All, if◌then◌else◌, slice_index_or, rules, Ok, Err, nat_le, nat_lt, slice_get, IfSome, zero, ◌*◌, ◌/◌, ◌%◌, min, max, ◌++◌, append_assoc, inl, inr, replicate, leb, Result, leb-false, cond, drop-cons, filter, slice_index, ℤ, unsigned_abs, ok_or, IsTrue, ◌⊎◌, ap₂, ◌^◌, sum, zip, MatchResult, is_ok, IsSome, SomeIff, is_some, eqb, ⊎_elim, codes, pos, lit<}
pub use Rattle.nc_types.specs.Bytes.{AreBytes, padding_len, Bytes}
unfoldable pub use Rattle.nc_types.specs.Bytes.{concat_parts}
pub use Rattle.nc_base.specs.Dump.{VariableValues, Ending, IsDump, first_unknown, Options, DataText, values_in_file, shown_data, dump_text, has_values, has_variable, selection_of, shown, shown_data_text, stopped, unknown, with_variable, variables_text}
pub use Rattle.nc_base.specs.Datasets.{Fits, HoldsDataset, IsText, is_shown, is_unknown, values_in_dataset}
unfoldable pub use Rattle.nc_base.specs.Dump.{data_word}
unfoldable pub use Rattle.nc_types.specs.Escapes.{escaped_name, escaped_text, is_reserved}
unfoldable pub use Rattle.nc_base.specs.Fill.{fill_value}
pub use Rattle.nc_base.specs.GeneratedFile.{begin_after, block, fits, fixed_vars, is_sole_narrow, known_records, record_part, slab_in, vars_with_begins}
unfoldable pub use Rattle.nc_base.specs.GeneratedFile.{data_of, file_of, fill_bytes, padded_slab, with_begins}
pub use Rattle.nc_base.specs.Grammar.{SpellsHeader, StopsAt, header_spelling, dimension_tag, attribute_tag, variable_tag, is_dimid, is_within_limits, count_part, known_type, dim_after, att_after, dimid_after, var_after, numrecs_in, header_part, strict, first, version_in, type_in, record_bytes}
pub use Rattle.nc_base.specs.Headers.{AreArrays, AreDimids, IsDimid, HasValidNames, HasWholeValues, IsArray, IsGood, IsSound, IsSoundAtt, IsSoundDim, IsSoundNumRecs, IsSoundVar, bare, bare_var}
pub use Rattle.nc_base.specs.Sizes.{has_record_dim, value_count, dim_len, is_narrow, is_record_var, is_record_shape, padded_size, padded_total, product, record_count, record_limit, record_size, record_size_of, record_vars, records_begin, slab_count, slab_lens, slab_limit, slab_size}
pub use Rattle.nc_types.specs.Names.{IsName}
pub use Rattle.nc_base.specs.Numbers.{bytes_of_number, number_of, numbers_from}
unfoldable pub use Rattle.nc_base.specs.Numbers.{numbers}
pub use Rattle.nc_base.specs.Places.{bytes_at, distance, ends_after, first_missing, slab_strides, stored_bytes, stored_values, vectors_below}
pub use Rattle.nc_base.specs.code.Extents.{extent_end, end_after}
unfoldable pub use Rattle.nc_base.specs.Places.{value_offsets}
pub use Rattle.nc_base.specs.code.SizeParts.{checked_record_size, extent_sum, has_small_slab, is_fixed_dim, slab_at, slab_if}
pub use Rattle.nc_types.specs.Types.{code_of, size_of}
pub use Rattle.nc_base.specs.HeadText.{without_trailing_nuls}
pub use Rattle.nc_base.specs.ValueText.{Look, begins_row, char_lead, column, is_char, number_text, printed_bytes, row_len, row_text}
unfoldable pub use Rattle.nc_base.specs.ValueText.{characters_text, variable_closing, look_of, number_piece, number_pieces, variable_opening, variable_prefix, variable_text}
pub use Rattle.nc_base.specs.code.LaterPieces.{char_text, held, is_nul, later_pieces}
unfoldable pub use Rattle.nc_base.specs.code.LaterPieces.{char_piece, piece, pieces}
pub use Rattle.nc_types.specs.Versions.{count_limit, count_width, has_type, offset_limit, offset_width, streaming_mark, version_byte, vsize_of}
pub use Rattle.nc_base.specs.code.ListedRows.{AreRowEnds, StandAt}
unfoldable pub use Rattle.nc_base.specs.code.ListedRows.{filled_rows, row_start}
pub use Rattle.nc_base.specs.code.Weight.{att_weight, dim_weight, var_weight}
pub use Rattle.nc_base.specs.declared.{dataset.Dataset.Dataset, header.Att.Att, header.Dim.Dim, header.Header.Header, header.NumRecs.NumRecs, header.Var.Var}
pub use Rattle.nc_types.specs.declared.{nc_type.NcType.NcType, version.Version.Version}
pub use Rattle.nc_base.specs.declared.header.NumRecs.TheVariants.{Known, Streaming}
pub use Rattle.nc_types.specs.declared.nc_type.NcType.TheVariants.{Byte, Int, Short}
pub use Rattle.nc_types.specs.declared.version.Version.TheVariants.{Cdf1, Cdf2, Cdf5}
pub use Rattle.std.proofs.Math.Nat.{div-lt_iff_lt-mul, div-mul-le_self, mod-add-div, mod-add-mod, mod-eq-sub-div-mul, mod-lt, mod-zero, mod_self, mul-div_cancel, mul-le-mul_left, mul-le-mul_right, div-le_self}
pub use Rattle.std.proofs.Math.Seq.{take-add, take-append_seam, drop-append_seam}
pub use Rattle.std.proofs.lemmas.Bool.{cases_lt, cond-false, cond-true, eq-eqb, eqb-false, eqb-true, false_from_ne_true, le-leb, le-ltb, leb-true, lt-ltb, ltb-true, lt-leb}
pub use Rattle.std.proofs.lemmas.Bool.Decides.{nat_tests}
pub use Rattle.std.proofs.lemmas.Grind.{common_steps, flat_map-append}
pub use Rattle.std.proofs.lemmas.List.{append-nil, get_or-replicate, drop-append-le, drop-drop, drop-replicate, drop_all, drop_at, drop_min, drop_more, length-append, length-drop, length-map, length-replicate, length-reverse, length-take, length-take-le, map-append, nil_from_length, reverse-append, take-append-drop, take-append-le, take_all, take_at}
pub use Rattle.std.proofs.lemmas.List.Elements.{All-append, All-cons, All-filter, All-get_or, All-head, All-map, All-nil, All-tail, All-weaker, filter-append}
pub use Rattle.std.proofs.lemmas.List.Folds.{concat-append, list_any_at, prefix_len-append}
pub use Rattle.std.proofs.lemmas.List.Sums.{fails_before_first, length-filter, position_or_len_is, suffix_len-le-length, suffix_len_is, sum-map, sum_by-append}
pub use Rattle.std.proofs.lemmas.Nat.{be_bytes_2, be_bytes_4, be_bytes_8, div-mul-add, from_be_bytes-to_be_bytes_4, from_be_bytes-to_be_bytes_8, mod-mul-add, mul-lt}
pub use Rattle.std.specs.Fmt.{decimal, digit_glyph, digits_onto}
unfoldable pub use Rattle.std.specs.Fmt.{digits}
pub use Rattle.std.specs.Int.{Width, byte_len, cast_signed, cast_unsigned, from_be_bytes, to_be_bytes, w16, w32, w64, w8}
pub use Rattle.std.specs.List.{after_last, before_last, concat, count_by, flat_map, last_or, list_all, list_any, position, position_or_len, range_with_len, suffix_len, sum_by}
pub use Rattle.std.specs.Option.{option_to_list}
pub use Rattle.std.specs.Str.{IsUtf8, bytes_eq}
unfoldable pub use Rattle.std.specs.Str.{chars, is_utf8}
pub use Rattle.nc_base.proofs.Tests.{and_left, and_right, and_both, not_none, some_right}
pub use Rattle.nc_types.specs.Escapes.{escaped_in_string}
pub use Rattle.nc_base.specs.Parts.{Step, Part, done, bytes, decoded, under, chain, Magic, VersionByte, Records, Dims, Gatts, Vars, Tag, Count, Item, Name, Length, Text, Padding, TypeCode, Values, Shape, Atts, Vsize, Begin}
unfoldable pub use Rattle.nc_base.specs.Parts.{Spells, print, Stops}
unfoldable pub use Rattle.nc_base.specs.Grammar.{limited_part, name_part, type_part, each, counted, list_head, list_part, dim_part, dim_list, att_part, att_list, dimid_part, shape_part, var_part, var_list, numrecs_part, header_by, number, offset_part, ignored, version_part, magic_part}
unfoldable pub use Rattle.nc_base.specs.code.PartRuns.{StopsWith, run, place, printed_len}
pub use Rattle.nc_base.specs.code.PartRuns.{Outcome, and_then, with_rest, IsPrintable}
pub use Rattle.nc_base.specs.declared.fault.FormatFault.{FormatFault}
pub use Rattle.nc_base.specs.declared.fault.FormatFault.TheVariants.{BadType, FloatingType, BadCount, BadOffset, BadName, BadTag, TwoRecordDims, BadShape, TooLarge}
pub use Rattle.std.proofs.lemmas.Str.Pattern.{rfind_char}
pub use Rattle.std.specs.Prelude.{⊤}
