-- The names that proofs of this crate cite from elsewhere, passed on from one place.
pub use Rattle.std.proofs.Common.{◌≡◌, ℕ, ◌+◌, ◌*◌, ◌-◌, ◌/◌, ◌<◌, true, List, [], ◌∷◌, ◌++◌, map, ◌∙◌, ap, refl, arith, append_assoc, slice_index_or, ◌⊎◌, drop, sym, subst, false, append-nil, None, Ok, codes, rules, length, Result, ℤ, Bool, get_or, if◌then◌else◌, suc, ◌^◌, Some, ◌≤◌, unsigned_abs, ◌==◌, not, Option, zero, take, ◌&&◌, is_none, is_some, ◌||◌, All, filter, slice_get, pos, replicate, ◌%◌, decimal, negsuc, nat_le, length-drop, nat_lt, find}
pub use Rattle.cdl_laws.specs.Goods.{KeepsFill, IsNearlySayable, MeaningsAreGood, MeaningsAreNearlySayable}
pub use Rattle.cdl_laws.specs.PieceLaws.{AttributeReadsBack, DeclarationReadsBack, IsBeforeData, IsStatement, SaysStatement, brace_piece, declaration, dimensions, globals, said_dim, variables, escaped_owner}
pub use Rattle.cdl_laws.specs.Reading.{cut_lexemes, lexemes, with_lexeme}
unfoldable pub use Rattle.cdl_laws.specs.Reading.{lexemes_at, pieces_of}
pub use Rattle.cdl_laws.specs.RoundTrip.{IsFull, TextReadsBack}
pub use Rattle.cdl_laws.specs.TokenLaws.{AreToken, NamesReadBack, StandsForBytes, StopsNumber, StringsStandForBytes}
pub use Rattle.cdl_laws.specs.Trims.{FillValueSurvivesTrim, TrimmedIsSayable, TrimsOnce}
pub use Rattle.cdl_statements.specs.Meaning.{array_of, dataset_of, empty, has_small_array, header_of, meaning, records_in, listed_values}
unfoldable pub use Rattle.cdl_statements.specs.SoundHeaders.{is_sound}
unfoldable pub use Rattle.cdl_statements.specs.Meaning.{finished, are_within_limits, piece_read, run}
pub use Rattle.cdl_statements.specs.State.{Draft, Joined, Numbers, Rows, State, add_constant, add_value, change_named, int_within, filled, first_type, in_turn, room_of, values_listed, with_att, with_values, ◌>>=◌}
unfoldable pub use Rattle.cdl_statements.specs.State.{act, add_att, add_dim, add_dimid, add_var, change_variable, has_number, takes_of, type_of}
pub use Rattle.cdl_statements.specs.Lexemes.{Lexeme, is_word, lexeme}
unfoldable pub use Rattle.cdl_statements.specs.Lexemes.{name_of}
pub use Rattle.cdl_statements.specs.Pieces.{first_role, role, section_of, statements, step, with_first}
unfoldable pub use Rattle.cdl_statements.specs.Pieces.{is_section, pieces_after}
pub use Rattle.cdl_statements.specs.code.Cutters.{is_end_role}
pub use Rattle.cdl_statements.specs.Shapes.{Attribute, Close, Characters, DeclareDimensions, Dimension, Listed, Enter, Number, Statement, DeclareVariables, Underscore, Value, Variable, after_member, assigned, at_end, attribute_or_mark, both, constant, constants, first_bad, if_so, in_parentheses, other_statement, section_mark, section_number, token_fault}
unfoldable pub use Rattle.cdl_statements.specs.Shapes.{shape}
pub use Rattle.cdl_statements.specs.declared.{fault.CdlKind.CdlKind, piece.CutState.CutState, piece.Role.Role, section.Section.Section}
pub use Rattle.cdl_statements.specs.declared.section.Section.TheVariants.{Closed, Dimensions, Ended, Globals, Unopened, Values, Variables}
pub use Rattle.cdl_tokens.proofs.Strings.{or_zero, stands_for}
pub use Rattle.cdl_tokens.specs.Bytes.{is_mark_byte, may_begin_word, digit_value, goes_on_number, goes_on_word, is_blank, is_digit, is_escapable, is_escape, is_octal, is_sign, number_in}
pub use Rattle.cdl_tokens.specs.Escapes.{up_to_255, inner, plain_escape, string_value, unescape}
unfoldable pub use Rattle.cdl_tokens.specs.Escapes.{character, unescape_at, word_value}
pub use Rattle.cdl_tokens.specs.Numerals.{TypedNumber, Parts, in_base, number, with_sign}
unfoldable pub use Rattle.cdl_tokens.specs.Numerals.{numeral, parts, type_of_suffix}
pub use Rattle.cdl_tokens.specs.Scan.{begins_a_word, begins_number, begins_opening, scan_text, token}
unfoldable pub use Rattle.cdl_tokens.specs.Scan.{scan, len_until, word_len}
pub use Rattle.cdl_tokens.specs.Tokens.{token_at, tokens}
unfoldable pub use Rattle.cdl_tokens.specs.Tokens.{tokens_at}
pub use Rattle.cdl_tokens.specs.declared.{scan.Scanned.Scanned, token.Token.Token, token.TokenKind.TokenKind}
pub use Rattle.nc_types.specs.Bytes.{AreBytes}
unfoldable pub use Rattle.nc_types.specs.Bytes.{concat_parts}
pub use Rattle.nc_base.specs.Dump.{DataText, variables_text, VariableValues, Options, shown_data, dump_text, has_name, has_values, is_selected, selection_of, shown_data_text, unknown, with_variable, whole}
pub use Rattle.nc_base.specs.Datasets.{values_in_dataset}
unfoldable pub use Rattle.nc_base.specs.Dump.{closing_word, data_word}
pub use Rattle.nc_types.specs.Escapes.{escaped_in_name, escaped_in_string, is_plain, octal_escape, reserved_words}
unfoldable pub use Rattle.nc_types.specs.Escapes.{escaped_name, escaped_text, is_reserved}
pub use Rattle.nc_base.specs.Fill.{is_fill_att}
unfoldable pub use Rattle.nc_base.specs.Fill.{fill_value}
pub use Rattle.nc_base.specs.HeadText.{att_text, broken_text, dim_name, joined, without_trailing_nuls}
unfoldable pub use Rattle.nc_base.specs.HeadText.{att_line, att_lines, chars_text, currently_word, dim_len_text, dim_line, dim_lines, dimensions_word, dims_text, gatts_text, global_word, head_text, netcdf_word, numbers_text, shape_text, string_break, unlimited_word, var_lines, variables_word, vars_text}
pub use Rattle.nc_base.specs.Headers.{AreArrays, AreDimids, IsArray, IsDimid, IsGood, IsSoundAtt, IsSoundDim, IsSoundVar, bare_var}
pub use Rattle.nc_base.specs.Sizes.{has_record_dim, value_count, is_record_var, padded_size, product, record_size_of, record_vars, slab_count, slab_lens}
pub use Rattle.nc_types.specs.Names.{IsName, ends_with_space, has_name_bytes, may_begin_name, may_follow_in_name}
pub use Rattle.nc_base.specs.NumberLaws.{IsInRange}
pub use Rattle.nc_base.specs.Numbers.{bytes_of_number, number_of, numbers_from}
unfoldable pub use Rattle.nc_base.specs.Numbers.{numbers}
pub use Rattle.nc_base.specs.Sayable.{AreDistinct, AreSayableAtts, HasSomeNumber, IsSayable, IsSayableVar, trimmed, trimmed_att, trimmed_header, trimmed_var}
pub use Rattle.nc_types.specs.Types.{default_fill_of, code_of, number_suffix, size_of, type_word}
pub use Rattle.nc_base.specs.ValueText.{Look, char_lead, is_char, number_lead, number_text, row_len}
unfoldable pub use Rattle.nc_base.specs.ValueText.{variable_closing, look_of, number_piece, variable_opening, variable_text}
pub use Rattle.nc_base.specs.code.LaterPieces.{is_nul}
unfoldable pub use Rattle.nc_base.specs.code.LaterPieces.{piece, pieces}
pub use Rattle.nc_types.specs.Versions.{count_limit, has_type}
pub use Rattle.nc_base.specs.declared.{dataset.Dataset.Dataset, header.Att.Att, header.Dim.Dim, header.Header.Header, header.Var.Var}
pub use Rattle.nc_types.specs.declared.{nc_type.NcType.NcType, version.Version.Version}
pub use Rattle.nc_base.specs.declared.header.NumRecs.TheVariants.{Known}
pub use Rattle.nc_types.specs.declared.nc_type.NcType.TheVariants.{Char, Int}
pub use Rattle.std.proofs.Math.Nat.{div-eq_of_lt, mod-eq_of_lt, mul-add-div, mul-div_cancel}
pub use Rattle.std.proofs.Math.Seq.{drop-append_seam, take-append_seam, take-length}
pub use Rattle.std.proofs.lemmas.Bool.{eqb-true, false≢true, le-leb, lt-ltb}
pub use Rattle.std.proofs.lemmas.Bool.Decides.{Decides-int_eq}
pub use Rattle.std.proofs.lemmas.Fmt.{decimal_nonempty, first_decimal}
pub use Rattle.std.proofs.lemmas.Int.{ints}
pub use Rattle.std.proofs.lemmas.List.{drop-drop, get_or-drop, length-append, length-map, length-replicate, length-take, map-append, replicate_more, take-append-drop, get_or-map, map-id}
pub use Rattle.std.proofs.lemmas.List.Folds.{list_all-append, list_any-append}
pub use Rattle.std.proofs.lemmas.List.Elements.{filter-append}
pub use Rattle.std.proofs.lemmas.List.Sums.{suffix_len-take_no, suffix_len-take_yes}
pub use Rattle.std.proofs.lemmas.Slice.Eq.{bytes_eq-Decides}
pub use Rattle.std.specs.Char.{is_ascii_control, to_ascii_lowercase}
pub use Rattle.std.specs.Fmt.{digit_glyph, digits_onto, signed_decimal}
unfoldable pub use Rattle.std.specs.Fmt.{digits}
pub use Rattle.std.specs.List.{flat_map, list_all, list_any, position_or_len, prefix_len, suffix_len}
pub use Rattle.std.specs.Option.{ok_or, option_map}
pub use Rattle.std.specs.Ordering.{int_eq}
pub use Rattle.std.specs.Str.{bytes_eq}
unfoldable pub use Rattle.std.specs.Str.{is_utf8}
pub use Rattle.nc_base.proofs.Tests.{and_left, and_right, and_both, is_off, not_none, or_second, is_on}
pub use Rattle.cdl_tokens.proofs.Words.{word_at_start, until_at_start, and_false, value_at_start}
pub use Rattle.nc_base.proofs.SoundLaws.{some_size, some_count}
pub use Rattle.nc_base.proofs.Found.{all-at}
pub use Rattle.cdl_tokens.proofs.PlainStrings.{inner_of}
pub use Rattle.nc_base.proofs.ValueLaws.{length-numbers_from}
pub use Rattle.nc_base.proofs.CharacterRows.{prefix_is, pieces_are, a_row}
unfoldable pub use Rattle.nc_base.proofs.CharacterRows.{char_pieces, printed}
pub use Rattle.cdl_statements.proofs.InRange.{is_had}
pub use Rattle.cdl_laws.proofs.Lists.{EachAfter, or_left, or_right, prefix_all, all_mono, map_none, nothing, bytes_each}
pub use Rattle.cdl_statements.proofs.Each.{Each, all_of, each_drop, each_map, each_more, each_of, each_take}
pub use Rattle.cdl_statements.proofs.Meanings.{IsByte, IsWhole, are_bytes, meanings_are_whole, number_bytes}
pub use Rattle.cdl_statements.proofs.Results.{OkIs, any_each, ok_next, ok_then, ok_unless, ok_when, turns}
pub use Rattle.cdl_statements.proofs.Rows.{slab_rows}
pub use Rattle.cdl_statements.proofs.SoundTests.{sound_is_tested}
pub use Rattle.nc_base.proofs.WholeValues.{map-map}
pub use Rattle.std.specs.Prelude.{unwrap_or}
