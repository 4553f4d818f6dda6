-- The names that proofs of this crate cite from elsewhere, passed on from one place.
pub use Rattle.std.proofs.Common.{◌≡◌, ℕ, true, false, List, ◌∷◌, refl, Ok, map, arith, suc, ◌*◌, ◌/◌, ◌<◌, ◌≤◌, Bool, [], length, sym, ap, ◌∙◌, All, ◌&&◌, if◌then◌else◌, max, nat_le, Option, None, Some, rules, SomeIff, drop, is_some, Result, Err, zero, get_or, set, OnErr, ◌++◌, subst, replicate, pos, nat_lt, ◌-◌, min, ◌+◌, IfOk, ◌||◌, not, slice_set, append_assoc, append-nil, slice_index_or, ℤ, ◌^◌, ap₂}
pub use Rattle.cdl_statements.specs.Meaning.{array_of, closing_line, dataset_of, empty, has_small_array, header_of, starting_line, records_in, listed_values}
pub use Rattle.cdl_statements.proofs.Readings.{checked, shaped}
unfoldable pub use Rattle.cdl_statements.specs.Meaning.{finished, are_within_limits, piece_read, run}
pub use Rattle.std.specs.Option.{ok_or}
pub use Rattle.cdl_statements.specs.State.{Draft, State, add_constant, change_named, dim_len_of, first_type, in_turn, type_said, unless, when, with_att, ◌>>=◌}
unfoldable pub use Rattle.cdl_statements.specs.State.{act, add_att, add_dim, add_dimid, add_var, change_variable, type_of}
pub use Rattle.cdl_parse.specs.code.AttributeNames.{att_names, has_attribute}
pub use Rattle.cdl_parse.specs.code.AttributeRead.{att_read, att_said, constants_said}
pub use Rattle.cdl_parse.specs.code.ClosingLines.{closing_after, closing_of}
pub use Rattle.cdl_parse.specs.code.DataSections.{BeginsData, Closes, IsInDataSection, ReadsOne, TakesStatement, given_at}
pub use Rattle.cdl_parse.specs.code.Declarations.{ReadsDimension, added, continued, declared, is_open_after, next_dimid, read_on, with_begun}
pub use Rattle.cdl_parse.specs.code.DeclaredDatasets.{dataset_of_declared, if_sound, or_too_large}
pub use Rattle.cdl_parse.specs.code.Defined.{Makes, after_mark, is_defining, is_before_data, is_over, state_of}
pub use Rattle.cdl_parse.specs.code.DimensionNames.{dim_names, is_dimension_name}
pub use Rattle.cdl_parse.specs.code.Drafts.{draft_of, drafts_of, is_variable_name, var_of, variable_names, with_new_draft}
pub use Rattle.cdl_parse.specs.code.Extents.{is_within_limits, records_for, records_kept, records_within, with_all}
pub use Rattle.cdl_parse.specs.code.Runs.{FailsAt, at_line, run_after}
pub use Rattle.cdl_parse.specs.code.TakenNames.{duplicate_name_or}
pub use Rattle.cdl_parse.specs.code.VariablePositions.{at_position}
pub use Rattle.cdl_parse.specs.declared.{declaration.PartialVariable.PartialVariable, declared_values.Declared.Declared, parse_error.ParseError.ParseError, records.RecordNeeds.RecordNeeds, variables.Variable.Variable}
pub use Rattle.cdl_statements.proofs.DimensionSteps.{first_goes, on, said_on, second_goes, shaped_on, third_goes}
pub use Rattle.cdl_statements.proofs.Dues.{only_completes}
pub use Rattle.cdl_statements.proofs.Listing.{value_first}
pub use Rattle.cdl_statements.specs.Lexemes.{Lexeme, is_mark, is_mark_kind, is_word_kind, lexeme}
pub use Rattle.cdl_statements.specs.Shapes.{Close, Dimension, End, Statement, Value, first_bad}
pub use Rattle.cdl_statements.specs.Pieces.{section_of, step, first_role, role_in}
unfoldable pub use Rattle.cdl_statements.specs.Shapes.{shape}
pub use Rattle.cdl_statements.specs.code.Contents.{Declaration, attribute_said, dimension_said, mark_said, other_said, variable_said, with_name}
unfoldable pub use Rattle.cdl_statements.specs.code.Contents.{declaration_said, dimensions_said, statement_said, value_of, values}
unfoldable pub use Rattle.cdl_statements.specs.Pieces.{pieces_after}
pub use Rattle.cdl_statements.specs.code.Cutters.{first_line, first_piece, is_done, next_token, offset_of, other_pieces, text_of, tokens_left, version_of}
unfoldable pub use Rattle.cdl_statements.specs.code.Cutters.{after, pieces_left, words}
pub use Rattle.cdl_statements.specs.code.DueTokens.{opens_section_after, is_value_of, is_whole, next_if}
unfoldable pub use Rattle.cdl_statements.specs.code.DueTokens.{completes, next}
pub use Rattle.cdl_statements.specs.code.Views.{lexeme_of}
pub use Rattle.cdl_statements.specs.declared.{cutter.Cutter.Cutter, due.Due.Due, fault.CdlKind.CdlKind, section.Section.Section}
pub use Rattle.cdl_statements.specs.declared.due.Due.TheVariants.{AfterVariable, AttributeName, DimensionName, Equals, Separator, VariableName}
pub use Rattle.cdl_statements.specs.declared.fault.CdlKind.TheVariants.{BadName, DuplicateName, Syntax, UnknownVariable}
pub use Rattle.cdl_statements.specs.declared.section.Section.TheVariants.{Closed, Dimensions, Ended, Globals, Unopened, Values, Variables}
unfoldable pub use Rattle.cdl_tokens.specs.Escapes.{word_value}
pub use Rattle.cdl_tokens.specs.Numerals.{Parts, number, signed}
pub use Rattle.cdl_tokens.specs.declared.token.Token.{Token}
pub use Rattle.cdl_values.specs.code.Answers.{ContinuesRead, FailsRead, Leaves}
pub use Rattle.cdl_values.specs.code.Listed.{AllList, AreShaped, Lists, unlisted_drafts}
pub use Rattle.cdl_values.specs.code.Meant.{AllSuit, Means, Suits, begins_brace, listed_bytes, name_first, names_of, with_listed}
pub use Rattle.cdl_values.specs.code.NameIndices.{IsIndex, is_new, position_of, var_names}
pub use Rattle.cdl_values.specs.declared.{data.Target.Target, read_error.ReadError.ReadError}
pub use Rattle.cdl_values.specs.declared.read_error.ReadError.TheVariants.{Fault, OutOfMemory}
unfoldable pub use Rattle.nc_base.specs.Fill.{fill_value}
pub use Rattle.nc_base.specs.Headers.{AreDimids, IsSound, IsSoundVar}
pub use Rattle.nc_base.specs.Sizes.{array_limit, is_record_var, slab_count, slab_limit, slab_size}
pub use Rattle.nc_types.specs.Names.{is_name}
pub use Rattle.nc_base.specs.Numbers.{bytes_of_number}
pub use Rattle.nc_base.specs.code.OwedValues.{whole_array, whole_arrays}
pub use Rattle.nc_base.specs.declared.{header.Att.Att, header.Dim.Dim, header.Header.Header, header.NumRecs.TheVariants.Known, header.Var.Var}
pub use Rattle.nc_types.specs.declared.{nc_type.NcType.NcType, version.Version.Version}
pub use Rattle.std.proofs.lemmas.Bool.{false≢true, le-leb}
pub use Rattle.std.proofs.lemmas.List.{length-map, set-get_or}
pub use Rattle.std.proofs.lemmas.List.Elements.{All-cons, All-head, All-nil, All-tail}
pub use Rattle.std.specs.List.{concat, flat_map, list_all, position, position_from}
pub use Rattle.std.specs.Str.{bytes_eq}
pub use Rattle.std.specs.Vec.Iter.{into_iter_items}
pub use Rattle.nc_base.proofs.SoundLaws.{some_count, some_product, some_size}
pub use Rattle.cdl_values.proofs.NamePositions.{any_is}
pub use Rattle.cdl_values.proofs.AllowedNames.{stopped, not_allowed}
pub use Rattle.nc_base.proofs.FilePlaces.{length-numbers}
pub use Rattle.std.specs.Prelude.{⊤}
pub use Rattle.cdl_statements.proofs.ListedValues.{AreFit, piece_fit}
