-- What the laws cite of how the parts of a text are read, passed on from one place.
pub use Rattle.cdl_laws.proofs.Acts.{no_draft, AreDistinctDims, HaveNames, record_once, is_new_att, variable_is, numbers_added, chars_added}
pub use Rattle.cdl_laws.proofs.Characters.{flat, strings, table_closed, all_closed, IsCharacter, row_back, rows_listed, line_listed, back_whole, filled_whole, strings_said}
pub use Rattle.cdl_laws.proofs.Declarations.{Speaks, broken_read, numbers_said, suffixed, first, others, all_bytes, dim_says, global_says, owned_says}
pub use Rattle.cdl_laws.proofs.Heads.{numbers_say, strings_say, joined_reads, strings_fine, free_word}
pub use Rattle.cdl_laws.proofs.Lines.{pieces_are, run_is, lexemes_are}
pub use Rattle.cdl_laws.proofs.NameTexts.{rest_of, marked, bare, begins, name_len, name_value}
pub use Rattle.cdl_laws.proofs.Numerals.{numeral_again, number_is, on_suffix, value_again, value_is}
pub use Rattle.cdl_laws.proofs.Strings.{until_plain, string, unescape_all, between_quotes, string_token}
pub use Rattle.cdl_laws.proofs.Takes.{Takes, says_takes, takes_both, all_fine}
pub use Rattle.cdl_laws.proofs.Texts.{mark, word, prefix_again, some_name, marks_closed, Reads, number, number_reads, is_stop, stop_word, name_word}
pub use Rattle.cdl_laws.proofs.ValueTexts.{turn, AreSmall, value_said, numbers_listed, IsWithin, commas, constants_say}
pub use Rattle.cdl_laws.proofs.Wholes.{state, draft_of, IsFit, AreNewAtts, IsNewDim, atts_taken, all_taken, var_taken, declared}
