-- For contracts. The fixed words of a head.
use Rattle.std.specs.Prelude.{ℕ, List}
use Rattle.nc_base.specs.HeadText.{dimensions_word, unlimited_word, currently_word, variables_word, global_word}
use Rattle.cdl_print.specs.declared.fixed_text.FixedText.{FixedText}
use Rattle.cdl_print.specs.declared.fixed_text.FixedText.TheVariants.{Dimensions, Unlimited, Currently, Variables, GlobalAttributes}

abbrev pub word_text : FixedText → List ℕ
word_text Dimensions = dimensions_word
word_text Unlimited = unlimited_word
word_text Currently = currently_word
word_text Variables = variables_word
word_text GlobalAttributes = global_word
