-- For contracts. What options ask for.
use Rattle.std.specs.Borrow.{Bor}
use Rattle.std.specs.Prelude.{ℕ, List, Option, option_map}
use Rattle.cli_base.specs.Arguments.{texts_of}
use Rattle.check_options.specs.CommandLine.{Asked}
use Rattle.check_options.specs.declared.options.CheckOptions.{CheckOptions}

-- what the options ask for
abbrev pub asked_for : CheckOptions → Asked
asked_for o = record {
  files = texts_of o.files;
  reads_paths_from_input = o.reads_paths_from_input;
  tells_formats = o.tells_formats;
  filter = o.filter;
  form = o.form;
  is_quiet = o.is_quiet;
  has_summary = o.has_summary;
}

-- the texts of a list that is borrowed
abbrev pub lent_texts : Bor (List (Bor (List ℕ))) → List (List ℕ)
lent_texts texts = texts_of texts.now

-- and if there is one
abbrev pub texts_in : Option (Bor (List (Bor (List ℕ)))) → Option (List (List ℕ))
texts_in texts = option_map lent_texts texts
