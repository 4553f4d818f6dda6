use Rattle.cdl_parse.proofs.Prelude.{refl, version_of, words}
use Rattle.cdl_parse.proofs.DataStatements.{closing}
use Rattle.cdl_parse.proofs.data_section.pass_closing_brace.Goals as goal

pub returns-clause-reads : goal.returns-clause-reads
returns-clause-reads c = λ s section. (refl, closing (version_of c.args.start) s (words c.args.start) section c.requires.brace (c.in_ok-rest.ensures.passes s section))
