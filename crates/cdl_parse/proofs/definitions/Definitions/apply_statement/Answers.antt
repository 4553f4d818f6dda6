use Rattle.cdl_parse.proofs.Prelude.{ap, ◌∙◌, statement_said, next_token, text_of, version_of, words, lexeme, act, state_of}
use Rattle.cdl_parse.proofs.Defining.{opens}
use Rattle.cdl_parse.proofs.StatementWords.{begins}
use Rattle.cdl_parse.proofs.definitions.Definitions.apply_statement.Goals as goal

pub returns-in-Unopened : goal.returns-in-Unopened
returns-in-Unopened c =
    let start = c.args.start in
    let begun = begins start c.requires.more in
    ap (λ section. act (version_of start) (state_of c.args.self.now) (statement_said (version_of start) section (words start))) c.in-Unopened.is ∙
    opens (version_of start) (state_of c.args.self.now) (lexeme (text_of start) (next_token start)) begun.0 (words start) begun.1
