use Rattle.cdl_values.proofs.Prelude.{word_value, Lexeme, lexeme, completes, DataName, next_token, text_of, version_of, words, lexeme_of, values, first_bad, going, target_of, packed, rules, ◌≡◌, sym, ap, ◌∙◌, true}
use Rattle.cdl_statements.specs.declared.due.Due.TheVariants as dues
use Rattle.cdl_values.proofs.DataReads.{read_on, filled_ok, quick_good}
use Rattle.cdl_values.proofs.data.read_quickly.Goals as goal

pub returns-clause-read : goal.returns-clause-read
unfolding completes
returns-clause-read c =
    let names = c.args.names.now in
    let version = (version_of c.args.start) in
    let start = c.args.start in
    let equals = c.advanced-name_ends.result.0 in
    let value = c.advanced-sign_ends.result.0 in
    let n = lexeme (text_of start) (next_token start) in
    let e = lexeme (text_of equals) (next_token equals) in
    let n-is = going (words start) (words equals) n (lexeme_of c.lexeme-name.result) c.advanced-name_ends.result.1 c.advanced-name_ends.ensures.words (sym c.lexeme-name.ensures.lexeme) c.if-name_ends.false in
    let e-is = going (words equals) (words value) e (lexeme_of c.lexeme-sign.result) c.advanced-sign_ends.result.1 c.advanced-sign_ends.ensures.words (sym c.lexeme-sign.ensures.lexeme) c.if-sign_ends.false in
    let on : completes DataName (words start) ≡ true =
    ap (completes DataName) n-is ∙ ap (λ d. completes d (words equals)) (sym c.after-equals_due.ensures) ∙ ap (completes c.after-equals_due.result) e-is ∙ ap (λ d. completes d (words value)) (sym c.after-value_due.ensures) ∙
    ap (λ due. completes due (words value)) (c.in-Value-true.is ∙ ap dues.Value (let b : c.in-Value-true.takes_fill ≡ true = search rules in b)) ∙ c.in_ok-packed.ensures.shaped in
    let good = quick_good version (words start) (words equals) (words value) n e c.advanced-name_ends.result.1 c.advanced-sign_ends.result.1 c.advanced-name_ends.ensures.words c.advanced-sign_ends.ensures.words
    c.if-name_ends.false c.if-sign_ends.false on (ap (λ v. first_bad v (words value)) (sym (c.advanced-sign_ends.ensures.same.version ∙ c.advanced-name_ends.ensures.same.version)) ∙ c.in_ok-packed.ensures.bad) in
    read_on version names c.args.targets.now (words start) (words equals) (words value) n e c.advanced-name_ends.result.1 c.advanced-sign_ends.result.1 c.advanced-name_ends.ensures.words c.advanced-sign_ends.ensures.words good on ∙
    filled_ok version (words value) (target_of names c.args.targets.now (word_value n.bytes)) c.in_ok-position.field-0.target (ap (λ (l : Lexeme). target_of names c.args.targets.now (word_value l.bytes)) (sym c.lexeme-name.ensures.lexeme) ∙ c.in_ok-position.ensures.target) ∙
    ap (λ v. packed c.in_ok-position.field-0.target.form c.in_ok-position.field-0.target.capacity (values v (words value))) (sym (c.advanced-sign_ends.ensures.same.version ∙ c.advanced-name_ends.ensures.same.version)) ∙ c.in_ok-packed.ensures.packs
