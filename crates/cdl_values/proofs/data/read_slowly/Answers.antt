use Rattle.cdl_values.proofs.Prelude.{values, word_value, Lexeme, lexeme, next_token, text_of, version_of, words, CdlKind, FailsRead, Fault, packed, data_read, packed_for, target_of, StatementValues, rules, sym, ap, ◌∙◌, subst, Result, List, ℕ}
use Rattle.cdl_values.proofs.AllowedNames.{refused}
use Rattle.cdl_values.proofs.DataReads.{fault_read, read_on, name_goes, name_on, equals_goes, filled_ok, filled_err}
use Rattle.cdl_values.proofs.data.read_slowly.Goals as goal

pub returns-in_err-rest-clause-read : goal.returns-in_err-rest-clause-read
returns-in_err-rest-clause-read c =
    let k = c.in_err-rest.field-0.0 in
    refused (λ (g : StatementValues). g.array) c.from_residual.result (Fault k) _ (search rules) (fault_read (version_of c.args.start) c.args.names.now c.args.targets.now (words c.args.start) k c.in_err-rest.ensures.fault)

pub advanced-requires-2 : goal.advanced-requires-2
advanced-requires-2 c = search (rules, name_goes)

pub pack-requires : goal.pack-requires
pack-requires c =
    let on = c.in_ok-rest.ensures.shaped in
    let equals = c.advanced.result.0 in
    let next = name_on (lexeme (text_of c.args.start) (next_token c.args.start)) (words equals) (words c.args.start) c.advanced.result.1 c.advanced.ensures.words on in
    c.advanced-2.ensures.goes (equals_goes (lexeme (text_of equals) (next_token equals)) (words c.advanced-2.result.0) (words equals) c.advanced-2.result.1 c.advanced-2.ensures.words next)

pub returns-clause-read : goal.returns-clause-read
returns-clause-read c =
    let names = c.args.names.now in
    let on = c.in_ok-rest.ensures.shaped in
    let equals = c.advanced.result.0 in
    let version = (version_of c.args.start) in
    let n = lexeme (text_of c.args.start) (next_token c.args.start) in
    let target = c.in_ok-position.field-0.target in
    read_on version names c.args.targets.now (words c.args.start) (words equals) (words c.advanced-2.result.0) n (lexeme (text_of equals) (next_token equals)) c.advanced.result.1 c.advanced-2.result.1
    c.advanced.ensures.words c.advanced-2.ensures.words c.in_ok-rest.ensures.good on ∙
    filled_ok version (words c.advanced-2.result.0) (target_of names c.args.targets.now (word_value n.bytes)) target (ap (λ (l : Lexeme). target_of names c.args.targets.now (word_value l.bytes)) (sym c.lexeme-name.ensures.lexeme) ∙ c.in_ok-position.ensures.target) ∙
    ap (λ v. packed target.form target.capacity (values v (words c.advanced-2.result.0))) (sym (c.advanced-2.ensures.same.version ∙ c.advanced.ensures.same.version)) ∙ c.in_ok-array.ensures

pub returns-in_err-array-clause-read : goal.returns-in_err-array-clause-read
returns-in_err-array-clause-read c =
    let names = c.args.names.now in
    let on = c.in_ok-rest.ensures.shaped in
    let equals = c.advanced.result.0 in
    let version = (version_of c.args.start) in
    let n = lexeme (text_of c.args.start) (next_token c.args.start) in
    let target = c.in_ok-position.field-0.target in
    let e = c.in_err-array.field-0.0 in
    let read = read_on version names c.args.targets.now (words c.args.start) (words equals) (words c.advanced-2.result.0) n (lexeme (text_of equals) (next_token equals)) c.advanced.result.1 c.advanced-2.result.1
    c.advanced.ensures.words c.advanced-2.ensures.words c.in_ok-rest.ensures.good on ∙
    filled_ok version (words c.advanced-2.result.0) (target_of names c.args.targets.now (word_value n.bytes)) target (ap (λ (l : Lexeme). target_of names c.args.targets.now (word_value l.bytes)) (sym c.lexeme-name.ensures.lexeme) ∙ c.in_ok-position.ensures.target) ∙
    ap (λ v. packed target.form target.capacity (values v (words c.advanced-2.result.0))) (sym (c.advanced-2.ensures.same.version ∙ c.advanced.ensures.same.version)) in
    refused (λ (g : StatementValues). g.array) c.from_residual-in_err-array.result e (data_read version names c.args.targets.now (words c.args.start)) (search rules)
    (subst (λ (r : Result (List ℕ) CdlKind). FailsRead e r) (sym read) c.in_err-array.ensures)

pub returns-in_err-position-clause-read : goal.returns-in_err-position-clause-read
returns-in_err-position-clause-read c =
    let names = c.args.names.now in
    let on = c.in_ok-rest.ensures.shaped in
    let equals = c.advanced.result.0 in
    let version = (version_of c.args.start) in
    let n = lexeme (text_of c.args.start) (next_token c.args.start) in
    let e = c.in_err-position.field-0.0 in
    let read = read_on version names c.args.targets.now (words c.args.start) (words equals) (words c.advanced-2.result.0) n (lexeme (text_of equals) (next_token equals)) c.advanced.result.1 c.advanced-2.result.1
    c.advanced.ensures.words c.advanced-2.ensures.words c.in_ok-rest.ensures.good on ∙
    ap (λ (l : Lexeme). packed_for version (words c.advanced-2.result.0) (target_of names c.args.targets.now (word_value l.bytes))) (sym c.lexeme-name.ensures.lexeme) in
    refused (λ (g : StatementValues). g.array) c.from_residual-in_err-position.result e (data_read version names c.args.targets.now (words c.args.start)) (search rules)
    (subst (λ (r : Result (List ℕ) CdlKind). FailsRead e r) (sym read) (filled_err version (words c.advanced-2.result.0) (target_of names c.args.targets.now (word_value c.lexeme-name.result.bytes.now)) e (c.in_err-position.ensures.target)))
