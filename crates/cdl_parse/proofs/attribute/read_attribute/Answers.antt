use Rattle.cdl_parse.proofs.Prelude.{rules, ◌≡◌, ◌∷◌, ◌++◌, [], List, ℕ, ap, sym, subst, ◌∙◌, Ok, Result, values, version_of, words, lexeme_of, CdlKind, DuplicateName, add_constant, in_turn, when, Leaves, has_attribute, duplicate_name_or, ◌>>=◌}
use Rattle.cdl_parse.proofs.AttributeReads.{fails_then, goes_equals, goes_name, name_fails, read_as, refused, with_values}
use Rattle.cdl_parse.proofs.StatementWords.{begins}
use Rattle.cdl_parse.proofs.TakenNames.{fails_after}
use Rattle.cdl_parse.proofs.attribute.read_attribute.Goals as goal

pub returns-in_err-name-clause-reads : goal.returns-in_err-name-clause-reads
returns-in_err-name-clause-reads c =
    let begun = begins c.args.start c.requires.more in
    refused c.args.attributes.now c.from_residual.result c.in_err-name.field-0.0 _ (search rules)
    (name_fails c.in_err-name.field-0.0 (lexeme_of c.lexeme.result) begun.0 (words c.args.start) (version_of c.args.start) c.args.attributes.now
    (begun.1 ∙ ap (λ l. l ∷ begun.0) (sym c.lexeme.ensures.lexeme)) c.in_err-name.ensures.fault)

pub advanced-requires-2 : goal.advanced-requires-2
advanced-requires-2 c = c.advanced.ensures.goes (goes_name _ _ _ _ c.advanced.ensures.words c.requires.shaped).0

pub read_constants-requires : goal.read_constants-requires
read_constants-requires c = c.advanced-2.ensures.goes (goes_equals _ _ _ _ c.advanced-2.ensures.words (goes_name _ _ _ _ c.advanced.ensures.words c.requires.shaped).2).0

pub returns-in-Ok-clause-reads : goal.returns-in-Ok-clause-reads
returns-in-Ok-clause-reads c =
    let atts = c.args.attributes.now in
    let ty = c.type_said-ty.result in
    let name = c.in_ok-name.name.items in
    let read =
    read_as c.args.start c.advanced.result.0 c.advanced-2.result.0 c.advanced.result.1 c.advanced-2.result.1 (lexeme_of c.lexeme.result) (lexeme_of c.lexeme-2.result) ty c.version.result atts name
    c.advanced.ensures.words c.advanced-2.ensures.words c.advanced-2.ensures.goes c.requires.shaped c.lexeme.ensures.lexeme c.lexeme-2.ensures.lexeme c.version.ensures
    (c.advanced-2.ensures.same.version ∙ c.advanced.ensures.same.version) c.type_said-ty.ensures c.in_ok-name.ensures.name c.in_ok-name.ensures.allowed in
    let given = read ∙ ap (λ (r : Result (List ℕ) CdlKind). when (has_attribute name atts) DuplicateName >>= (λ w. with_values atts name ty r)) c.in-Ok.ensures in
    subst (Leaves c.add_attribute.new.attributes c.add_attribute.result) (sym given) c.add_attribute.ensures.adds

pub returns-in-Err-clause-reads : goal.returns-in-Err-clause-reads
returns-in-Err-clause-reads c =
    let first = c.advanced-2.result.0 in
    let atts = c.args.attributes.now in
    let ty = c.type_said-ty.result in
    let name = c.in_ok-name.name.items in
    let read =
    read_as c.args.start c.advanced.result.0 first c.advanced.result.1 c.advanced-2.result.1 (lexeme_of c.lexeme.result) (lexeme_of c.lexeme-2.result) ty c.version.result atts name
    c.advanced.ensures.words c.advanced-2.ensures.words c.advanced-2.ensures.goes c.requires.shaped c.lexeme.ensures.lexeme c.lexeme-2.ensures.lexeme c.version.ensures
    (c.advanced-2.ensures.same.version ∙ c.advanced.ensures.same.version) c.type_said-ty.ensures c.in_ok-name.ensures.name c.in_ok-name.ensures.allowed in
    let e = c.in-Err.e in
    let constants = in_turn (add_constant ty) [] (values (version_of first) (words first)) in
    let error : c.duplicate_name_or.result ≡ duplicate_name_or (has_attribute name atts) e = c.duplicate_name_or.ensures ∙ ap (λ b. duplicate_name_or b e) (c.has_name.ensures ∙ ap (λ n. has_attribute n atts) c.as_slice.ensures.value) in
    rw (error, read) (fails_after (has_attribute name atts) e (with_values atts name ty constants) (fails_then e constants (λ vals. Ok (atts ++ record { name = name; ty = ty; vals = vals } ∷ [])) c.in-Err.ensures))
