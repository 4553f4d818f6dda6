use Rattle.cdl_statements.proofs.Prelude.{◌≡◌, ℕ, List, [], ◌∷◌, refl, sym, ap, ◌∙◌, subst₂, raw, TokenKind, Passes, reached, role_of, lexeme_with, Other, is_section}
use Rattle.cdl_tokens.specs.code.Scanners as scanners
use Rattle.cdl_tokens.specs.declared.token.TokenKind.TheVariants as kinds
use Rattle.cdl_statements.proofs.ListedTokens.{passes}
use Rattle.cdl_statements.proofs.value_list.ValueList.underscore_and_comma.Goals as goal

-- no word of a section
underscore_role : role_of kinds.Word (0x5f ∷ []) ≡ Other
unfolding is_section
underscore_role = refl

pub returns-in-Some-clause-passes : goal.returns-in-Some-clause-passes
returns-in-Some-clause-passes c = λ _.
    let old = c.args.self.now in
    let s = reached old in
    let rest = reached (record { start = old.start; scanner = c.underscore_and_comma.new.self }) in
    let l = c.in-Some.field-0 in
    let e = c.in-Some.ensures in
    let u = e.underscore in
    let text = scanners.text_of old.scanner in
    let role = ap (λ k. role_of k (raw text l.token)) u.word ∙ ap (role_of kinds.Word) u.bytes ∙ underscore_role in
    subst₂ (λ (k : TokenKind) (bytes : List ℕ). Passes s rest (lexeme_with k bytes)) u.word u.bytes (passes s rest l.token l.comma c.requires e.tokens e.text refl (sym e.before) refl refl role e.comma e.moves)
