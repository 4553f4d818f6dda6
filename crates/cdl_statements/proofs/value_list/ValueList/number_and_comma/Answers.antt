use Rattle.cdl_statements.proofs.Prelude.{refl, sym, ap, subst, raw, TokenKind, Passes, reached, role_of, lexeme_with}
use Rattle.cdl_tokens.specs.code.Scanners as scanners
use Rattle.cdl_statements.proofs.ListedTokens.{passes}
use Rattle.cdl_statements.proofs.value_list.ValueList.number_and_comma.Goals as goal

pub returns-clause-passes : goal.returns-clause-passes
returns-clause-passes c =
    let old = c.args.self.now in
    let s = reached old in
    let rest = reached (record { start = old.start; scanner = c.number_and_comma.new.self }) in
    let l = c.in_ok-listed.listed in
    let e = c.in_ok-listed.ensures in
    let text = scanners.text_of old.scanner in
    record {
      bytes = raw text l.number;
      says = e.listed.says;
      passes = subst (λ (k : TokenKind). Passes s rest (lexeme_with k (raw text l.number))) e.listed.number
          (passes s rest l.number l.comma c.requires e.tokens e.text refl (sym e.before) refl refl (ap (λ k. role_of k (raw text l.number)) e.listed.number) e.listed.comma e.moves);
    }
