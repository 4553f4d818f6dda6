use Rattle.cdl_parse.proofs.Prelude.{◌≡◌, ℕ, List, false, sym, ap, ◌∙◌, subst, version_of, words, AllSuit, begins_brace, names_of, Target, IsInDataSection, given_at}
use Rattle.cdl_parse.proofs.DataStatements.{closed, takes}
use Rattle.cdl_parse.proofs.data_section.read_next_statement.Goals as goal

pub returns-then-is_mark-clause-reads : goal.returns-then-is_mark-clause-reads
returns-then-is_mark-clause-reads c = λ vars s stands short.
    closed vars c.args.start s c.args.listings.now.targets.items c.args.listings.now.arrays.items c.args.names.now c.pass_closing_brace.result stands (c.pass_closing_brace.ensures.reads s stands.section)

pub returns-clause-reads : goal.returns-clause-reads
returns-clause-reads c = λ vars s stands short.
    let targets = c.args.listings.now.targets.items in
    let arrays = c.args.listings.now.arrays.items in
    let given = c.in_ok-given.given in
    let off : begins_brace (words c.args.start) ≡ false = ap begins_brace (c.lexeme.ensures.first c.requires) ∙ sym c.is_mark.ensures ∙ c.if-is_mark.false in
    let suit = subst (λ (ts : List Target). AllSuit s.dims ts s.drafts) (sym c.deref.ensures.value) stands.suit in
    let means = c.in_ok-given.ensures.means s (record { section = stands.section; named = stands.named; suit = suit; lists = off; short = short }) in
    let after = takes vars (version_of c.args.start) s (words c.args.start) targets arrays given.array given.position c.args.names.now stands means c.in_ok-given.ensures.position in
    let others = subst (λ (arrays : List (List ℕ)). IsInDataSection vars (names_of s.drafts) (given_at given.position targets) arrays (record s { drafts = after.0 })) (sym c.replace_array.ensures) after.2 in
    (after.0, after.1, subst (λ (ts : List Target). IsInDataSection vars (names_of s.drafts) ts c.replace_array.new.arrays.items (record s { drafts = after.0 })) (sym c.mark_given.ensures) others)
