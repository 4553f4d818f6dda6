-- A declaration, token by token.
use Rattle.cdl_parse.proofs.Prelude.{◌≡◌, ℕ, Bool, true, false, List, [], ◌∷◌, ◌++◌, drop, refl, sym, ap, ◌∙◌, Result, Ok, IfOk, ◌&&◌, ◌||◌, not, if◌then◌else◌, arith, rules, false≢true, is_name, Dim, NcType, Version, Declaration, declaration_said, with_name, completes, is_whole, next, word_value, Lexeme, is_mark, is_mark_kind, Due, AfterVariable, VariableName, BadName, Draft, add_dimid, add_var, ok_or, in_turn, type_of, unless, ContinuesRead, FailsRead, Leaves, ReadError, added, continued, declared, is_open_after, next_dimid, read_on, with_begun, ReadsDimension, is_variable_name, with_new_draft, duplicate_name_or, PartialVariable, ◌>>=◌, ⊤}
use Rattle.cdl_statements.specs.code.DueTokens.{is_name as is_name_token}
use Rattle.cdl_statements.proofs.Declarations.{name_kind}
use Rattle.cdl_parse.proofs.AttributeReads.{fails_then}
use Rattle.cdl_parse.proofs.TakenNames.{named}
use Rattle.cdl_parse.proofs.StatementWords.{goes_past}

-- ---- one token on

said_name : (parens : Bool) (l : Lexeme) (ls : List Lexeme) → is_mark_kind l.kind ≡ false → declaration_said parens (l ∷ ls) ≡ with_name parens (word_value l.bytes) (declaration_said parens ls)
unfolding declaration_said
said_name parens l ls off = rw (off) refl

said_mark : (parens : Bool) (l : Lexeme) (ls : List Lexeme) → is_mark_kind l.kind ≡ true → declaration_said parens (l ∷ ls) ≡ declaration_said (is_mark 0x28 l || parens && not (is_mark 0x29 l)) ls
unfolding declaration_said
said_mark parens l ls on = ap (λ b. if b then declaration_said (is_mark 0x28 l || parens && not (is_mark 0x29 l)) ls else with_name parens (word_value l.bytes) (declaration_said parens ls)) on

-- ---- a new variable

module _ (dims : List Dim) (ty : NcType) (drafts : List Draft) where
  variable_first : (name : List ℕ) (rest : Declaration) →
      in_turn (add_var dims ty) drafts (with_name false name rest).variables ≡ (unless (is_name name) BadName >>= (λ u. continued dims ty drafts name [] rest))
  unfolding add_var
  variable_first name rest = search (rules, named)

  pub begin_fails : (l : Lexeme) (ls : List Lexeme) (e : ReadError) → is_mark_kind l.kind ≡ false → FailsRead e (unless (is_name (word_value l.bytes)) BadName) → FailsRead e (added dims ty drafts (l ∷ ls))
  begin_fails l ls e off h = grind (arith, fails_then, said_name, variable_first)

  pub begins : (l : Lexeme) (ls : List Lexeme) (name ids : List ℕ) → is_mark_kind l.kind ≡ false → name ≡ word_value l.bytes → is_name (word_value l.bytes) ≡ true → ids ≡ [] →
      added dims ty drafts (l ∷ ls) ≡ continued dims ty drafts name ids (declaration_said false ls)
  begins l ls name ids off is allowed none = search (rules, named, said_name, variable_first)

  -- ---- a token after a variable's name

  pub after_mark : (name ids : List ℕ) (parens after : Bool) (l : Lexeme) (ls : List Lexeme) → is_mark_kind l.kind ≡ true → after ≡ is_open_after parens l →
      continued dims ty drafts name ids (declaration_said parens (l ∷ ls)) ≡ continued dims ty drafts name ids (declaration_said after ls)
  after_mark name ids parens after l ls on is = ap (continued dims ty drafts name ids) (said_mark parens l ls on ∙ ap (λ p. declaration_said p ls) (sym is))

  id_first : (ids name : List ℕ) → add_dimid dims ids name ≡ (next_dimid dims ids name >>= (λ k. Ok (ids ++ k ∷ [])))
  unfolding add_dimid
  id_first ids name = search (rules, named, ok_or)

  pub dimension_ok : (name ids more word : List ℕ) (k : ℕ) (rest : Declaration) → next_dimid dims ids word ≡ Ok k → more ≡ ids ++ k ∷ [] → continued dims ty drafts name ids (with_name true word rest) ≡ continued dims ty drafts name more rest
  dimension_ok name ids more word k rest is e = grind (arith, id_first)

  pub dimension_fails : (name ids word : List ℕ) (e : ReadError) (rest : Declaration) → FailsRead e (next_dimid dims ids word) → FailsRead (duplicate_name_or (is_variable_name name drafts) e) (continued dims ty drafts name ids (with_name true word rest))
  dimension_fails name ids word e rest h = grind (arith, id_first)

  -- the next variable, or no further one
  pub none_left : (name ids : List ℕ) (parens : Bool) → continued dims ty drafts name ids (declaration_said parens []) ≡ with_new_draft drafts name ids ty
  unfolding declaration_said
  none_left name ids parens = refl

  one_more : (name ids : List ℕ) (more : List Draft) (rest : Declaration) → rest.dimensions ≡ [] → with_new_draft drafts name ids ty ≡ Ok more → continued dims ty drafts name ids rest ≡ in_turn (add_var dims ty) more rest.variables
  one_more name ids more rest none h = search rules

-- ---- a variable that is begun

module _ (dims : List Dim) (drafts : List Draft) where
  pub dimension_on : (begun : PartialVariable) (l : Lexeme) (ls : List Lexeme) (r : Result PartialVariable ReadError) → is_mark_kind l.kind ≡ false → begun.is_open ≡ true → IfOk r (λ b. b.is_open ≡ true) →
      ReadsDimension dims drafts begun l.bytes r → ContinuesRead (λ (b : PartialVariable). read_on dims drafts b ls) r (read_on dims drafts begun (l ∷ ls))
  dimension_on begun l ls r off opened is reads = search (rules, read_on, said_name)

  pub next_variable : (begun : PartialVariable) (more : List Draft) (l : Lexeme) (ls : List Lexeme) → is_mark_kind l.kind ≡ false → begun.is_open ≡ false → with_begun drafts begun ≡ Ok more →
      read_on dims drafts begun (l ∷ ls) ≡ added dims begun.ty more (l ∷ ls)
  next_variable begun more l ls off closed is = search (rules, one_more, said_name)

  pub next_fails : (begun : PartialVariable) (l : Lexeme) (ls : List Lexeme) (e : ReadError) → is_mark_kind l.kind ≡ false → begun.is_open ≡ false → FailsRead e (with_begun drafts begun) → FailsRead e (read_on dims drafts begun (l ∷ ls))
  next_fails begun l ls e off closed h = grind arith

  pub all_read : (ws : List Lexeme) (start after : List Draft) (l : Lexeme) (before begun : PartialVariable) (ends : Bool) (rest : List Lexeme) → ws ≡ l ∷ (if ends then [] else rest) → ends ≡ true →
      read_on dims start before (l ∷ []) ≡ read_on dims drafts begun [] → (r : Result ⊤ ReadError) → Leaves after r (with_begun drafts begun) → Leaves after r (read_on dims start before ws)
  all_read ws start after l before begun ends rest first on reads r put = search (rules, read_on, none_left)

-- ---- the shape

-- with what is due a statement isn't whole, so that it goes on after its first token
pub goes_on : (due : Due) (l : Lexeme) (ends : Bool) (ws all : List Lexeme) → is_whole due ≡ false → all ≡ l ∷ (if ends then [] else ws) → completes due (drop 1 all) ≡ true → (ends ≡ false) × (drop 1 all ≡ ws)
unfolding completes
goes_on due l ends ws all h h2 h3 = grind (arith, false≢true)

pub goes_name : (l : Lexeme) (ends : Bool) (ws all : List Lexeme) → all ≡ l ∷ (if ends then [] else ws) → completes VariableName all ≡ true → (ends ≡ false) × (is_name_token l ≡ true) × (completes AfterVariable ws ≡ true)
unfolding next
goes_name l ends ws all first on = goes_past VariableName AfterVariable l (is_name_token l) ends ws all refl refl first on

pub begins_name : (l : Lexeme) (ws all : List Lexeme) → all ≡ l ∷ ws → completes VariableName all ≡ true → is_mark_kind l.kind ≡ false
begins_name l ws all first on = name_kind l (goes_name l false ws all first on).1

pub typed : (v : Version) (dims : List Dim) (drafts : List Draft) (l : Lexeme) (ty : NcType) (names all : List Lexeme) → all ≡ l ∷ drop 1 all → drop 1 all ≡ names → type_of v l ≡ Ok ty → declared v dims drafts all ≡ added dims ty drafts names
typed v dims drafts l ty names all first others is = grind (arith, added dims, added dims ty drafts)
