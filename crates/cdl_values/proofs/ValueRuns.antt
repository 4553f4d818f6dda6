-- A run of values, one value on.
use Rattle.cdl_values.proofs.Prelude.{Version, value_of, values, is_done, version_of, words, completes, is_value_of, next, Lexeme, IsAtComma, Passes, PassesNumber, PassesString, PassesUnderscore, Characters, token_fault, lexeme_with, Cutter, Due, Separator, at_same_comma, same_after, same_words, good_on, Capacity, bytes_of, bytes_of_number, held_bytes, is_full, joined, capacity_minus, packed, row_bytes, GoesOn, Place, TakesValues, Fill, ValueForm, Numbers, Rows, past_mark, ◌≡◌, ℕ, true, false, List, [], ◌∷◌, ◌++◌, sym, ap, refl, subst, None, Ok, rules}
use Rattle.cdl_tokens.specs.declared.numeral.Numeral.{Numeral}
use Rattle.cdl_tokens.specs.declared.token.TokenKind.TheVariants as kinds
use Rattle.cdl_statements.specs.code.ValueLists as lists
use Rattle.cdl_values.proofs.PackedTokens.{token_packed}
use Rattle.cdl_statements.proofs.PassedValues.{good_number}
use Rattle.cdl_values.proofs.Ranges.{number_added}

-- the place where a cutter has come to
abbrev pub reached : Cutter → List ℕ → Capacity → Place
reached cutter bytes left = record { cutter = cutter; bytes = bytes; left = left }

-- nothing is passed
pub unmoved : (due : Due) (form : ValueForm) (start : Place) → is_done start.cutter ≡ false → GoesOn due form start start
unmoved due form start goes = search rules

pub stays : (form : ValueForm) (start : Place) → IsAtComma start.cutter → TakesValues form start start
stays form start at = record { at = at; on = unmoved (Separator true) form start at.goes }

-- one run after the other
further : (due : Due) (form : ValueForm) (start between rest : Place) → GoesOn due form start between → GoesOn due form between rest → GoesOn due form start rest
further due form start between rest so next = search (rules, words, joined, values)

pub takes_further : (form : ValueForm) (start between rest : Place) → TakesValues form start between → TakesValues form between rest → TakesValues form start rest
takes_further form start between rest so next = record { at = next.at; on = further (Separator true) form start between rest so.on next.on }

-- a comma and a good value more, whose bytes are added
pub value_on : (form : ValueForm) (start rest : Place) (l : Lexeme) → IsAtComma start.cutter → Passes start.cutter rest.cutter l →
    token_fault (version_of start.cutter) l.kind l.bytes ≡ None → is_value_of true l l.kind ≡ true →
    ((ls : List Lexeme) → joined (Ok start.bytes) (packed form start.left (values (version_of start.cutter) (l ∷ ls))) ≡ joined (Ok rest.bytes) (packed form rest.left (values (version_of start.cutter) ls))) →
    TakesValues form start rest
unfolding completes next
value_on form start rest l at passes good value packs = search (rules, words, good_on, next, joined, values, past_mark)

-- the same where the version is known by another name
pub token_on : (form : ValueForm) (v : Version) (start rest : Place) (l : Lexeme) → v ≡ version_of start.cutter → IsAtComma start.cutter → Passes start.cutter rest.cutter l →
    token_fault v l.kind l.bytes ≡ None → is_value_of true l l.kind ≡ true →
    ((ls : List Lexeme) → joined (Ok start.bytes) (packed form start.left (values v (l ∷ ls))) ≡ joined (Ok rest.bytes) (packed form rest.left (values v ls))) →
    TakesValues form start rest
token_on form v start rest l version at passes good value packs =
    let good_there = subst (λ (v : Version). token_fault v l.kind l.bytes ≡ None) version good in
    let packs_there = subst (λ (v : Version). (ls : List Lexeme) → joined (Ok start.bytes) (packed form start.left (values v (l ∷ ls))) ≡ joined (Ok rest.bytes) (packed form rest.left (values v ls))) version packs in
    value_on form start rest l at passes good_there value packs_there

-- a number more
pub number_on : (fill : Fill) (start rest : Place) (n : Numeral) → IsAtComma start.cutter → PassesNumber start.cutter rest.cutter n → is_full start.left ≡ false →
    joined (Ok start.bytes) (held_bytes fill.ty n.minus n.magnitude) ≡ Ok rest.bytes → rest.left ≡ capacity_minus 1 start.left → TakesValues (Numbers fill) start rest
unfolding value_of
number_on fill start rest n at passes full adds left =
    let v = version_of start.cutter in
    let l = lexeme_with kinds.Number passes.bytes in
    let sum : joined (Ok start.bytes) (bytes_of (Numbers fill) start.left (value_of v l kinds.Number)) ≡ Ok rest.bytes = rw (full) (number_added start.bytes rest.bytes fill.ty fill.value _ n (passes.says v) adds) in
    value_on (Numbers fill) start rest l at passes.passes (good_number v passes.bytes n (passes.says v)) refl (λ ls. token_packed v (Numbers fill) start.left rest.left l ls start.bytes rest.bytes refl sum left)

-- a `_` more
pub fill_on : (fill : Fill) (start rest : Place) → IsAtComma start.cutter → PassesUnderscore start.cutter rest.cutter → is_full start.left ≡ false →
    rest.bytes ≡ start.bytes ++ bytes_of_number fill.ty fill.value → rest.left ≡ capacity_minus 1 start.left → TakesValues (Numbers fill) start rest
unfolding value_of
fill_on fill start rest at passes full adds left =
    let v = version_of start.cutter in
    let l = lexeme_with kinds.Word (0x5f ∷ []) in
    let sum : joined (Ok start.bytes) (bytes_of (Numbers fill) start.left (value_of v l kinds.Word)) ≡ Ok rest.bytes = rw (full) (ap Ok (sym adds)) in
    value_on (Numbers fill) start rest l at passes refl refl (λ ls. token_packed v (Numbers fill) start.left rest.left l ls start.bytes rest.bytes refl sum left)

-- a row more
pub row_on : (len fill : ℕ) (start rest : Place) (characters : List ℕ) → IsAtComma start.cutter → PassesString start.cutter rest.cutter characters → is_full start.left ≡ false →
    joined (Ok start.bytes) (row_bytes len fill false (Characters characters)) ≡ Ok rest.bytes → rest.left ≡ capacity_minus 1 start.left → TakesValues (Rows len fill) start rest
unfolding value_of
row_on len fill start rest characters at passes full adds left =
    let v = version_of start.cutter in
    let l = lexeme_with kinds.Text passes.bytes in
    let sum : joined (Ok start.bytes) (bytes_of (Rows len fill) start.left (value_of v l kinds.Text)) ≡ Ok rest.bytes =
    rw (full, passes.plain) adds in
    value_on (Rows len fill) start rest l at passes.passes refl refl (λ ls. token_packed v (Rows len fill) start.left rest.left l ls start.bytes rest.bytes refl sum left)

-- the same place
pub ended : (form : ValueForm) (start there : Place) (cutter : Cutter) (left : Capacity) → cutter ≡ there.cutter → left ≡ there.left → TakesValues form start there →
    TakesValues form start (reached cutter there.bytes left)
ended form start there cutter left same_place same_left so = search (rules, reached)

-- a cutter at the same place
pub ended_at : (form : ValueForm) (start there : Place) (cutter : Cutter) (left : Capacity) → lists.SamePlace cutter there.cutter → left ≡ there.left → TakesValues form start there →
    TakesValues form start (reached cutter there.bytes left)
ended_at form start there cutter left same same_left so = search (rules, same_words, at_same_comma, joined, values, words, same_after)
