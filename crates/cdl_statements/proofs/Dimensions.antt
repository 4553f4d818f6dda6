-- Lists of dimensions: the table of due tokens says whether one has its shape, and what it says stands in its tokens.
use Rattle.cdl_statements.proofs.Prelude.{◌≡◌, ℕ, Bool, false, List, [], ◌∷◌, refl, sym, ap, ◌∙◌, None, Some, if◌then◌else◌, ◌&&◌, is_none, arith, rules, Version, length_said, dimension_said, dimensions_said, next, completes, is_name, is_length, Lexeme, is_mark, parts, number, numeral, dimension, dimensions, after_member, length_of, token_fault, first_bad, TokenKind}
use Rattle.cdl_statements.specs.declared.due.Due.TheVariants as dues
use Rattle.cdl_statements.proofs.Dues.{fine, fine_on, never_completes, nothing_more, only_completes, name_is, due_for, both_due, member_due}

length_by : (v : Version) (bytes : List ℕ) (k : TokenKind) → token_fault v k bytes ≡ None →
    length_of v (record { kind = k; bytes = bytes }) k ≡ (if is_length (record { kind = k; bytes = bytes }) then Some (length_said v (record { kind = k; bytes = bytes })) else None)
unfolding numeral
length_by v bytes k h = grind (arith, parts v bytes, is_none, number)

length_is : (v : Version) (l : Lexeme) → token_fault v l.kind l.bytes ≡ None → length_of v l l.kind ≡ (if is_length l then Some (length_said v l) else None)
length_is v l h = length_by v l.bytes l.kind h

-- after the four tokens of a dimension
pub four : (n e l c : Lexeme) (ls : List Lexeme) → completes dues.DimensionName (n ∷ e ∷ l ∷ c ∷ ls) ≡ (is_name n && is_mark 0x3d e && is_length l && completes (next dues.LengthSeparator c) ls)
unfolding completes next
four n e l c ls = search (rules, never_completes)

pub separator_more : (c r : Lexeme) (rs : List Lexeme) → completes (next dues.LengthSeparator c) (r ∷ rs) ≡ (is_mark 0x2c c && completes dues.DimensionName (r ∷ rs))
unfolding completes next
separator_more c r rs = search (rules, nothing_more, never_completes)

pub completes_one : (n : Lexeme) → completes dues.DimensionName (n ∷ []) ≡ false
unfolding completes next
completes_one n = search rules

pub completes_two : (n e : Lexeme) → completes dues.DimensionName (n ∷ e ∷ []) ≡ false
unfolding completes next
completes_two n e = search (rules, next)

pub completes_three : (n e l : Lexeme) → completes dues.DimensionName (n ∷ e ∷ l ∷ []) ≡ false
unfolding completes next
completes_three n e l = search (rules, next)

abbrev is_dimension : Lexeme → Lexeme → Lexeme → Bool
is_dimension n e l = is_name n && is_mark 0x3d e && is_length l

dimension_is : (v : Version) (n e l : Lexeme) → token_fault v l.kind l.bytes ≡ None → dimension v n e l ≡ (if is_dimension n e l then Some (dimension_said v n l) else None)
dimension_is v n e l h = grind (arith, name_is, length_is)

pub dimensions_due : (v : Version) (ls : List Lexeme) → first_bad v ls ≡ None → dimensions v ls ≡ due_for dues.DimensionName ls (dimensions_said v ls)
unfolding completes next dimensions_said
dimensions_due v (n ∷ e ∷ l ∷ c ∷ ls) h =
    let after = fine_on v l (c ∷ ls) (fine_on v e (l ∷ c ∷ ls) (fine_on v n (e ∷ l ∷ c ∷ ls) h)) in
    let good = fine v l (c ∷ ls) (fine_on v e (l ∷ c ∷ ls) (fine_on v n (e ∷ l ∷ c ∷ ls) h)) in
    both_due (λ d ds. d ∷ ds) (is_dimension n e l) (dimension v n e l) (dimension_said v n l) dues.LengthSeparator (c ∷ ls) (after_member (dimensions v ls) c ls) (dimensions_said v ls) (dimensions_said v (n ∷ e ∷ l ∷ c ∷ ls))
    (dimension_is v n e l good) (member_due dues.DimensionName (dimensions v ls) c ls (dimensions_said v ls) (λ q. dimensions_due v ls (fine_on v c ls after)) (λ q k. rw k refl)) (λ i w. refl) ∙
    ap (λ w. if w then Some (dimensions_said v (n ∷ e ∷ l ∷ c ∷ ls)) else None) (only_completes (is_dimension n e l) dues.LengthSeparator (c ∷ ls) ∙ sym (four n e l c ls))
dimensions_due v _ h = grind arith
