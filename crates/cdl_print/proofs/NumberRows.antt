-- The numbers of a variable, one after another.
use Rattle.cdl_print.proofs.Prelude.{◌≡◌, ℕ, ℤ, pos, unsigned_abs, ◌+◌, ◌-◌, ◌<◌, ◌≤◌, Bool, true, false, cond, not, List, [], ◌∷◌, ◌++◌, length, sym, ◌∙◌, ap, refl, subst, arith, append_assoc, append-nil, length-append, nat_lt, Result, codes, ◌==◌, ◌&&◌, unwrap_or, rules, decimal, OnTrue_at, OnTrue_from, false≢true, cond-false, lt-ltb, nat_tests, Look, is_char, column, number_text, number_lead, line_break, number_piece, piece, variable_prefix, later_pieces, prefix-append, later_one, column-flat, column-broken, number_flat, place-add, SinkView, append, is_transparent, Appended, Written, IsFillOf, shows_below_100, lead_bytes, row_lead, lead_in_row, next_number_lead, columns_left_after, gathered, number_bytes, bytes_in_row, columns_left_in_row, text_in_row, columns_left_after_text, IsAfterNumber, IsAfter, values_after, NextValues, IsAfterNext, AppendedNext, WrittenNext, PrintedInRow, PutAt, PutInRow, Progress}
use Rattle.cdl_print.proofs.PrintingLaws.{after_then, next_appended, none_appended}
use Rattle.cdl_print.specs.declared.{lead.Lead.Lead, number_line.LastLine.LastLine, printed_fill.PrintedFill.PrintedFill}
use Rattle.cdl_print.specs.declared.lead.Lead.TheVariants.{Comma, NewLine}

-- a line that is full, by its columns left and by its columns
columns_left_test : (width col columns_left len : ℕ) → columns_left ≡ width - col → nat_lt columns_left (len + 4) ≡ nat_lt width (col + 2 + len + 2)
columns_left_test width col columns_left len is = search (rules, lt-ltb, nat_tests)

-- the columns left after a lead
columns_left_is : (lead : Lead) (before : List ℕ) (columns_left width : ℕ) → columns_left ≡ width - column before → columns_left_after lead columns_left width ≡ width - column (before ++ lead_bytes lead)
columns_left_is lead before columns_left width h = grind (arith, column-flat, codes, column-broken)

-- what stands before a row's first number, value i
abbrev row_lead_bytes : Look → ℕ → List ℕ
row_lead_bytes look i = cond look.in_rows (cond (i == 0) (codes "\n  ") (codes ",\n  ")) (codes " ")

row_gap_is : (look : Look) (i : ℕ) → lead_bytes (row_lead look i) ≡ row_lead_bytes look i
row_gap_is look i = grind (arith, codes "\n ", codes ",\n ", codes " ")

-- what stands before a number that isn't its row's first
comma_gap : (breaks : Bool) → lead_bytes (cond breaks NewLine Comma) ≡ codes ", " ++ cond breaks (codes "\n    ") []
comma_gap breaks = grind arith

-- the lead is what stands before the number
gap_at : (look : Look) (prefix : List ℕ) (i columns_left len : ℕ) (first : Bool) → columns_left ≡ look.width - column prefix
    → lead_bytes (cond first (row_lead look i) (cond (nat_lt columns_left (len + 4)) NewLine Comma))
    ≡ cond first (row_lead_bytes look i) (codes ", ")
    ++ cond (not first && nat_lt look.width (column (prefix ++ cond first (row_lead_bytes look i) (codes ", ")) + len + 2)) (codes "\n    ") []
gap_at look prefix i columns_left len first h = grind (arith, row_gap_is, append-nil, column-flat, codes, comma_gap, columns_left_test, column)

gap_is : (look : Look) (xs : List ℤ) (p : Progress) (len : ℕ) → is_char look.ty ≡ false → IsAfter look xs p
    → lead_bytes (next_number_lead look p len) ≡ number_lead look (length xs) ++ line_break look (length xs) (column (variable_prefix look xs ++ number_lead look (length xs)) + len)
gap_is look xs p len is following = search (rules, gap_at)

-- the next number's text is the next value's piece
bytes_are : (look : Look) (xs : List ℤ) (p : Progress) (x : ℤ) → is_char look.ty ≡ false → IsAfter look xs p → number_bytes look p x ≡ later_pieces look xs (x ∷ [])
unfolding piece number_piece
bytes_are look xs p x is following =
    ap (λ (t : List ℕ). t ++ number_text look x) (gap_is look xs p (length (number_text look x)) is following) ∙ sym (later_one look xs x ∙ cond-false (is_char look.ty) _ _ is)

columns_left_next : (look : Look) (xs : List ℤ) (p q : Progress) (x : ℤ) → is_char look.ty ≡ false → IsAfter look xs p → IsAfterNumber look p x q
    → q.columns_left ≡ look.width - column (variable_prefix look (xs ++ x ∷ []))
columns_left_next look xs p q x is following next =
    let prefix = variable_prefix look xs in
    let text = number_text look x in
    let lead = next_number_lead look p (length text) in
    let whole : variable_prefix look (xs ++ x ∷ []) ≡ (prefix ++ lead_bytes lead) ++ text
    = prefix-append look xs (x ∷ []) (λ char some. absurd (false≢true (sym is ∙ char))) ∙ ap (λ (t : List ℕ). prefix ++ t) (sym (bytes_are look xs p x is following)) ∙ sym (append_assoc prefix (lead_bytes lead) text) in
    let col = ap column whole ∙ column-flat (prefix ++ lead_bytes lead) text (number_flat look x) in
    let columns_left = columns_left_is lead prefix p.columns_left look.width (following.columns_left is) in
    omega (arith, col, columns_left, next.columns_left)

after_next : (look : Look) (xs : List ℤ) (p q : Progress) (x : ℤ) → is_char look.ty ≡ false → IsAfter look xs p → IsAfterNumber look p x q → IsAfter look (xs ++ x ∷ []) q
after_next look xs p q x is following next =
    grind (arith, length-append xs (x ∷ []), place-add (length xs) 1 look.row, columns_left_next look xs p q x is following next, false≢true)

-- ---- what is gathered

gathered_appended : (old new text : List ℕ) → new ≡ old ++ text → Appended (gathered old) (gathered new) text
unfolding append
gathered_appended old new text is = record { failures = refl; taken = OnTrue_from _ _ (λ _. ap gathered is) }

gathered_is : (text pieces : List ℕ) → Appended (gathered []) (gathered text) pieces → text ≡ pieces
unfolding append is_transparent
gathered_is text pieces appended = ap (λ (s : SinkView). unwrap_or s.taken []) (OnTrue_at {P = gathered text ≡ append (gathered []) pieces} refl appended.taken)

-- a number is gathered
pub after_number : (look : Look) (x : ℤ) (p q : Progress) → is_char look.ty ≡ false → IsAfterNumber look p x q → IsAfterNext (values_after look p (x ∷ [])) q
after_number look x p q is next = record { position = next.position; following = λ xs following. after_next look xs p q x is following next }

pub number_appended : (look : Look) (x : ℤ) (p : Progress) (old new : List ℕ) → is_char look.ty ≡ false
    → new ≡ old ++ number_bytes look p x → AppendedNext (values_after look p (x ∷ [])) (gathered old) (gathered new)
number_appended look x p old new is text = search (rules, bytes_are, gathered_appended, number_bytes)

-- what was gathered is written in one piece
pub gathered_written : {X E : Type 0} (n : NextValues) (text : List ℕ) (old new : SinkView) (r : Result X E)
    → AppendedNext n (gathered []) (gathered text) → Written old new text r → WrittenNext old new n r
gathered_written n text old new r h h2 = grind (arith, gathered_is)

-- ---- numbers of one row

-- a comma stands before a text of one or two bytes where a line has room for it and two bytes more
comma_before : (columns_left len : ℕ) → len ≤ 2 → 6 ≤ columns_left → lead_in_row columns_left len ≡ Comma
comma_before columns_left len short enough = let on_line : nat_lt columns_left (len + 4) ≡ false = grind (arith, nat_tests) in cond-false (nat_lt columns_left (len + 4)) NewLine Comma on_line

text_after_comma : (columns_left : ℕ) (before now new text : List ℕ) → length text ≤ 2 → 6 ≤ columns_left → now ≡ before ++ codes ", " → new ≡ now ++ text
    → new ≡ before ++ text_in_row columns_left text
text_after_comma columns_left before now new text short enough comma written = search (rules, append_assoc, codes, comma_before)

columns_after_comma : (width columns_left len : ℕ) (text : List ℕ) → length text ≡ len → len ≤ 2 → 6 ≤ columns_left → columns_left - (2 + len) ≡ columns_left_after_text width columns_left text
columns_after_comma width columns_left len text long short enough = search (rules, comma_before)

-- a number below 100 that isn't the fill value prints in decimal
pub shown_digits : (look : Look) (fill : PrintedFill) (number : ℤ) → IsFillOf look fill → shows_below_100 fill.below_100 number ≡ true → number_text look number ≡ decimal (unsigned_abs number)
shown_digits look fill number h h2 = grind (arith, pos, nat_tests, codes, decimal, false≢true)

-- a text of one or two bytes is put after a comma
pub put_after_comma : (width : ℕ) (line : LastLine) (old now new : List ℕ) (start len : ℕ) (text : List ℕ) → length text ≡ len → len ≤ 2 → 6 ≤ line.columns_left
    → PutAt line.end old start now (codes ", ") → PutAt start now (start + len) new text → PutInRow width text line old (record { end = start + len; columns_left = line.columns_left - (2 + len) }) new
put_after_comma width line old now new start len text long short enough comma written = search (rules, text_after_comma, columns_after_comma)

-- no number
pub in_row_none : (look : Look) (columns_left : ℕ) (text : List ℕ) → PrintedInRow look [] columns_left columns_left text text
unfolding append
in_row_none look columns_left text p is before some within fits = (none_appended look p (gathered text), at_same)
  where
    at_same : (q : Progress) → q.columns_left ≡ columns_left → q.position ≡ p.position + 0 → q.row_index ≡ cond (p.row_index + 0 == look.row) 0 (p.row_index + 0) → IsAfterNext (values_after look p []) q
    at_same q after position row_index =
        let same : q.row_index ≡ p.row_index = row_index ∙ cond-false (p.row_index + 0 == look.row) 0 (p.row_index + 0) (grind (arith, nat_tests)) ∙ omega arith in
        let place : q.position ≡ p.position = omega (arith, position) in
        record {
          position = position;
          following = λ xs following. subst (λ (ys : List ℤ). IsAfter look ys q) (sym (append-nil xs)) (record {
            position = place ∙ following.position;
            row_index = same ∙ following.row_index;
            columns_left = λ c. after ∙ sym before ∙ following.columns_left c;
            held = λ c. absurd (false≢true (sym is ∙ c));
          });
        }

-- how far the values are printed after n more, before the last value of their row
abbrev within_row : Progress → ℕ → ℕ → Progress
within_row p n columns_left = record {
  position = p.position + n;
  row_index = p.row_index + n;
  columns_left = columns_left;
  held_nuls = 0;
  in_row = omega (arith, p.in_row);
  waiting = omega arith;
}

-- a number more
pub in_row_next : (look : Look) (ys : List ℤ) (x : ℤ) (first before after : ℕ) (old now new : List ℕ) → PrintedInRow look ys first before old now
    → new ≡ now ++ bytes_in_row look before x → after ≡ columns_left_in_row look before x → PrintedInRow look (ys ++ x ∷ []) first after old new
in_row_next look ys x first before after old now new printed text columns p is start some within fits =
    let n = length-append ys (x ∷ []) in
    let m = within_row p (length ys) before in
    let more : m.row_index + 1 ≡ p.row_index + length (ys ++ x ∷ []) = omega (arith, n) in
    let not_first : (m.row_index == 0) ≡ false = grind (arith, nat_tests) in
    let not_full : (p.row_index + length ys == look.row) ≡ false = let lt : p.row_index + length ys < look.row = omega (arith, n, fits) in grind (arith, nat_tests) in
    let lead : next_number_lead look m (length (number_text look x)) ≡ lead_in_row before (length (number_text look x)) = cond-false (m.row_index == 0) _ _ not_first in
    let first_ones = printed p is start some within (omega (arith, n, fits)) in
    let between = first_ones.1 m refl refl (sym (cond-false (p.row_index + length ys == look.row) 0 (p.row_index + length ys) not_full)) in (
      next_appended look ys (x ∷ []) p m (gathered old) (gathered now) (gathered new) between first_ones.0
          (number_appended look x m now new is (text ∙ ap (λ g. now ++ (lead_bytes g ++ number_text look x)) (sym lead))),
      λ q finish position row_index. after_then look ys (x ∷ []) p m q between (after_number look x m q is (record {
        position = omega (arith, position, n);
        row_index = row_index ∙ ap (λ k. cond (k == look.row) 0 k) (sym more);
        columns_left = finish ∙ columns ∙ ap (λ g. columns_left_after g before look.width - length (number_text look x)) (sym lead);
      })),
    )

-- of all numbers, those done are printed in a row, and the others are to come
pub record IsInRow (look : Look) (first now : ℕ) (old new : List ℕ) (others all : List ℤ) : Type 0 where
  pub done : List ℤ
  pub printed : PrintedInRow look done first now old new
  pub joined : done ++ others ≡ all

pub in_row_at_first : (look : Look) (first : ℕ) (text : List ℕ) (all : List ℤ) → IsInRow look first first text text all all
in_row_at_first look first text all = record { done = []; printed = in_row_none look first text; joined = refl }

pub in_row_goes_on : (look : Look) (first before after : ℕ) (old now new : List ℕ) (x : ℤ) (others later all : List ℤ) → IsInRow look first before old now others all → others ≡ x ∷ later
    → new ≡ now ++ bytes_in_row look before x → after ≡ columns_left_in_row look before x → IsInRow look first after old new later all
in_row_goes_on look first before after old now new x others later all along is text columns = record {
  done = along.done ++ x ∷ [];
  printed = in_row_next look along.done x first before after old now new along.printed text columns;
  joined = append_assoc along.done (x ∷ []) later ∙ ap (λ (ys : List ℤ). along.done ++ ys) (sym is) ∙ along.joined;
}

pub in_row_all : (look : Look) (first now : ℕ) (old new : List ℕ) (others all : List ℤ) → IsInRow look first now old new others all → others ≡ [] → PrintedInRow look all first now old new
in_row_all look first now old new others all along none =
    subst (λ (ys : List ℤ). PrintedInRow look ys first now old new) (sym (append-nil along.done) ∙ ap (λ (ys : List ℤ). along.done ++ ys) (sym none) ∙ along.joined) along.printed
