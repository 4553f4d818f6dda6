-- The array of a variable is given back by the text of its values.
use Rattle.cdl_laws.proofs.Prelude.{nothing, is_some, ◌≡◌, ℕ, zero, suc, ◌*◌, ◌<◌, true, false, List, [], ◌∷◌, length, drop, take, map, sym, ◌∙◌, ap, refl, subst, arith, length-take, length-drop, ℤ, pos, ◌&&◌, ◌==◌, not, nat_lt, find, Some, rules, if◌then◌else◌, Option, int_eq, false≢true, Decides-int_eq, take-append-drop, Att, Dim, Header, Var, NcType, Version, fill_value, is_fill_att, value_count, IsArray, IsName, numbers, IsInRange, is_record_var, product, slab_lens, look_of, is_char, row_len, trimmed_att, trimmed_var, filled, array_of, and_left, is_off, is_on, Each, each_drop, each_map, each_take, slab_rows, has_values, listed_values, and_false, option_map, takes_of, Numbers, Joined, Rows, ◌≤◌, room_of, Characters, printed, Values, variable_text, IsStatement, Listed, Ok, char_pieces, append-nil, codes, Look}
use Rattle.cdl_laws.proofs.Attributes.{AreNumbersOf, numbers_are, all_fit, all_small}
use Rattle.cdl_laws.proofs.Readings.{flat, IsCharacter, IsWithin, value_said, numbers_say, numbers_listed, strings_say, all_closed, strings, marks_closed, line_listed, table_closed, rows_listed, back_whole}
use Rattle.cdl_laws.proofs.Characters as characters
use Rattle.cdl_laws.proofs.Texts.{Closed}
use Rattle.cdl_laws.proofs.DataTexts.{Gives, gives_all, given_draft}

-- ---- the fill value

-- trimming doesn't change which attribute has the fill value
pub found_trimmed : (atts : List Att) → find is_fill_att (map trimmed_att atts) ≡ option_map trimmed_att (find is_fill_att atts)
found_trimmed [] = refl
found_trimmed (a ∷ atts) = search (rules, found_trimmed atts)

pub same_fill : (var : Var) → is_char var.ty ≡ false → fill_value (trimmed_var var) ≡ fill_value var
unfolding fill_value
same_fill var h = grind (arith, found_trimmed var.atts)

-- ---- characters

are_characters : (ty : NcType) (xs : List ℤ) → is_char ty ≡ true → Each (IsInRange ty) xs → Each IsCharacter xs
are_characters ty xs h h2 = grind (arith, each_map)

-- ---- rows of characters

rows_of : ℕ → ℕ → List ℤ → List (List ℤ)
rows_of zero row xs = []
rows_of (suc k) row xs = take row xs ∷ rows_of k row (drop row xs)

flat_rows : (k row : ℕ) (xs : List ℤ) → length xs ≡ k * row → flat (rows_of k row xs) ≡ xs
unfolding rows_of
flat_rows zero row xs h = sym (nothing xs 0 row h refl)
flat_rows (suc k) row xs h = search (rules, length-drop, take-append-drop, flat_rows k row (drop row xs))

rows_are : (k row : ℕ) (xs : List ℤ) → length xs ≡ k * row → Each IsCharacter xs → Each (λ (s : List ℤ). (length s ≡ row) × Each IsCharacter s) (rows_of k row xs)
unfolding rows_of
rows_are zero row xs h all = tt
rows_are (suc k) row xs h all = grind (arith, length-take, each_take, length-drop, each_drop, rows_are k row (drop row xs))

-- ---- arrays

-- an array's numbers
pub array_gives : (dims : List Dim) (n : ℕ) (var : Var) (array : List ℕ) → IsArray dims n var array → AreNumbersOf var.ty array (value_count dims var n)
array_gives dims n var array is = numbers_are var.ty (value_count dims var n) array is.bytes is.whole

-- ---- rows of a variable

-- one whole row or more
abbrev WholeRows : ℕ → ℕ → Type 0
WholeRows total row = (k : ℕ) × (total ≡ suc k * row) × (0 < row)

some_rows : (k row total : ℕ) → total ≡ k * row → 0 < total → WholeRows total row
some_rows zero row total e some = grind arith
some_rows _ _ total e some = grind arith

table_rows : (dims : List Dim) (ids : List ℕ) (total m : ℕ) → not (nat_lt (length ids) 2) ≡ true → total ≡ product (slab_lens dims ids) * m → 0 < total → WholeRows total (row_len dims ids total)
table_rows dims ids total m rank e some =
    let h = is_off (nat_lt (length ids) 2) rank in
    let r = slab_rows dims ids h in
    let row = row_len dims ids 0 in
    subst (WholeRows total) (let same : row ≡ row_len dims ids total = rw (h) refl in same)
    (some_rows (r.rows * m) row total (e ∙ ap (λ p. p * m) r.whole ∙ (let g : r.rows * row * m ≡ r.rows * m * row = grind arith in g)) some)

-- ---- any variable

-- values of a variable, as many as it has and all in the range of its type, are given back by their text
gives : (v : Version) (h : Header) (n width : ℕ) (var : Var) (xs : List ℤ) → length xs ≡ value_count h.dims var n → 0 < value_count h.dims var n → Each (IsInRange var.ty) xs → IsName var.name →
    (is_char var.ty ≡ true → fill_value (trimmed_var var) ≡ fill_value var) → Gives v h.dims (look_of h var n width) var xs
unfolding look_of takes_of rows_of char_pieces
gives v h n width var [] len count range name fill = absurd (omega (arith, len, count))
gives v h n width var (x ∷ xs) len count range name fill =
    elim (is_char var.ty) as (λ c. is_char var.ty ≡ c → Gives v h.dims look var (x ∷ xs)) [
      | true ↦ (λ char. elim (look.in_rows) as (λ r. look.in_rows ≡ r → Gives v h.dims look var (x ∷ xs)) [ true ↦ table char | false ↦ line char ] refl)
      | false ↦ numbers
    ] refl
  where
    look : Look
    look = look_of h var n width

    room : IsWithin (room_of h.dims var) (length (x ∷ xs))
    room = grind arith

    one_row : look.in_rows ≡ false → length (x ∷ xs) ≤ look.row
    one_row e = let r : look.row ≡ value_count h.dims var n = rw (is_on (nat_lt (length var.dimids) 2) e) refl in omega (arith, r, len)

    trims : look.trimmed ≡ true → fill_value var ≡ pos 0
    trims e = (Decides-int_eq (fill_value var) (pos 0)).0 (and_left (int_eq (fill_value var) (pos 0)) (not (is_record_var h.dims var && (length var.dimids == 1))) e)

    numbers : is_char var.ty ≡ false → Gives v h.dims look var (x ∷ xs)
    numbers other =
        let taken : takes_of h.dims (trimmed_var var) ≡ Numbers var.ty look.fill = grind (arith, same_fill var other, other) in
        gives_all v h.dims look var (x ∷ xs) (map (value_said look) (x ∷ xs)) (numbers_say v look x xs name other one_row (all_small var.ty (x ∷ xs) range))
        (rw (taken) (numbers_listed look var.ty (room_of h.dims var) [] (x ∷ xs) room (all_fit var.ty (x ∷ xs) range)))

    -- a record variable of rank 1 isn't trimmed
    line : is_char var.ty ≡ true → look.in_rows ≡ false → Gives v h.dims look var (x ∷ xs)
    line char rank =
        let all = are_characters var.ty (x ∷ xs) char range in
        let taken : takes_of h.dims (trimmed_var var) ≡ Joined = grind (arith, char, rank) in
        let untrimmed : is_record_var h.dims var ≡ true → look.trimmed ≡ false = λ e. grind (arith, and_false, false≢true, is_on) in
        let closed = all_closed look x xs [] (codes " ") name char (one_row rank) (marks_closed (codes " ") refl) (rw (rank) refl) refl in
        record {
          said = Characters (printed look.trimmed 0 (x ∷ xs)) ∷ [];
          says = strings_say v look (variable_text look (x ∷ xs)) (x ∷ xs) [] name (subst (λ ys. Closed (variable_text look ys) (strings look (x ∷ xs) [])) (append-nil (x ∷ xs)) closed);
          listed = map pos (printed look.trimmed 0 (x ∷ xs));
          added = rw (taken) (line_listed (room_of h.dims var) look.trimmed (x ∷ xs) room);
          full = characters.row_back look.trimmed (length (x ∷ xs)) (fill_value (trimmed_var var)) (x ∷ xs) (λ t. fill char ∙ trims t) refl all;
          exact = λ e. ap (λ t. map pos (printed t 0 (x ∷ xs))) (untrimmed e) ∙ back_whole (x ∷ xs) all;
        }

    table : is_char var.ty ≡ true → look.in_rows ≡ true → Gives v h.dims look var (x ∷ xs)
    table char rank =
        let some = table_rows h.dims var.dimids (value_count h.dims var n) (if is_record_var h.dims var then n else 1) rank refl count in
        let split : length (x ∷ xs) ≡ suc some.0 * look.row = len ∙ some.1 in
        let r = take look.row (x ∷ xs) in
        let rows = rows_of some.0 look.row (drop look.row (x ∷ xs)) in
        let said = map Characters (map (printed look.trimmed 0) (r ∷ rows)) in
        let same : flat (r ∷ rows) ≡ x ∷ xs = flat_rows (suc some.0) look.row (x ∷ xs) split in
        let all = rows_are (suc some.0) look.row (x ∷ xs) split (are_characters var.ty (x ∷ xs) char range) in
        let lens = each_map (λ (s : List ℤ). (length s ≡ look.row) × Each IsCharacter s) (λ (s : List ℤ). length s ≡ look.row) (r ∷ rows) (λ s p. p.0) all in
        let taken : takes_of h.dims (trimmed_var var) ≡ Rows look.row look.fill = (let f = fill char in grind (arith, char, rank, f)) in
        gives_all v h.dims look var (x ∷ xs) said
        (subst (λ ys. IsStatement v Values (variable_text look ys) (Listed var.name said)) same (strings_say v look (variable_text look (flat (r ∷ rows))) r rows name (table_closed look r rows name char rank some.2 lens)))
        (rw (taken) (rows_listed look.row look.fill (room_of h.dims var) look.trimmed [] (r ∷ rows) trims (rw (same) room) all ∙ ap Ok same))

-- the text of its values, if it has any, gives back its array
pub record IsBack (v : Version) (h : Header) (n width : ℕ) (var : Var) (array : List ℕ) : Type 0 where
  pub o : Option (Gives v h.dims (look_of h var n width) var (numbers var.ty array))
  pub shown : is_some o ≡ has_values h.dims n var
  pub back : array_of h.dims n (given_draft var (option_map (λ g. g.listed) o)) ≡ array
  pub exact : is_record_var h.dims var ≡ true → length (listed_values (given_draft var (option_map (λ g. g.listed) o))) ≡ value_count h.dims var n

-- any variable that has values is given back by their text: all of them, for every width and wherever the breaks are
pub row_back : (v : Version) (h : Header) (n width : ℕ) (var : Var) (array : List ℕ) → IsArray h.dims n var array → 0 < value_count h.dims var n → IsName var.name → (is_char var.ty ≡ true → fill_value (trimmed_var var) ≡ fill_value var) →
    (g : Gives v h.dims (look_of h var n width) var (numbers var.ty array)) × (array_of h.dims n (given_draft var (Some g.listed)) ≡ array)
unfolding look_of
row_back v h n width var array is count name fill =
    let are = array_gives h.dims n var array is in
    (gives v h n width var (numbers var.ty array) are.2 count are.1 name fill, search (rules, filled, are.0))

pub is_back : (v : Version) (h : Header) (n width : ℕ) (var : Var) (array : List ℕ) → IsArray h.dims n var array → IsName var.name → (is_char var.ty ≡ true → fill_value (trimmed_var var) ≡ fill_value var) → IsBack v h n width var array
is_back v h n width var array is name fill =
    elim (has_values h.dims n var) as (λ b. has_values h.dims n var ≡ b → IsBack v h n width var array) [
      | true ↦ (λ e.
          let r = row_back v h n width var array is (grind arith) name fill in
          record { o = Some r.0; shown = sym e; back = r.1; exact = λ k. rw (r.0.exact k) (array_gives h.dims n var array is).2 })
      | false ↦ (λ e. search (rules, nothing))
    ] refl
