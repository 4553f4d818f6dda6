-- The text of a variable's first values, value by value: numbers, and characters row by row.
use Rattle.nc_base.proofs.Prelude.{nat_lt, ◌≡◌, ℕ, zero, suc, ◌+◌, ◌-◌, ◌*◌, ◌%◌, ◌<◌, ◌≤◌, Bool, true, false, List, [], ◌∷◌, ◌++◌, length, map, filter, take, drop, slice_index, sym, ◌∙◌, ap, refl, subst, arith, append_assoc, append-nil, length-append, ℤ, unsigned_abs, ◌&&◌, ◌==◌, if◌then◌else◌, replicate, rules, flat_map, range_with_len, suffix_len, prefix_len-append, suffix_len_is, suffix_len-le-length, get_or-replicate, length-replicate, eqb-true, take_at, length-take, reverse-append, drop_all, take_all, take-append-drop, length-drop, drop_at, mod-mul-add, filter-append, flat_map-append, escaped_text, escaped_in_string, Look, is_char, begins_row, char_lead, char_text, char_piece, held, is_nul, piece, pieces, number_pieces, characters_text, printed_bytes, row_text, without_trailing_nuls, variable_opening, variable_prefix, Dim, Header, Var, look_of, product, row_len, slab_lens, value_count, is_record_var, dim_len, is_record_shape}
use Rattle.nc_base.proofs.WholeValues.{range-add}

pub escaped-append : (a b : List ℕ) → escaped_text (a ++ b) ≡ escaped_text a ++ escaped_text b
unfolding escaped_text
escaped-append a b = flat_map-append escaped_in_string a b

-- ---- numbers

numbers_are : (look : Look) (before : List ℕ) (values xs : List ℤ) → is_char look.ty ≡ false → pieces look before values xs ≡ number_pieces look before (length values) xs
unfolding pieces piece number_pieces
numbers_are look before values [] h = refl
numbers_are look before values (x ∷ xs) h =
    grind (arith, pieces, piece, number_pieces, length-append, numbers_are look (before ++ piece look before values x) (values ++ x ∷ []) xs h)

-- ---- the pieces, without the text before them

unfoldable pub char_pieces : Look → List ℤ → List ℤ → List ℕ
char_pieces look values [] = []
char_pieces look values (x ∷ xs) = char_piece look values x ++ char_pieces look (values ++ x ∷ []) xs

pub pieces_are : (look : Look) (before : List ℕ) (values xs : List ℤ) → is_char look.ty ≡ true → pieces look before values xs ≡ char_pieces look values xs
unfolding pieces piece char_pieces
pieces_are look before values [] h = refl
pieces_are look before values (x ∷ xs) h =
    grind (arith, pieces, piece, pieces_are look (before ++ piece look before values x) (values ++ x ∷ []) xs h)

-- ---- one row

-- the bytes that are printed of the rest of a row, after n NULs that are held back
unfoldable pub printed : Bool → ℕ → List ℤ → List ℕ
printed trimmed n [] = []
printed trimmed n (x ∷ xs) = if trimmed && is_nul x then printed trimmed (n + 1) xs else (replicate n 0 ++ unsigned_abs x ∷ []) ++ printed trimmed 0 xs

-- how many NULs are held back after these values of a row
abbrev waits : Look → List ℤ → ℕ
waits look p = if look.trimmed then suffix_len is_nul p else 0

waits_more : (look : Look) (p : List ℤ) (x : ℤ) → (look.trimmed && is_nul x) ≡ true → waits look (p ++ x ∷ []) ≡ waits look p + 1
waits_more look p x h = grind (arith, reverse-append)

waits_none : (look : Look) (p : List ℤ) (x : ℤ) → (look.trimmed && is_nul x) ≡ false → waits look (p ++ x ∷ []) ≡ 0
waits_none look p x h = grind (arith, reverse-append)

inside : (look : Look) (done p : List ℤ) (k : ℕ) → length done ≡ k * look.row → 0 < length p → length p < look.row → begins_row look (length (done ++ p)) ≡ false
inside look done p k h some small = search (rules, length-append, mod-mul-add)

pub printed_more : (t : Bool) (n : ℕ) (x : ℤ) (xs : List ℤ) → printed t n (x ∷ xs) ≡ (if t && is_nul x then printed t (n + 1) xs else (replicate n 0 ++ unsigned_abs x ∷ []) ++ printed t 0 xs)
unfolding printed
printed_more t n x xs = refl

-- a character and what its row shows after it
joins : (look : Look) (n m : ℕ) (x : ℤ) (xs : List ℤ) (tail : List ℕ) → ((look.trimmed && is_nul x) ≡ true → m ≡ n + 1) → ((look.trimmed && is_nul x) ≡ false → m ≡ 0) →
    char_text look n x ++ (escaped_text (printed look.trimmed m xs) ++ tail) ≡ escaped_text (printed look.trimmed n (x ∷ xs)) ++ tail
joins look n m x xs tail on other = grind (arith, printed_more, append_assoc, escaped-append)

in_row : (look : Look) (done p xs rest : List ℤ) (k : ℕ) → length done ≡ k * look.row → 0 < length p → length p + length xs ≤ look.row →
    char_pieces look (done ++ p) (xs ++ rest) ≡ escaped_text (printed look.trimmed (waits look p) xs) ++ char_pieces look (done ++ (p ++ xs)) rest
unfolding char_pieces printed escaped_text char_piece
in_row look done p [] rest k h some small = ap (λ q. char_pieces look (done ++ q) rest) (sym (append-nil p))
in_row look done p (x ∷ xs) rest k h some small =
    grind (arith, length-append, inside, mod-mul-add, drop_at, append_assoc, joins, in_row look done (p ++ x ∷ []) xs rest k h, reverse-append)

first_place : (k row : ℕ) → (k * row) % row ≡ 0
first_place k zero = let none : k * zero ≡ 0 = omega arith in ap (λ n. n % 0) none
first_place k (suc row) = ap (λ n. n % suc row) (let same : k * suc row ≡ k * suc row + 0 = omega arith in same) ∙ mod-mul-add k (suc row) 0 (omega arith)

-- a row, with what stands before it
starts : (look : Look) (done : List ℤ) (k : ℕ) → length done ≡ k * look.row → begins_row look (length done) ≡ true
starts look done k h = rw (ap (λ n. n % look.row) h ∙ first_place k look.row) refl

zero_or : (t : Bool) (z : ℕ) → z ≡ 0 → (if t then z else 0) ≡ 0
zero_or t z h = grind arith

none_held : (look : Look) (done : List ℤ) (k : ℕ) → length done ≡ k * look.row → held look done ≡ 0
none_held look done k h = grind (arith, first_place, drop_all)

char_first : (look : Look) (done : List ℤ) (k : ℕ) (x : ℤ) → length done ≡ k * look.row → char_piece look done x ≡ char_lead look (length done) ++ char_text look 0 x
unfolding char_piece
char_first look done k x h = rw (starts look done k h) (ap (λ n. char_lead look (length done) ++ char_text look n x) (none_held look done k h))

pub a_row : (look : Look) (done : List ℤ) (x : ℤ) (xs rest : List ℤ) (k : ℕ) → length done ≡ k * look.row → length (x ∷ xs) ≤ look.row →
    char_pieces look done ((x ∷ xs) ++ rest) ≡ char_lead look (length done) ++ (escaped_text (printed look.trimmed 0 (x ∷ xs)) ++ char_pieces look (done ++ (x ∷ xs)) rest)
unfolding char_pieces
a_row look done x xs rest k h small =
    ap (λ c. c ++ char_pieces look (done ++ x ∷ []) (xs ++ rest)) (char_first look done k x h) ∙
    append_assoc (char_lead look (length done)) (char_text look 0 x) (char_pieces look (done ++ x ∷ []) (xs ++ rest)) ∙
    ap (λ m. char_lead look (length done) ++ m)
    (ap (λ m. char_text look 0 x ++ m) (in_row look done (x ∷ []) xs rest k h (omega arith) (let e : suc (length xs) ≤ look.row = small in omega (arith, e))) ∙
    joins look 0 (waits look (x ∷ [])) x xs (char_pieces look (done ++ ((x ∷ []) ++ xs)) rest) (λ e. waits_more look [] x e ∙ ap (λ n. n + 1) (zero_or look.trimmed (suffix_len is_nul []) refl)) (waits_none look [] x))

-- ---- the NULs at a row's end

abbrev nul : ℕ → Bool
nul b = b == 0

-- those before another byte aren't at the end
ends_after : (bytes : List ℕ) (b : ℕ) (more : List ℕ) → nul b ≡ false → suffix_len nul ((bytes ++ b ∷ []) ++ more) ≡ suffix_len nul more
ends_after bytes b more h = grind (arith, reverse-append, prefix_len-append)

take_past : (a b : List ℕ) (n : ℕ) → take (length a + n) (a ++ b) ≡ a ++ take n b
take_past [] b n = ap (λ k. take k b) (let none : 0 + n ≡ n = omega arith in none)
take_past (x ∷ a) b n = ap (λ k. take k (x ∷ (a ++ b))) (let more : suc (length a) + n ≡ suc (length a + n) = omega arith in more) ∙ ap (λ (t : List ℕ). x ∷ t) (take_past a b n)

without_append : (bytes : List ℕ) (b : ℕ) (more : List ℕ) → nul b ≡ false
    → without_trailing_nuls ((bytes ++ b ∷ []) ++ more) ≡ (bytes ++ b ∷ []) ++ without_trailing_nuls more
without_append bytes b more h =
    let all = length-append (bytes ++ b ∷ []) more in
    let few = suffix_len-le-length nul more in
    let end = ends_after bytes b more h in
    let len : length ((bytes ++ b ∷ []) ++ more) - suffix_len nul ((bytes ++ b ∷ []) ++ more) ≡ length (bytes ++ b ∷ []) + (length more - suffix_len nul more) = omega (arith, all, few, end) in
    ap (λ n. take n ((bytes ++ b ∷ []) ++ more)) len ∙ take_past (bytes ++ b ∷ []) more (length more - suffix_len nul more)

only_nuls : (n : ℕ) → suffix_len nul (replicate n 0) ≡ n
only_nuls n =
    let len = length-replicate {A = ℕ} n 0 in
    let all = suffix_len_is nul (replicate n 0) 0 0 (omega arith) (λ i from below. ap nul (get_or-replicate n i 0 0 (omega (arith, below, length-replicate {A = ℕ} n 0)))) (λ h. absurd (omega arith)) in
    omega (arith, all, len)

without_nuls : (n : ℕ) → without_trailing_nuls (replicate n 0) ≡ []
without_nuls n = grind (arith, only_nuls, length-replicate)

one_more : (n : ℕ) (bytes : List ℕ) → replicate (n + 1) 0 ++ bytes ≡ replicate n 0 ++ 0 ∷ bytes
one_more zero bytes = refl
one_more (suc n) bytes = grind (arith, one_more n bytes)

trimmed_is : (n : ℕ) (xs : List ℤ) → printed true n xs ≡ without_trailing_nuls (replicate n 0 ++ map unsigned_abs xs)
unfolding printed
trimmed_is n [] = sym (ap without_trailing_nuls (append-nil (replicate n 0)) ∙ without_nuls n)
trimmed_is n (x ∷ xs) = elim (is_nul x) as (λ b. is_nul x ≡ b → printed true n (x ∷ xs) ≡ without_trailing_nuls (replicate n 0 ++ unsigned_abs x ∷ map unsigned_abs xs)) [
  | true ↦ λ h. grind (arith, printed_more, trimmed_is (n + 1) xs, one_more, eqb-true)
  | false ↦ λ h.
      printed_more true n x xs ∙ rw (h) (
      ap (λ (b : List ℕ). (replicate n 0 ++ unsigned_abs x ∷ []) ++ b) (trimmed_is 0 xs)
      ∙ sym (without_append (replicate n 0) (unsigned_abs x) (map unsigned_abs xs) h)
      ∙ ap without_trailing_nuls (append_assoc (replicate n 0) (unsigned_abs x ∷ []) (map unsigned_abs xs)))
] refl

whole_is : (xs : List ℤ) → printed false 0 xs ≡ map unsigned_abs xs
unfolding printed
whole_is [] = refl
whole_is (x ∷ xs) = ap (λ (b : List ℕ). unsigned_abs x ∷ b) (whole_is xs)

pub printed_is : (look : Look) (row : List ℤ) → printed look.trimmed 0 row ≡ printed_bytes look row
printed_is look row = grind (arith, trimmed_is, whole_is)

-- ---- row after row

-- the rows that begin with one of m values from value i on
abbrev rows_from : Look → List ℤ → ℕ → ℕ → List ℕ
rows_from look values i m = flat_map (row_text look values) (filter (begins_row look) (range_with_len i m))

none_begins : (look : Look) (i m : ℕ) → ((j : ℕ) → i ≤ j → j < i + m → begins_row look j ≡ false) → filter (begins_row look) (range_with_len i m) ≡ []
none_begins look i zero h = refl
none_begins look i (suc m) h = rw (h i (omega arith) (omega arith)) (none_begins look (i + 1) m (λ j from below. h j (omega (arith, from)) (omega (arith, below))))

inside_row : (look : Look) (k j : ℕ) → k * look.row < j → j < k * look.row + look.row → begins_row look j ≡ false
inside_row look k j after before = grind arith

-- the row that begins with value i, and those after its values
first_row : (look : Look) (values : List ℤ) (k m n : ℕ) → suc m ≤ look.row
    → rows_from look values (k * look.row) (suc m + n) ≡ row_text look values (k * look.row) ++ rows_from look values (k * look.row + suc m) n
first_row look values k m n within = grind (arith, first_place, none_begins, inside_row, range-add, filter-append)

row_is : (look : Look) (done row rest : List ℤ) → length row ≤ look.row → (0 < length rest → length row ≡ look.row)
    → take look.row (drop (length done) (done ++ (row ++ rest))) ≡ row
row_is look done row [] within full = grind (arith, drop_at, append-nil, take_all)
row_is look done row (y ∷ rest) within full = grind (arith, drop_at, take_at)

rows_are : (fuel k : ℕ) (look : Look) (done xs : List ℤ) → length done ≡ k * look.row → 0 < look.row → length xs ≤ fuel
    → char_pieces look done xs ≡ rows_from look (done ++ xs) (length done) (length xs)
unfolding char_pieces
rows_are fuel k look done [] h wide few = refl
rows_are zero k look done (x ∷ xs) h wide few = absurd (omega arith)
rows_are (suc fuel) k look done (x ∷ xs) h wide few =
    let m = look.row - 1 in
    let row = x ∷ take m xs in
    let rest = drop m xs in
    let split : take m xs ++ rest ≡ xs = take-append-drop m xs in
    let row_len = length-take m xs in
    let rest_len = length-drop m xs in
    let within : length row ≤ look.row = omega (arith, row_len, wide) in
    let full : 0 < length rest → length row ≡ look.row = λ some. omega (arith, row_len, rest_len, some, wide) in
    let all : length (x ∷ xs) ≡ suc (length (take m xs)) + length rest = omega (arith, row_len, rest_len) in
    let text : row_text look (done ++ (row ++ rest)) (length done) ≡ char_lead look (length done) ++ escaped_text (printed look.trimmed 0 row) =
    search (rules, row_is, printed_is) in
    let v = done ++ (row ++ rest) in
    let on : char_pieces look (done ++ row) rest ≡ rows_from look v (k * look.row + length row) (length rest) =
    after look (done ++ row) rest (λ some. rows_are fuel (k + 1) look (done ++ row) rest (omega (arith, length-append done row, h, full some)) wide (omega (arith, few, rest_len)))
    ∙ ap (λ (values : List ℤ). rows_from look values (length (done ++ row)) (length rest)) (append_assoc done row rest)
    ∙ ap (λ j. rows_from look v j (length rest)) (length-append done row ∙ ap (λ n. n + length row) h) in
    ap (char_pieces look done) (ap (λ (l : List ℤ). x ∷ l) (sym split))
    ∙ a_row look done x (take m xs) rest k h within
    ∙ sym (append_assoc (char_lead look (length done)) (escaped_text (printed look.trimmed 0 row)) (char_pieces look (done ++ row) rest))
    ∙ ap (λ (b : List ℕ). b ++ char_pieces look (done ++ row) rest) (sym text)
    ∙ ap (λ (b : List ℕ). row_text look v (length done) ++ b) on
    ∙ ap (λ j. row_text look v j ++ rows_from look v (k * look.row + length row) (length rest)) h
    ∙ sym (first_row look v k (length (take m xs)) (length rest) within)
    ∙ ap (rows_from look v (k * look.row)) (sym all)
    ∙ ap (λ j. rows_from look v j (length (x ∷ xs))) (sym h)
    ∙ ap (λ (l : List ℤ). rows_from look (done ++ x ∷ l) (length done) (length (x ∷ xs))) split
  where
    after : (look : Look) (done rest : List ℤ) → (0 < length rest → char_pieces look done rest ≡ rows_from look (done ++ rest) (length done) (length rest))
        → char_pieces look done rest ≡ rows_from look (done ++ rest) (length done) (length rest)
    after look done [] h = refl
    after look done (x ∷ rest) h = h (omega arith)

-- ---- the first values

-- a row has values, if there are n of them and they are characters
abbrev pub IsWide : Look → ℕ → Type 0
IsWide look n = is_char look.ty ≡ true → 0 < n → 0 < look.row

characters_are : (look : Look) (xs : List ℤ) → (0 < length xs → 0 < look.row) → char_pieces look [] xs ≡ characters_text look xs
unfolding characters_text char_pieces
characters_are look [] wide = refl
characters_are look (x ∷ xs) wide = rows_are (suc (length xs)) 0 look [] (x ∷ xs) (omega arith) (wide (omega arith)) (omega arith)

pub prefix_is : (look : Look) (xs : List ℤ) → IsWide look (length xs) → variable_prefix look xs ≡ variable_opening look ++ pieces look (variable_opening look) [] xs
unfolding variable_prefix
prefix_is look xs wide = grind (arith, pieces_are, characters_are, numbers_are)

last_some : (f : ℕ → ℕ) (id : ℕ) (ids : List ℕ) → 0 < product (map f (id ∷ ids)) → 0 < f (slice_index (id ∷ ids) (length ids))
last_some f id [] some = let same : product (map f (id ∷ [])) ≡ f id = omega arith in omega (arith, some, same)
last_some f id (next ∷ ids) some = last_some f next ids (right (f id) (product (map f (next ∷ ids))) some)
  where
    right : (m n : ℕ) → 0 < m * n → 0 < n
    right m zero h = absurd (let none : m * 0 ≡ 0 = omega arith in omega (arith, h, none))
    right m (suc n) h = omega arith

row_some : (dims : List Dim) (ids : List ℕ) (m total : ℕ) → total ≡ product (slab_lens dims ids) * m → 0 < total → 0 < row_len dims ids total
row_some dims [] m total is some = some
row_some dims (a ∷ []) m total is some = some
row_some dims (a ∷ b ∷ ids) m total is some = subst (λ n. 0 < n) (sym row) (by (is_record_shape dims (a ∷ b ∷ ids)) refl)
  where
    f : ℕ → ℕ
    f = dim_len dims

    long : nat_lt (length (a ∷ b ∷ ids)) 2 ≡ false
    long = grind arith

    last_place : (n : ℕ) → suc (suc n) - 1 ≡ suc n
    last_place n = omega arith

    row : row_len dims (a ∷ b ∷ ids) total ≡ f (slice_index (a ∷ b ∷ ids) (suc (length ids)))
    row = rw (long) (ap (λ k. f (slice_index (a ∷ b ∷ ids) k)) (last_place (length ids)))

    lens : (c : Bool) → is_record_shape dims (a ∷ b ∷ ids) ≡ c → total ≡ product (map f (if c then b ∷ ids else a ∷ b ∷ ids)) * m
    lens c e = is ∙ ap (λ r. product (map f (if r then b ∷ ids else a ∷ b ∷ ids)) * m) e

    left : (m n : ℕ) → 0 < m * n → 0 < m
    left zero n h = absurd (let none : 0 * n ≡ 0 = omega arith in omega (arith, h, none))
    left (suc m) n h = omega arith

    by : (c : Bool) → is_record_shape dims (a ∷ b ∷ ids) ≡ c → 0 < f (slice_index (a ∷ b ∷ ids) (suc (length ids)))
    by true e = last_some f b ids (left (product (map f (b ∷ ids))) m (subst (λ n. 0 < n) (lens true e) some))
    by false e = last_some f a (b ∷ ids) (left (product (map f (a ∷ b ∷ ids))) m (subst (λ n. 0 < n) (lens false e) some))

-- a row of a variable that has values has some
pub wide_look : (h : Header) (var : Var) (n width : ℕ) → 0 < value_count h.dims var n → 0 < (look_of h var n width).row
unfolding look_of
wide_look h var n width some = row_some h.dims var.dimids (if is_record_var h.dims var then n else 1) (value_count h.dims var n) refl some
